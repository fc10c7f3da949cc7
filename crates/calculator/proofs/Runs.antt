-- One turn of a run, and its ends: a step that is done, one that is refused, no step left, no step allowed. What is left of the run, with what is done before,
-- is the run. Assumes nothing.
use mathlib.Core.Path.{◌≡◌, refl, sym, ◌∙◌}
use mathlib.Core.Bool.{Bool, true, false, cond}
use mathlib.Core.List.{List}
use Prim.Native.Nat.{ℕ, suc, ◌+◌, ◌*◌, ◌-◌, ◌<◌, ◌≤◌}
use native.Mathlib.Nat.{add-zero}
use native.Mathlib.Numerals.{add-one}
use native.Mathlib.Omega.{arith}
use lib.ListN.{take, drop, replicate}
use lib.Seq.{drop-drop}
use lib.Dec.{ltb, eqb}
use borrow.Author.Tests.{ltb-true, ltb-false}
use Rattle.standard.specs.Refusal.{given, refused}
use Rattle.calculator_rules.specs.Definition.{Machine, Ending, ended, paused, stopped, reset, taken_up, counting, step, steps}
use Rattle.calculator_rules.proofs.Pauses.{twice, none_before}
use Rattle.calculator_scalar.specs.declared.Scalar.{Scalar}
use Rattle.calculator_state.specs.State.{held}
use Rattle.calculator.specs.Run.{ends}

-- what is left of a run of n steps at a place, with those done since it was taken up
abbrev pub rest : ℕ → ℕ → ℕ → List ℕ → ℕ → Machine → Ending
rest n place limit list at m = counting (at - place) (steps (n - at) (limit - (at - place)) at (drop (32 * at) list) m)

-- the numbers beside the registers where a run begins
pub numbered : (place : ℕ) (w n : List ℕ) (s : Scalar) {new : List ℕ} → new ≡ cond (eqb place 0) (replicate 16 0) n
    → held w new s ≡ taken_up place (held w n s)
numbered place w n s e = rw e (of (eqb place 0)) where
  of : (t : Bool) → held w (cond t (replicate 16 0) n) s ≡ cond t (reset (held w n s)) (held w n s)
  of true = refl
  of false = refl

pub starts : (n place limit : ℕ) (list : List ℕ) (m : Machine) → rest n place limit list place m ≡ steps (n - place) limit place (drop (32 * place) list) m
starts n place limit list m =
    let z : place - place ≡ 0 = omega arith in
    let l : limit - 0 ≡ limit = omega arith in
    rw (z, l) (sym (none_before (steps (n - place) limit place (drop (32 * place) list) m)))

module _ (n place limit at : ℕ) (list : List ℕ) (m : Machine) (since : place ≤ at) where
  module _ (more : at < n) (allowed : at < place + limit) where
    left : n - at ≡ suc (n - (at + 1))
    left = omega arith

    room : limit - (at - place) ≡ suc (limit - (at + 1 - place))
    room = omega arith

    pub turn : (next : Machine) → step at m (take 32 (drop (32 * at) list)) ≡ given next → rest n place limit list at m ≡ rest n place limit list (at + 1) next
    unfolding steps
    turn next e =
        let p : 32 * at + 32 ≡ 32 * (at + 1) = omega arith in
        let c : at - place + 1 ≡ at + 1 - place = omega arith in
        rw (left, room, e, drop-drop 32 (32 * at) list, p, ← c)
        (twice (at - place) 1 (steps (n - (at + 1)) (limit - (at - place + 1)) (suc at) (drop (32 * (at + 1)) list) next) ∙ rw add-one)

    pub stop : (k : ℕ) → step at m (take 32 (drop (32 * at) list)) ≡ refused k → rest n place limit list at m ≡ ends m (at - place) (stopped k)
    unfolding steps
    stop k e = rw (left, room, e, add-zero)

  ends_here : n ≤ at → rest n place limit list at m ≡ ends m (at - place) ended
  unfolding steps
  ends_here h =
      let z : n - at ≡ 0 = omega arith in
      rw (z, add-zero)

  pauses_here : at < n → at ≡ place + limit → rest n place limit list at m ≡ ends m (at - place) (paused at)
  unfolding steps
  pauses_here h e =
      let l : n - at ≡ suc (n - (at + 1)) = omega arith in
      let z : limit - (at - place) ≡ 0 = omega arith in
      rw (l, z, add-zero)

  -- where no step was refused, by whether steps are left
  pub stops_here : (at < n → at ≡ place + limit) → rest n place limit list at m ≡ ends m (at - place) (cond (ltb at n) (paused at) ended)
  stops_here h = by (ltb at n) refl where
    by : (b : Bool) → ltb at n ≡ b → rest n place limit list at m ≡ ends m (at - place) (cond (ltb at n) (paused at) ended)
    by true e = rw e (pauses_here (ltb-true at n e) (h (ltb-true at n e)))
    by false e = rw e (ends_here (ltb-false at n e))
