-- The calls of a lease, one after the other, and how long what they write is at most. Assumes nothing.
use mathlib.Core.Path.{◌≡◌, refl, ◌∙◌}
use mathlib.Core.Bool.{Bool, true, false, cond}
use mathlib.Core.List.{List, ◌++◌}
use Prim.Native.Nat.{ℕ, zero, suc, ◌+◌, ◌-◌, ◌*◌, ◌/◌, ◌≤◌}
use native.Mathlib.Omega.{arith}
use lib.Dec.{eqb}
use lib.ListN.{length, drop, length-append}
use borrow.Author.Tests.{eq-eqb, ne_eqb, eqb-true}
use Rattle.calculator_rules.specs.Definition.{Machine, Outcome, ended, paused, stopped, Ending, nothing_done, steps, list_refusal, taken_up, start, run}
use Rattle.calculator_rules.proofs.Pauses.{fits}
use Rattle.program_digits.specs.Codes.{codes}
use Rattle.program_digits.proofs.Laws.{decimal_length}
use Rattle.program_listing.specs.Listing.{listing, refused_by}
use Rattle.lease.specs.Lease.{call_line, going_on, summed, calls, lease_text}
use Rattle.program_listing.proofs.Kept.{run_kept}
use Rattle.program_listing.proofs.Lines.{listing_length}

module _ (n : ℕ) (list : List ℕ) (place limit before : ℕ) (m : Machine) {e : Ending} (ran : e ≡ run list place limit m) where
  abbrev over : ℕ → List ℕ
  over refused = call_line e.done e.outcome ++ listing e.machine (before + e.done) refused

  pub ended_call : e.outcome ≡ ended → calls (suc n) list place limit before m ≡ over 0
  unfolding calls
  ended_call o = rw (← ran, o)

  pub stopped_call : (k : ℕ) → e.outcome ≡ stopped k → calls (suc n) list place limit before m ≡ over k
  unfolding calls
  stopped_call k o = rw (← ran, o)

  pub only_call : (q : ℕ) → e.outcome ≡ paused q → limit ≡ 0 → calls (suc n) list place limit before m ≡ over 0
  unfolding calls
  only_call q o z = rw (← ran, o) (simp (eq-eqb limit 0 z))

  pub next_call : (q : ℕ) → e.outcome ≡ paused q → (limit ≡ 0 → ⊥)
      → calls (suc n) list place limit before m ≡ call_line e.done e.outcome ++ calls n list q limit (before + e.done) e.machine
  unfolding calls
  next_call q o z = rw (← ran, o) (simp (ne_eqb limit 0 z))

-- A list that is paused has at most 256 steps.
pub few_steps : (list : List ℕ) (place limit q : ℕ) (m : Machine) → (run list place limit m).outcome ≡ paused q → length list / 32 ≤ 256
unfolding run
few_steps list place limit q m = by (eqb (list_refusal (length list) place limit) 0) refl where
  by : (t : Bool) → eqb (list_refusal (length list) place limit) 0 ≡ t
      → (cond t (steps (length list / 32 - place) limit place (drop (32 * place) list) (taken_up place m))
      (nothing_done m (stopped (list_refusal (length list) place limit)))).outcome ≡ paused q
      → length list / 32 ≤ 256
  by true t g = omega (arith, (fits (length list) place limit (eqb-true _ 0 t)).short)
  by false t g = absurd (let z : ◌≡◌ {A = ℕ} 0 1 = cc in omega arith)

going_length : (o : Outcome) (limit k : ℕ) (last : List ℕ) (next : ℕ → List ℕ) → length last ≤ k → ((q : ℕ) → length (next q) ≤ k)
    → length (going_on o limit last next) ≤ k
going_length ended limit k last next h t = h
going_length (stopped n) limit k last next h t = h
going_length (paused q) limit k last next h t = go (eqb limit 0) where
  go : (b : Bool) → length (cond b last (next q)) ≤ k
  go true = h
  go false = t q

line_length : (d : ℕ) (o : Outcome) → length (call_line d o) ≤ 56
unfolding codes
line_length d ended = simp length-append (omega (arith, decimal_length d))
line_length d (paused q) = simp length-append (omega (arith, decimal_length d, decimal_length q))
line_length d (stopped n) = simp length-append (omega (arith, decimal_length d, decimal_length n))

calls_length : (n : ℕ) (list : List ℕ) (place limit before : ℕ) (m : Machine) → length m.registers ≡ 16
    → length (calls n list place limit before m) ≤ 56 * n + 1007
unfolding calls
calls_length zero list place limit before m h = omega arith
calls_length (suc n) list place limit before m h =
    let e = run list place limit m in
    let k : length e.machine.registers ≡ 16 = run_kept list place limit m ∙ h in
    let last = listing_length e.machine (before + e.done) (refused_by e.outcome) k in
    let rest = going_length e.outcome limit (56 * n + 1007) (summed before e) (λ q. calls n list q limit (before + e.done) e.machine)
    (omega (arith, last)) (λ q. calls_length n list q limit (before + e.done) e.machine k) in
    simp length-append (omega (arith, simp length-append at (line_length e.done e.outcome), rest))

pub lease_within : (list : List ℕ) (place limit : ℕ) → length (lease_text list place limit) ≤ 16384
unfolding lease_text
lease_within list place limit = omega (arith, calls_length 257 list place limit 0 start refl)
