-- `finder::sought::Search::all` meets its contract: by words among the first positions, by columns among the others. Assumes nothing.
use Prim.Native.Nat.{ℕ, suc, ◌+◌, ◌*◌, ◌-◌, ◌/◌, ◌≤◌, min}
use mathlib.Core.Path.{◌≡◌, refl, sym, ap, ◌∙◌}
use mathlib.Core.Bool.{Bool, true, ◌||◌}
use mathlib.Core.List.{List}
use native.Mathlib.Omega.{arith}
use borrow.Author.Tests.{eqb-true, eqb-false}
use lib.ListN.{length}
use Rattle.std.specs.Prelude.{Option, Some, None, is_some}
use Rattle.finder_windows.specs.Definition.{first_from}
use Rattle.finder_windows.specs.declared.Found.{Found}
use Rattle.finder_windows.specs.Answer.{met_or_none}
use Rattle.finder_windows.proofs.Positions.{met_early, none_early}
use Rattle.finder_windows.proofs.Refusals.{both_false}
use Rattle.finder.proofs.sought.Search.all.Goals as goal

-- the positions are those of the definition
positions_are : (n f : ℕ) → f + 32 ≤ n → suc (n - (f + 32)) ≡ n - f - 31
positions_are n f h = omega arith

no_more : (n f w : ℕ) → f + 32 ≤ n → w ≡ min (n - f - 31) 9216 → w ≤ suc (n - (f + 32))
no_more n f w h e = omega arith

-- the words end at a byte where positions are left
at_a_byte : (n w : ℕ) → w ≡ min n 9216 → (w ≡ n → ⊥) → 0 + w ≡ 8 * (w / 8)
at_a_byte n w e h = omega arith

-- what the first w positions give is the answer where it is a position, or where they are all
settled : (stream m : List ℕ) (t L w n p : ℕ) → w ≤ n → (o : Option Found) (all : Bool) → (is_some o || all) ≡ true → (all ≡ true → w ≡ n)
    → met_or_none o ≡ first_from stream m t L w p → met_or_none o ≡ first_from stream m t L n p
settled stream m t L w n p h (Some f) all either same e = met_early stream m t L w n p h (Some f) refl e
settled stream m t L w n p h None all either same e = rw (same either) at e

pub returns-then-positions-eq1 : goal.returns-then-positions-eq1
returns-then-positions-eq1 c =
    let s = c.args.self.now in
    let one : suc (8 * length s.buffer.now - (s.frame + 32)) ≡ 1 = omega arith in
    rw one c.only.ensures

pub returns-then-is_some-words : goal.returns-then-is_some-words
returns-then-is_some-words c =
    let s = c.args.self.now in
    let words = c.min-words.result in
    settled _ _ _ _ words (suc (8 * length s.buffer.now - (s.frame + 32))) 0 (omega arith) c.by_words-found.result _
    (rw c.is_some.ensures at c.if-is_some-words.true) (λ e. omega (arith, eqb-true _ _ e)) c.by_words-found.ensures

pub returns : goal.returns
returns c =
    let s = c.args.self.now in
    let words = c.min-words.result in
    let room : s.frame + 32 ≤ 8 * length s.buffer.now = omega arith in
    let on = both_false _ _ c.if-is_some-words.false in
    let left = ap (λ (n : ℕ). n - words) (positions_are (8 * length s.buffer.now) s.frame room) in
    let place = at_a_byte _ words c.min-words.ensures (eqb-false _ _ on.1) in
    c.by_columns.ensures c.columns.ensures
    ∙ sym (none_early _ _ _ _ words (suc (8 * length s.buffer.now - (s.frame + 32))) 0
    (no_more _ s.frame words room c.min-words.ensures) c.by_words-found.result (sym c.is_some.ensures ∙ on.0) c.by_words-found.ensures
    left place refl)
