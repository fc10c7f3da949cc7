-- `recording_layout_record::is_laid` meets its contract: the rules one after the other, as the definition has them. Assumes nothing.
use mathlib.Core.Path.{◌≡◌, sym, ◌∙◌}
use mathlib.Core.Bool.{Bool, true, false, ◌||◌}
use mathlib.Core.List.{List}
use Prim.Native.Nat.{ℕ, ◌≤◌, ◌<◌}
use lib.Dec.{eqb}
use lib.ListN.{get_or}
use borrow.Author.Tests.{le-leb, lt-leb}
use Rattle.recording_fields.specs.Definition.{wide}
use Rattle.recording_layout.specs.Definition.{part, all_zero, record_laid}
use Rattle.recording_layout_record.proofs.is_laid.Goals as goal

module _ (is_last : Bool) (r : List ℕ) where
  abbrev stands : Bool
  stands = is_last || eqb (get_or r 48 0) 0

  not_last : stands ≡ false → record_laid is_last r ≡ false
  unfolding record_laid
  not_last e = rw e

  module _ (e : stands ≡ true) where
    no_kind : 3 < get_or r 49 0 → record_laid is_last r ≡ false
    unfolding record_laid
    no_kind h = rw (e, lt-leb _ _ h)

    module _ (h : get_or r 49 0 ≤ 3) where
      gap : all_zero (part 50 56 r) ≡ false → record_laid is_last r ≡ false
      unfolding record_laid
      gap z = rw (e, le-leb _ _ h, z)

      rest : all_zero (part 50 56 r) ≡ true → record_laid is_last r ≡ (wide (get_or r 49 0) || all_zero (part 60 64 r))
      unfolding record_laid
      rest z = rw (e, le-leb _ _ h, z)

pub returns-then-not-is_last-refused : goal.returns-then-not-is_last-refused
returns-then-not-is_last-refused c =
    let a = c.args in
    sym (not_last a.is_last a.r.now c.if-not-is_last-refused.true)

pub returns-then-kind-gt3 : goal.returns-then-kind-gt3
returns-then-kind-gt3 c =
    let a = c.args in
    sym (no_kind a.is_last a.r.now c.if-not-is_last-refused.false c.if-kind-gt3.true)

pub returns-then-not-zeros : goal.returns-then-not-zeros
returns-then-not-zeros c =
    let a = c.args in
    sym (gap a.is_last a.r.now c.if-not-is_last-refused.false c.if-kind-gt3.false
    (sym c.zeros.ensures ∙ c.if-not-zeros.true))

pub returns : goal.returns
returns c =
    let a = c.args in
    sym (rest a.is_last a.r.now c.if-not-is_last-refused.false c.if-kind-gt3.false
    (sym c.zeros.ensures
    ∙ c.if-not-zeros.false)
    ∙ rw (c.is_wide.ensures, c.zeros-2.ensures))
