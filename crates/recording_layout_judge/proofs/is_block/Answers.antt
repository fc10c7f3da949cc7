-- `recording_layout_judge::is_block` meets its contract: the rules one after the other, as the definition has them. Assumes nothing.
use mathlib.Core.Path.{◌≡◌, sym, ◌∙◌}
use mathlib.Core.Bool.{true, false}
use mathlib.Core.List.{List}
use Prim.Native.Nat.{ℕ, ◌+◌, ◌*◌}
use native.Mathlib.Omega.{arith}
use lib.ListN.{get_or}
use borrow.Author.Tests.{eq-eqb, ne_eqb}
use Rattle.recording_layout.specs.Definition.{part, all_zero, each_below, count, count_laid, record_at_laid, block_laid}
use Rattle.recording_layout.proofs.Files.{seven}
use Rattle.recording_layout_judge.proofs.is_block.Goals as goal

module _ (n k : ℕ) (b : List ℕ) where
  abbrev numbered : ℕ
  numbered = get_or b 0 0 + 256 * get_or b 1 0

  not_numbered : (numbered ≡ k → ⊥) → block_laid n k b ≡ false
  unfolding block_laid
  not_numbered e = rw (ne_eqb _ _ e)

  module _ (e : numbered ≡ k) where
    no_count : count_laid n k (count b) ≡ false → block_laid n k b ≡ false
    unfolding block_laid
    no_count h = rw (eq-eqb _ _ e, h)

    module _ (h : count_laid n k (count b) ≡ true) where
      not_zero : (get_or b 3 0 ≡ 0 → ⊥) → block_laid n k b ≡ false
      unfolding block_laid
      not_zero z = rw (eq-eqb _ _ e, h, ne_eqb _ _ z)

      module _ (z : get_or b 3 0 ≡ 0) where
        not_filled : all_zero (part (4 + 64 * count b) 510 b) ≡ false → block_laid n k b ≡ false
        unfolding block_laid
        not_filled p = rw (eq-eqb _ _ e, h, eq-eqb _ _ z, p)

        rest : all_zero (part (4 + 64 * count b) 510 b) ≡ true → block_laid n k b ≡ each_below (count b) (record_at_laid n k b)
        unfolding block_laid
        rest p = rw (eq-eqb _ _ e, h, eq-eqb _ _ z, p)

pub returns-then-number-k : goal.returns-then-number-k
returns-then-number-k c =
    let a = c.args in
    sym (not_numbered a.n a.k a.b.now (λ e. c.if-number-k.true (c.number.ensures ∙ e)))

pub returns-then-not-is_count : goal.returns-then-not-is_count
returns-then-not-is_count c =
    let a = c.args in
    sym (no_count a.n a.k a.b.now (sym c.number.ensures ∙ c.if-number-k.false)
    (sym c.is_count.ensures ∙ c.if-not-is_count.true))

pub returns-then-b-ne0 : goal.returns-then-b-ne0
returns-then-b-ne0 c =
    let a = c.args in
    sym (not_zero a.n a.k a.b.now (sym c.number.ensures ∙ c.if-number-k.false) (sym c.is_count.ensures ∙ c.if-not-is_count.false) c.if-b-ne0.true)

pub returns-then-not-zeros : goal.returns-then-not-zeros
returns-then-not-zeros c =
    let a = c.args in
    sym (not_filled a.n a.k a.b.now (sym c.number.ensures ∙ c.if-number-k.false) (sym c.is_count.ensures ∙ c.if-not-is_count.false) c.if-b-ne0.false
    (sym c.zeros.ensures ∙ c.if-not-zeros.true))

pub returns : goal.returns
returns c =
    let a = c.args in
    c.are_records.ensures
    ∙ sym (rest a.n a.k a.b.now (sym c.number.ensures ∙ c.if-number-k.false) (sym c.is_count.ensures ∙ c.if-not-is_count.false) c.if-b-ne0.false
    (sym c.zeros.ensures ∙ c.if-not-zeros.false))

pub overflow_cast-end : goal.overflow_cast-end
overflow_cast-end c = omega (arith, seven c.args.n c.args.k (count c.args.b.now) (sym c.is_count.ensures ∙ c.if-not-is_count.false))

pub overflow_mul-end : goal.overflow_mul-end
overflow_mul-end c = omega (arith, seven c.args.n c.args.k (count c.args.b.now) (sym c.is_count.ensures ∙ c.if-not-is_count.false))

pub overflow_add-end : goal.overflow_add-end
overflow_add-end c = omega (arith, seven c.args.n c.args.k (count c.args.b.now) (sym c.is_count.ensures ∙ c.if-not-is_count.false))

pub slice_bounds-zeros-count : goal.slice_bounds-zeros-count
slice_bounds-zeros-count c = omega (arith, seven c.args.n c.args.k (count c.args.b.now) (sym c.is_count.ensures ∙ c.if-not-is_count.false))

pub slice_bounds-zeros-start : goal.slice_bounds-zeros-start
slice_bounds-zeros-start c = omega (arith, seven c.args.n c.args.k (count c.args.b.now) (sym c.is_count.ensures ∙ c.if-not-is_count.false))

pub are_records-requires : goal.are_records-requires
are_records-requires c = omega (arith, seven c.args.n c.args.k (count c.args.b.now) (sym c.is_count.ensures ∙ c.if-not-is_count.false))
