-- `finder_columns::fill` meets its contract: entry by entry, sixteen for each high nibble. Assumes nothing.
use Prim.Native.Nat.{ℕ, ◌+◌, ◌*◌, ◌/◌, ◌%◌, ◌<◌}
use mathlib.Core.Path.{◌≡◌, sym, ◌∙◌}
use native.Mathlib.Omega.{arith}
use borrow.Author.Rules.{rules}
use lib.ListN.{get_or, length-set}
use Rattle.finder_columns.specs.Columns.{entry}
use Rattle.finder_columns.proofs.Table.{entry_is, entry_lt, entry_at, set_more}
use Rattle.finder_columns.proofs.fill.Goals as goal

pub loop-h-init : goal.loop-h-init
loop-h-init c = (search rules, (search rules, λ j h. c.requires.made.1 j (omega arith)))

pub overflow_add-high : goal.overflow_add-high
overflow_add-high c =
    -- the sum of both nibbles' counts
    let value : (l : ℕ) → l < 16 → c.args.above + c.counted.result + get_or c.low_nibbles-low.result l 0
    ≡ entry c.args.marker c.args.tolerance c.args.q (16 * c.loop-h.h + l) =
    λ l hl. entry_is c.args.marker c.args.tolerance c.args.q c.loop-h.h l (omega arith) hl
    c.pattern-seen.ensures c.pattern-wanted.ensures c.requires.above_value c.counted.ensures (c.low_nibbles-low.ensures l hl)
    in
    record { fits = omega (arith, value 0 (omega arith), entry_lt c.args.marker c.args.tolerance c.args.q (16 * c.loop-h.h + 0) (omega arith)) }

pub loop-l-init : goal.loop-l-init
loop-l-init c = (search rules, (search rules, λ j h. c.loop-h.invariant.1.1 j (omega arith)))

pub overflow_add-table : goal.overflow_add-table
overflow_add-table c =
    -- the sum of both nibbles' counts
    let value : (l : ℕ) → l < 16 → c.args.above + c.counted.result + get_or c.low_nibbles-low.result l 0
    ≡ entry c.args.marker c.args.tolerance c.args.q (16 * c.loop-h.h + l) =
    λ l hl. entry_is c.args.marker c.args.tolerance c.args.q c.loop-h.h l (omega arith) hl
    c.pattern-seen.ensures c.pattern-wanted.ensures c.requires.above_value c.counted.ensures (c.low_nibbles-low.ensures l hl)
    in
    record { fits = rw (value c.loop-l.l (omega arith)) (entry_lt _ _ _ _ (omega arith)) }

pub loop-l-preserved : goal.loop-l-preserved
loop-l-preserved c =
    -- the sum of both nibbles' counts
    let value : (l : ℕ) → l < 16 → c.args.above + c.counted.result + get_or c.low_nibbles-low.result l 0
    ≡ entry c.args.marker c.args.tolerance c.args.q (16 * c.loop-h.h + l) =
    λ l hl. entry_is c.args.marker c.args.tolerance c.args.q c.loop-h.h l (omega arith) hl
    c.pattern-seen.ensures c.pattern-wanted.ensures c.requires.above_value c.counted.ensures (c.low_nibbles-low.ensures l hl)
    in
    let given = c.args in
    let h = c.loop-h.h in
    let loop = c.loop-l in
    let place = 256 * given.q + 16 * h + loop.l in
    let right = value loop.l (omega arith)
    ∙ sym (entry_at given.marker given.tolerance given.q (16 * h + loop.l) place (omega arith) (omega arith)) in
    let made = set_more (λ j. entry given.marker given.tolerance (j / 256) (j % 256)) place loop.table (omega arith) right loop.invariant.1.1 in
    (search rules, (length-set loop.table place _ ∙ loop.invariant.1.0, λ j hj. made j (omega arith)))

pub loop-h-preserved : goal.loop-h-preserved
loop-h-preserved c = (search rules, (search rules, λ j h. c.loop-l.invariant.1.1 j (omega arith)))

pub returns : goal.returns
returns c = (search rules, λ j h. c.loop-h.invariant.1.1 j (omega arith))
