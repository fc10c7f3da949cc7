-- `finder_columns::pattern` meets its contract: each turn puts the piece of one window more below those that stand in the half. Assumes nothing.
use Prim.Native.Nat.{◌+◌, ◌*◌, ◌-◌, ◌/◌, ◌%◌, ◌^◌, ◌<◌}
use mathlib.Core.Path.{◌≡◌, refl, sym, ap, subst, ◌∙◌}
use native.Mathlib.Nat.{mod-lt}
use native.Mathlib.Omega.{arith}
use borrow.Author.Rules.{rules}
use lib.Dec.{lit<}
use Rattle.finder_columns.specs.Columns.{row, eight}
use Rattle.finder_windows.proofs.Bits.{push_fits}
use Rattle.finder_columns.proofs.Table.{pieces_lt, pieces_more}
use Rattle.finder_columns.proofs.pattern.Goals as goal

pub loop-i-init : goal.loop-i-init
unfolding row
loop-i-init c = (search rules, search rules, refl)

pub overflow_mul-lanes : goal.overflow_mul-lanes
overflow_mul-lanes c = record { fits = omega (arith, push_fits c.loop-i.i c.loop-i.lanes 0 (omega arith) c.loop-i.invariant.1 (lit< tt)) }

pub overflow_add-lanes : goal.overflow_add-lanes
overflow_add-lanes c = record { fits = push_fits c.loop-i.i c.loop-i.lanes _ (omega arith) c.loop-i.invariant.1 (mod-lt _ (lit< tt)) }

pub loop-i-preserved : goal.loop-i-preserved
loop-i-preserved c =
    let loop = c.loop-i in
    let given = c.args in
    let more = ap (λ n. n * 256 + given.marker * 256 / 2 ^ (39 - loop.i - 8 * given.q) % 256) loop.invariant.2
    ∙ pieces_more given.marker given.q loop.i (omega arith) (omega arith) in
    (search rules, subst (λ n. n < 2 ^ (8 * (loop.i + 1))) (sym more) (pieces_lt given.marker given.q (8 - (loop.i + 1)) (loop.i + 1)), more)

pub returns : goal.returns
unfolding eight
returns c =
    let all : c.loop-i.i ≡ 8 = omega arith in
    rw all at c.loop-i.invariant.2
