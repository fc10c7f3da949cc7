-- `finder_columns::low_nibbles` meets its contract. Assumes nothing.
use mathlib.Core.Path.{◌≡◌, refl, ◌∙◌}
use native.Mathlib.Omega.{arith}
use borrow.Author.Rules.{rules}
use borrow.Author.Count.{below_none}
use lib.ListN.{length-set}
use Rattle.finder_columns.proofs.Table.{set_more}
use Rattle.finder_columns.proofs.low_nibbles.Invariants.{count}
use Rattle.finder_columns.proofs.low_nibbles.Goals as goal

pub loop-x-init : goal.loop-x-init
loop-x-init c = (search rules, refl, below_none _)

pub loop-x-preserved : goal.loop-x-preserved
loop-x-preserved c =
    let loop = c.loop-x in
    let given = c.args in (
      search rules,
      length-set loop.counts loop.x c.counted.result ∙ loop.invariant.1,
      set_more (count given.seen given.wanted) loop.x loop.counts (omega arith) c.counted.ensures loop.invariant.2,
    )

pub returns : goal.returns
returns c =
    let all : c.loop-x.x ≡ 16 = omega arith in
    rw all at c.loop-x.invariant.2
