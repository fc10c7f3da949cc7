-- `finder::sought::Search::near` meets its contract: while none is near, each window passed is too far. Assumes nothing.
use mathlib.Core.Path.{◌≡◌}
use native.Mathlib.Omega.{arith}
use borrow.Author.Rules.{rules}
use borrow.Author.Count.{below_none, below_more}
use borrow.Author.Tests.{leb-false}
use Rattle.finder_windows.proofs.Refusals.{both_false}
use Rattle.finder.proofs.sought.Search.near.Goals as goal

pub loop-k-init : goal.loop-k-init
loop-k-init c = (search rules, λ e. below_none _)

pub loop-k-preserved : goal.loop-k-preserved
loop-k-preserved c = (
  search rules,
  λ e.
      let each = both_false _ _ e in
      below_more _ _ (c.loop-k.invariant.1 each.0)
      (rw c.apart.ensures at (leb-false c.apart.result c.args.self.now.tolerance each.1)),
)

pub returns : goal.returns
returns c =
    let all : c.loop-k.k ≡ 32 = omega arith in
    λ e. rw all at (c.loop-k.invariant.1 e)
