-- `fold::links_of` meets its contract: a link a turn. Assumes nothing.
use mathlib.Core.Path.{◌≡◌, refl, sym, ◌∙◌}
use native.Mathlib.Omega.{arith}
use lib.ListN.{length-set}
use lib.Seq.{take_all}
use Rattle.fold.specs.Text.{links}
use Rattle.fold.proofs.Laws.{links_more}
use borrow.Author.Rules.{rules}
use Rattle.fold.proofs.links_of.Goals as goal

pub loop-k-init : goal.loop-k-init
unfolding links
loop-k-init c = (search rules, (refl, refl))

pub loop-k-preserved : goal.loop-k-preserved
loop-k-preserved c =
    let at = c.loop-k in (
      search rules,
      (
        simp length-set at.invariant.1.0,
        links_more at.links c.args.bytes c.link_at-link.result at.k
            (search rules) c.link_at-link.ensures at.invariant.1.1,
      ),
    )

pub returns : goal.returns
returns c =
    let at = c.loop-k in
    let all : at.k ≡ 17 = omega arith in
    sym (take_all 17 at.links (omega arith)) ∙ (rw all at at.invariant.1.1)
