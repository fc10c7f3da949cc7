-- `chain_vector::apply` meets its contract: a loop over the links. Assumes nothing.
use mathlib.Core.Path.{refl, sym, ◌∙◌}
use Rattle.simd.specs.Number.{number}
use Rattle.chain.proofs.Judging.{unrefused}
use Rattle.chain_vector.proofs.Links.{one_link, all_links}
use Rattle.chain_vector.proofs.apply.Goals as goal

pub loop-link-init : goal.loop-link-init
loop-link-init c = refl

pub loop-link-preserved : goal.loop-link-preserved
loop-link-preserved c =
    let loop = c.loop-link in
    let legal = unrefused c.args.links.now (sym c.in_ok-judge.ensures) in
    one_link c.args.links.now _ _ loop.link-index (number loop.current) (number c.linked-current.result) _ c.loop-link-test.true legal c.linked-current.ensures
    ∙ loop.invariant

pub returns : goal.returns
returns c =
    let loop = c.loop-link in
    all_links c.args.links.now _ _ loop.link-index (number loop.current) c.loop-link-test.false (sym c.in_ok-judge.ensures) loop.invariant
