-- `chain::judge` meets its contract: a loop over the links. Assumes nothing.
use mathlib.Core.Path.{refl, sym, ap, ◌∙◌}
use Rattle.standard.specs.Refusal.{legal}
use Rattle.chain.proofs.Judging.{link_passes, link_stops, through, few_links}
use Rattle.chain.proofs.judge.Goals as goal

pub loop-link-init : goal.loop-link-init
loop-link-init c = refl

pub loop-link-preserved : goal.loop-link-preserved
loop-link-preserved c =
    let loop = c.loop-link in
    let passes = sym (ap legal c.indices_of.ensures) ∙ sym c.all_legal.ensures ∙ c.if-not-all_legal.false in
    sym (link_passes c.args.links.now loop.link-index _ c.loop-link-test.true passes) ∙ loop.invariant

pub returns-then-not-all_legal : goal.returns-then-not-all_legal
returns-then-not-all_legal c =
    let loop = c.loop-link in
    let stops = sym (ap legal c.indices_of.ensures) ∙ sym c.all_legal.ensures ∙ c.if-not-all_legal.true in
    few_links _ c.if-links-gt16.false (sym loop.invariant ∙ link_stops c.args.links.now loop.link-index _ c.loop-link-test.true stops)

pub returns : goal.returns
returns c = few_links _ c.if-links-gt16.false (through c.args.links.now c.loop-link.link-index c.loop-link-test.false c.loop-link.invariant)
