-- `finder_passing::passed` meets its contract: every window that begins before the place reached is too far. Assumes nothing.
use Rattle.std.proofs.Common.{◌+◌, sym, ◌∙◌, true≢false, arith, rules}
use Rattle.finder_passing.proofs.Sums.{far_more}
use Rattle.finder_passing.proofs.passed.Goals as goal

pub loop-at-init : goal.loop-at-init
loop-at-init c = (search rules, search rules, λ m t hm made p h k. absurd (omega arith))

pub overflow_add-at : goal.overflow_add-at
overflow_add-at c = record { fits = omega (arith, c.passes.ensures.within c.loop-at-test.true) }

pub loop-at-smaller : goal.loop-at-smaller
loop-at-smaller c = omega (arith, c.passes.ensures.within c.loop-at-test.true)

pub loop-at-preserved : goal.loop-at-preserved
loop-at-preserved c =
    let given = c.args in
    let passes = c.passes.ensures in
    let at = c.loop-at.at in (
      search rules,
      passes.within c.loop-at-test.true,
      λ m t hm made. far_more given.buffer.now m t given.from at (at + given.n) (c.loop-at.invariant.2 m t hm made)
          (passes.far m t hm made c.loop-at-test.true),
    )

pub returns : goal.returns
returns c = record {
  within = search rules;
  far = c.loop-at.invariant.2;
  stops = λ m t hm made room far. true≢false (sym (c.passes.ensures.all_far m t hm made room far) ∙ c.loop-at-test.false);
}
