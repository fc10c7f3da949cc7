-- `finder_passing::passes` meets its contract: every top bit is left exactly where each window passed is too far. Assumes nothing.
use Rattle.std.proofs.Common.{◌≡◌, refl, arith, rules, eq-eqb, eqb-true}
use mathlib.Core.Bool.{false≢true}
use lib.Bits.{and_le_l}
use Rattle.finder_passing.proofs.Sums.{far_none, more_far, far_more_tops}
use Rattle.finder_passing.proofs.passes.Goals as goal

pub returns-then-last-at : goal.returns-then-last-at
returns-then-last-at c = record {
  within = λ e. absurd (false≢true e);
  far = λ m t hm made e. absurd (false≢true e);
  all_far = λ m t hm made room far. absurd (omega arith);
}

pub loop-i-init : goal.loop-i-init
loop-i-init c = (search rules, search rules, λ m t hm made. (λ e. far_none _ m t _, λ far. refl))

pub loop-i-preserved : goal.loop-i-preserved
loop-i-preserved c =
    let loop = c.loop-i in
    let given = c.args in (
      search rules,
      omega (arith, and_le_l loop.tops c.lanes-tops.result),
      λ m t hm made.
          let old = loop.invariant.2 m t hm made in
          let lane = c.lanes-tops.ensures m t hm made in (
            more_far given.buffer.now m t given.at loop.i loop.tops loop.invariant.1 lane old.0,
            far_more_tops given.buffer.now m t given.at loop.i loop.tops loop.invariant.1 lane old.1,
          ),
    )

pub returns : goal.returns
returns c =
    let loop = c.loop-i in
    let all : loop.i ≡ c.args.n = omega arith in record {
      within = λ e. omega arith;
      far = λ m t hm made e. rw all at ((loop.invariant.2 m t hm made).0 (eqb-true _ _ e));
      all_far = λ m t hm made room far. eq-eqb _ _ ((loop.invariant.2 m t hm made).1 (rw (← all) at far));
    }
