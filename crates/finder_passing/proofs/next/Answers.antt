-- `finder_passing::next` meets its contract. Assumes nothing.
use Rattle.std.proofs.Common.{sym, refl, ◌∙◌, inl, inr, true≢false, arith, rules}
use Rattle.finder_passing.proofs.Sums.{far_more}
use Rattle.finder_passing.proofs.next.Goals as goal

pub returns-then-last-from : goal.returns-then-last-from
returns-then-last-from c =
    λ m t hm made. record { reached = search rules; inside = inl refl; far = λ p h k. absurd (omega arith); near = λ h k far. omega arith }

pub returns-then-passes : goal.returns-then-passes
returns-then-passes c =
    let given = c.args in
    let one = c.passed.ensures in
    λ m t hm made.
    record {
      reached = omega arith;
      inside = inr (omega arith, omega arith);
      far = far_more given.buffer.now m t given.from c.passed-at.result c.passed.result (c.passed-at.ensures.far m t hm made)
          (one.far m t hm made);
      near = λ h k far. one.stops m t hm made (omega arith) far;
    }

pub returns : goal.returns
returns c =
    λ m t hm made.
    record {
      reached = search rules;
      inside = inl refl;
      far = λ p h k. absurd (omega arith);
      near = λ h k far. true≢false (sym (c.passes.ensures.all_far m t hm made (omega arith) far) ∙ c.if-passes.false);
    }
