-- `calculator_operation::ternary::ternary` meets its contract: each arm by its method's promise, at the number that led there. Assumes nothing.
use mathlib.Core.Path.{refl}
use Rattle.standard.specs.Instruction.{table, instruction}
use Rattle.calculator_families.specs.Family.{families}
use Rattle.calculator_families.proofs.Others.{any}
use Rattle.calculator_operation.proofs.ternary.ternary.Goals as goal

pub returns-in-82 : goal.returns-in-82
unfolding instruction table
returns-in-82 c = rw c.in-82.is (search)

pub returns-in-265 : goal.returns-in-265
unfolding instruction table
returns-in-265 c = rw c.in-265.is (search)

pub returns-in-266 : goal.returns-in-266
unfolding instruction table
returns-in-266 c = rw c.in-266.is (search)

pub returns-in-267 : goal.returns-in-267
unfolding instruction table
returns-in-267 c = rw c.in-267.is (search)

pub returns-in-268 : goal.returns-in-268
unfolding instruction table
returns-in-268 c = rw c.in-268.is (search)

pub returns-in-275 : goal.returns-in-275
unfolding instruction table
returns-in-275 c = rw c.in-275.is (search)

pub returns-in_default : goal.returns-in_default
unfolding instruction table
returns-in_default c = rw (any (λ i. (families i).ternary) c.args.op refl (search))
