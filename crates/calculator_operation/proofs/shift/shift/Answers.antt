-- `calculator_operation::shift::shift` meets its contract: each arm by its method's promise, at the number that led there. Assumes nothing.
use mathlib.Core.Path.{refl}
use Rattle.standard.specs.Instruction.{table, instruction}
use Rattle.calculator_families.specs.Family.{families}
use Rattle.calculator_families.proofs.Others.{any}
use Rattle.calculator_operation.proofs.shift.shift.Goals as goal

pub returns-in-107 : goal.returns-in-107
unfolding instruction table
returns-in-107 c = rw c.in-107.is (search)

pub returns-in-108 : goal.returns-in-108
unfolding instruction table
returns-in-108 c = rw c.in-108.is (search)

pub returns-in-109 : goal.returns-in-109
unfolding instruction table
returns-in-109 c = rw c.in-109.is (search)

pub returns-in-139 : goal.returns-in-139
unfolding instruction table
returns-in-139 c = rw c.in-139.is (search)

pub returns-in-140 : goal.returns-in-140
unfolding instruction table
returns-in-140 c = rw c.in-140.is (search)

pub returns-in-141 : goal.returns-in-141
unfolding instruction table
returns-in-141 c = rw c.in-141.is (search)

pub returns-in-171 : goal.returns-in-171
unfolding instruction table
returns-in-171 c = rw c.in-171.is (search)

pub returns-in-172 : goal.returns-in-172
unfolding instruction table
returns-in-172 c = rw c.in-172.is (search)

pub returns-in-173 : goal.returns-in-173
unfolding instruction table
returns-in-173 c = rw c.in-173.is (search)

pub returns-in-203 : goal.returns-in-203
unfolding instruction table
returns-in-203 c = rw c.in-203.is (search)

pub returns-in-204 : goal.returns-in-204
unfolding instruction table
returns-in-204 c = rw c.in-204.is (search)

pub returns-in-205 : goal.returns-in-205
unfolding instruction table
returns-in-205 c = rw c.in-205.is (search)

pub returns-in_default : goal.returns-in_default
unfolding instruction table
returns-in_default c = rw (any (λ i. (families i).shift) c.args.op refl (search))
