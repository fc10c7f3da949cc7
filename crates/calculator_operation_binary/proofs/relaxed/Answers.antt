-- `calculator_operation_binary::relaxed` meets its contract: each arm by its method's promise, at the number that led there. Assumes nothing.
use mathlib.Core.Path.{refl}
use Rattle.standard.specs.Instruction.{table, instruction}
use Rattle.calculator_families.specs.Family.{families}
use Rattle.calculator_families.proofs.Others.{from}
use Rattle.calculator_operation_binary.proofs.relaxed.Goals as goal

pub returns-in-256 : goal.returns-in-256
unfolding instruction table
returns-in-256 c = rw c.in-256.is (search)

pub returns-in-269 : goal.returns-in-269
unfolding instruction table
returns-in-269 c = rw c.in-269.is (search)

pub returns-in-270 : goal.returns-in-270
unfolding instruction table
returns-in-270 c = rw c.in-270.is (search)

pub returns-in-271 : goal.returns-in-271
unfolding instruction table
returns-in-271 c = rw c.in-271.is (search)

pub returns-in-272 : goal.returns-in-272
unfolding instruction table
returns-in-272 c = rw c.in-272.is (search)

pub returns-in-273 : goal.returns-in-273
unfolding instruction table
returns-in-273 c = rw c.in-273.is (search)

pub returns-in-274 : goal.returns-in-274
unfolding instruction table
returns-in-274 c = rw c.in-274.is (search)

pub returns-in_default : goal.returns-in_default
unfolding instruction table
returns-in_default c = rw (from (λ i. (families i).binary) 256 refl (search) c.requires)
