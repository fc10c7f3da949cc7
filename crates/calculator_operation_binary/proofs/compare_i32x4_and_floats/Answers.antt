-- `calculator_operation_binary::compare_i32x4_and_floats` meets its contract: each arm by its method's promise, at the number that led there. Assumes nothing.
use Rattle.standard.specs.Instruction.{table, instruction}
use Rattle.calculator_families.specs.Family.{families}
use Rattle.calculator_families.proofs.Others.{between}
use Rattle.calculator_operation_binary.proofs.compare_i32x4_and_floats.Goals as goal

pub returns-in-55 : goal.returns-in-55
unfolding instruction table
returns-in-55 c = rw c.in-55.is (search)

pub returns-in-56 : goal.returns-in-56
unfolding instruction table
returns-in-56 c = rw c.in-56.is (search)

pub returns-in-57 : goal.returns-in-57
unfolding instruction table
returns-in-57 c = rw c.in-57.is (search)

pub returns-in-58 : goal.returns-in-58
unfolding instruction table
returns-in-58 c = rw c.in-58.is (search)

pub returns-in-59 : goal.returns-in-59
unfolding instruction table
returns-in-59 c = rw c.in-59.is (search)

pub returns-in-60 : goal.returns-in-60
unfolding instruction table
returns-in-60 c = rw c.in-60.is (search)

pub returns-in-61 : goal.returns-in-61
unfolding instruction table
returns-in-61 c = rw c.in-61.is (search)

pub returns-in-62 : goal.returns-in-62
unfolding instruction table
returns-in-62 c = rw c.in-62.is (search)

pub returns-in-63 : goal.returns-in-63
unfolding instruction table
returns-in-63 c = rw c.in-63.is (search)

pub returns-in-64 : goal.returns-in-64
unfolding instruction table
returns-in-64 c = rw c.in-64.is (search)

pub returns-in-65 : goal.returns-in-65
unfolding instruction table
returns-in-65 c = rw c.in-65.is (search)

pub returns-in-66 : goal.returns-in-66
unfolding instruction table
returns-in-66 c = rw c.in-66.is (search)

pub returns-in-67 : goal.returns-in-67
unfolding instruction table
returns-in-67 c = rw c.in-67.is (search)

pub returns-in-68 : goal.returns-in-68
unfolding instruction table
returns-in-68 c = rw c.in-68.is (search)

pub returns-in-69 : goal.returns-in-69
unfolding instruction table
returns-in-69 c = rw c.in-69.is (search)

pub returns-in-70 : goal.returns-in-70
unfolding instruction table
returns-in-70 c = rw c.in-70.is (search)

pub returns-in-71 : goal.returns-in-71
unfolding instruction table
returns-in-71 c = rw c.in-71.is (search)

pub returns-in-72 : goal.returns-in-72
unfolding instruction table
returns-in-72 c = rw c.in-72.is (search)

pub returns-in-73 : goal.returns-in-73
unfolding instruction table
returns-in-73 c = rw c.in-73.is (search)

pub returns-in-74 : goal.returns-in-74
unfolding instruction table
returns-in-74 c = rw c.in-74.is (search)

pub returns-in-75 : goal.returns-in-75
unfolding instruction table
returns-in-75 c = rw c.in-75.is (search)

pub returns-in-76 : goal.returns-in-76
unfolding instruction table
returns-in-76 c = rw c.in-76.is (search)

pub returns-in_default : goal.returns-in_default
unfolding instruction table
returns-in_default c = rw (between (λ i. (families i).binary) 55 22 (search) c.requires)
