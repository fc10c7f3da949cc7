-- `calculator_operation_binary::compare_i8x16_and_i16x8` meets its contract: each arm by its method's promise, at the number that led there. Assumes nothing.
use Rattle.standard.specs.Instruction.{table, instruction}
use Rattle.calculator_families.specs.Family.{families}
use Rattle.calculator_families.proofs.Others.{below}
use Rattle.calculator_operation_binary.proofs.compare_i8x16_and_i16x8.Goals as goal

pub returns-in-14 : goal.returns-in-14
unfolding instruction table
returns-in-14 c = rw c.in-14.is (search)

pub returns-in-35 : goal.returns-in-35
unfolding instruction table
returns-in-35 c = rw c.in-35.is (search)

pub returns-in-36 : goal.returns-in-36
unfolding instruction table
returns-in-36 c = rw c.in-36.is (search)

pub returns-in-37 : goal.returns-in-37
unfolding instruction table
returns-in-37 c = rw c.in-37.is (search)

pub returns-in-38 : goal.returns-in-38
unfolding instruction table
returns-in-38 c = rw c.in-38.is (search)

pub returns-in-39 : goal.returns-in-39
unfolding instruction table
returns-in-39 c = rw c.in-39.is (search)

pub returns-in-40 : goal.returns-in-40
unfolding instruction table
returns-in-40 c = rw c.in-40.is (search)

pub returns-in-41 : goal.returns-in-41
unfolding instruction table
returns-in-41 c = rw c.in-41.is (search)

pub returns-in-42 : goal.returns-in-42
unfolding instruction table
returns-in-42 c = rw c.in-42.is (search)

pub returns-in-43 : goal.returns-in-43
unfolding instruction table
returns-in-43 c = rw c.in-43.is (search)

pub returns-in-44 : goal.returns-in-44
unfolding instruction table
returns-in-44 c = rw c.in-44.is (search)

pub returns-in-45 : goal.returns-in-45
unfolding instruction table
returns-in-45 c = rw c.in-45.is (search)

pub returns-in-46 : goal.returns-in-46
unfolding instruction table
returns-in-46 c = rw c.in-46.is (search)

pub returns-in-47 : goal.returns-in-47
unfolding instruction table
returns-in-47 c = rw c.in-47.is (search)

pub returns-in-48 : goal.returns-in-48
unfolding instruction table
returns-in-48 c = rw c.in-48.is (search)

pub returns-in-49 : goal.returns-in-49
unfolding instruction table
returns-in-49 c = rw c.in-49.is (search)

pub returns-in-50 : goal.returns-in-50
unfolding instruction table
returns-in-50 c = rw c.in-50.is (search)

pub returns-in-51 : goal.returns-in-51
unfolding instruction table
returns-in-51 c = rw c.in-51.is (search)

pub returns-in-52 : goal.returns-in-52
unfolding instruction table
returns-in-52 c = rw c.in-52.is (search)

pub returns-in-53 : goal.returns-in-53
unfolding instruction table
returns-in-53 c = rw c.in-53.is (search)

pub returns-in-54 : goal.returns-in-54
unfolding instruction table
returns-in-54 c = rw c.in-54.is (search)

pub returns-in_default : goal.returns-in_default
unfolding instruction table
returns-in_default c = rw (below (λ i. (families i).binary) 55 (search) c.requires)
