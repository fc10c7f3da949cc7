-- `calculator_packed_binary::binary` meets its contract: each arm by its method's promise, at the number that led there. Assumes nothing.
use Rattle.standard.specs.Instruction.{instruction}
use Rattle.calculator_packed_binary.proofs.binary.Goals as goal

pub returns-in-35 : goal.returns-in-35
unfolding instruction
returns-in-35 c = rw c.in-35.is (search)

pub returns-in-45 : goal.returns-in-45
unfolding instruction
returns-in-45 c = rw c.in-45.is (search)

pub returns-in-55 : goal.returns-in-55
unfolding instruction
returns-in-55 c = rw c.in-55.is (search)

pub returns-in-110 : goal.returns-in-110
unfolding instruction
returns-in-110 c = rw c.in-110.is (search)

pub returns-in-113 : goal.returns-in-113
unfolding instruction
returns-in-113 c = rw c.in-113.is (search)

pub returns-in-123 : goal.returns-in-123
unfolding instruction
returns-in-123 c = rw c.in-123.is (search)

pub returns-in-142 : goal.returns-in-142
unfolding instruction
returns-in-142 c = rw c.in-142.is (search)

pub returns-in-145 : goal.returns-in-145
unfolding instruction
returns-in-145 c = rw c.in-145.is (search)

pub returns-in-155 : goal.returns-in-155
unfolding instruction
returns-in-155 c = rw c.in-155.is (search)

pub returns-in-174 : goal.returns-in-174
unfolding instruction
returns-in-174 c = rw c.in-174.is (search)

pub returns-in-177 : goal.returns-in-177
unfolding instruction
returns-in-177 c = rw c.in-177.is (search)

pub returns-in-206 : goal.returns-in-206
unfolding instruction
returns-in-206 c = rw c.in-206.is (search)

pub returns-in-209 : goal.returns-in-209
unfolding instruction
returns-in-209 c = rw c.in-209.is (search)

pub returns-in-214 : goal.returns-in-214
unfolding instruction
returns-in-214 c = rw c.in-214.is (search)

pub returns-in_default : goal.returns-in_default
returns-in_default c = c.binary.ensures
