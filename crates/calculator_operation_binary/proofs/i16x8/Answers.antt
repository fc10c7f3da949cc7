-- `calculator_operation_binary::i16x8` meets its contract: each arm by its method's promise, at the number that led there. Assumes nothing.
use Rattle.standard.specs.Instruction.{table, instruction}
use Rattle.calculator_families.specs.Family.{families}
use Rattle.calculator_families.proofs.Others.{between}
use Rattle.calculator_operation_binary.proofs.i16x8.Goals as goal

pub returns-in-130 : goal.returns-in-130
unfolding instruction table
returns-in-130 c = rw c.in-130.is (search)

pub returns-in-133 : goal.returns-in-133
unfolding instruction table
returns-in-133 c = rw c.in-133.is (search)

pub returns-in-134 : goal.returns-in-134
unfolding instruction table
returns-in-134 c = rw c.in-134.is (search)

pub returns-in-142 : goal.returns-in-142
unfolding instruction table
returns-in-142 c = rw c.in-142.is (search)

pub returns-in-143 : goal.returns-in-143
unfolding instruction table
returns-in-143 c = rw c.in-143.is (search)

pub returns-in-144 : goal.returns-in-144
unfolding instruction table
returns-in-144 c = rw c.in-144.is (search)

pub returns-in-145 : goal.returns-in-145
unfolding instruction table
returns-in-145 c = rw c.in-145.is (search)

pub returns-in-146 : goal.returns-in-146
unfolding instruction table
returns-in-146 c = rw c.in-146.is (search)

pub returns-in-147 : goal.returns-in-147
unfolding instruction table
returns-in-147 c = rw c.in-147.is (search)

pub returns-in-149 : goal.returns-in-149
unfolding instruction table
returns-in-149 c = rw c.in-149.is (search)

pub returns-in-150 : goal.returns-in-150
unfolding instruction table
returns-in-150 c = rw c.in-150.is (search)

pub returns-in-151 : goal.returns-in-151
unfolding instruction table
returns-in-151 c = rw c.in-151.is (search)

pub returns-in-152 : goal.returns-in-152
unfolding instruction table
returns-in-152 c = rw c.in-152.is (search)

pub returns-in-153 : goal.returns-in-153
unfolding instruction table
returns-in-153 c = rw c.in-153.is (search)

pub returns-in-155 : goal.returns-in-155
unfolding instruction table
returns-in-155 c = rw c.in-155.is (search)

pub returns-in-156 : goal.returns-in-156
unfolding instruction table
returns-in-156 c = rw c.in-156.is (search)

pub returns-in-157 : goal.returns-in-157
unfolding instruction table
returns-in-157 c = rw c.in-157.is (search)

pub returns-in-158 : goal.returns-in-158
unfolding instruction table
returns-in-158 c = rw c.in-158.is (search)

pub returns-in-159 : goal.returns-in-159
unfolding instruction table
returns-in-159 c = rw c.in-159.is (search)

pub returns-in_default : goal.returns-in_default
unfolding instruction table
returns-in_default c = rw (between (λ i. (families i).binary) 130 30 (search) c.requires)
