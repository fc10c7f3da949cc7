-- `calculator_operation_binary::i32x4` meets its contract: each arm by its method's promise, at the number that led there. Assumes nothing.
use Rattle.standard.specs.Instruction.{table, instruction}
use Rattle.calculator_families.specs.Family.{families}
use Rattle.calculator_families.proofs.Others.{between}
use Rattle.calculator_operation_binary.proofs.i32x4.Goals as goal

pub returns-in-174 : goal.returns-in-174
unfolding instruction table
returns-in-174 c = rw c.in-174.is (search)

pub returns-in-177 : goal.returns-in-177
unfolding instruction table
returns-in-177 c = rw c.in-177.is (search)

pub returns-in-181 : goal.returns-in-181
unfolding instruction table
returns-in-181 c = rw c.in-181.is (search)

pub returns-in-182 : goal.returns-in-182
unfolding instruction table
returns-in-182 c = rw c.in-182.is (search)

pub returns-in-183 : goal.returns-in-183
unfolding instruction table
returns-in-183 c = rw c.in-183.is (search)

pub returns-in-184 : goal.returns-in-184
unfolding instruction table
returns-in-184 c = rw c.in-184.is (search)

pub returns-in-185 : goal.returns-in-185
unfolding instruction table
returns-in-185 c = rw c.in-185.is (search)

pub returns-in-186 : goal.returns-in-186
unfolding instruction table
returns-in-186 c = rw c.in-186.is (search)

pub returns-in-188 : goal.returns-in-188
unfolding instruction table
returns-in-188 c = rw c.in-188.is (search)

pub returns-in-189 : goal.returns-in-189
unfolding instruction table
returns-in-189 c = rw c.in-189.is (search)

pub returns-in-190 : goal.returns-in-190
unfolding instruction table
returns-in-190 c = rw c.in-190.is (search)

pub returns-in-191 : goal.returns-in-191
unfolding instruction table
returns-in-191 c = rw c.in-191.is (search)

pub returns-in_default : goal.returns-in_default
unfolding instruction table
returns-in_default c = rw (between (λ i. (families i).binary) 160 32 (search) c.requires)
