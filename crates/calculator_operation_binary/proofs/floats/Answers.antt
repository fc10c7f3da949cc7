-- `calculator_operation_binary::floats` meets its contract: each arm by its method's promise, at the number that led there. Assumes nothing.
use Rattle.standard.specs.Instruction.{table, instruction}
use Rattle.calculator_families.specs.Family.{families}
use Rattle.calculator_families.proofs.Others.{between}
use Rattle.calculator_operation_binary.proofs.floats.Goals as goal

pub returns-in-228 : goal.returns-in-228
unfolding instruction table
returns-in-228 c = rw c.in-228.is (search)

pub returns-in-229 : goal.returns-in-229
unfolding instruction table
returns-in-229 c = rw c.in-229.is (search)

pub returns-in-230 : goal.returns-in-230
unfolding instruction table
returns-in-230 c = rw c.in-230.is (search)

pub returns-in-231 : goal.returns-in-231
unfolding instruction table
returns-in-231 c = rw c.in-231.is (search)

pub returns-in-232 : goal.returns-in-232
unfolding instruction table
returns-in-232 c = rw c.in-232.is (search)

pub returns-in-233 : goal.returns-in-233
unfolding instruction table
returns-in-233 c = rw c.in-233.is (search)

pub returns-in-234 : goal.returns-in-234
unfolding instruction table
returns-in-234 c = rw c.in-234.is (search)

pub returns-in-235 : goal.returns-in-235
unfolding instruction table
returns-in-235 c = rw c.in-235.is (search)

pub returns-in-240 : goal.returns-in-240
unfolding instruction table
returns-in-240 c = rw c.in-240.is (search)

pub returns-in-241 : goal.returns-in-241
unfolding instruction table
returns-in-241 c = rw c.in-241.is (search)

pub returns-in-242 : goal.returns-in-242
unfolding instruction table
returns-in-242 c = rw c.in-242.is (search)

pub returns-in-243 : goal.returns-in-243
unfolding instruction table
returns-in-243 c = rw c.in-243.is (search)

pub returns-in-244 : goal.returns-in-244
unfolding instruction table
returns-in-244 c = rw c.in-244.is (search)

pub returns-in-245 : goal.returns-in-245
unfolding instruction table
returns-in-245 c = rw c.in-245.is (search)

pub returns-in-246 : goal.returns-in-246
unfolding instruction table
returns-in-246 c = rw c.in-246.is (search)

pub returns-in-247 : goal.returns-in-247
unfolding instruction table
returns-in-247 c = rw c.in-247.is (search)

pub returns-in_default : goal.returns-in_default
unfolding instruction table
returns-in_default c = rw (between (λ i. (families i).binary) 224 32 (search) c.requires)
