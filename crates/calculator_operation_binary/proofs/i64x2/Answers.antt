-- `calculator_operation_binary::i64x2` meets its contract: each arm by its method's promise, at the number that led there. Assumes nothing.
use Rattle.standard.specs.Instruction.{table, instruction}
use Rattle.calculator_families.specs.Family.{families}
use Rattle.calculator_families.proofs.Others.{between}
use Rattle.calculator_operation_binary.proofs.i64x2.Goals as goal

pub returns-in-206 : goal.returns-in-206
unfolding instruction table
returns-in-206 c = rw c.in-206.is (search)

pub returns-in-209 : goal.returns-in-209
unfolding instruction table
returns-in-209 c = rw c.in-209.is (search)

pub returns-in-213 : goal.returns-in-213
unfolding instruction table
returns-in-213 c = rw c.in-213.is (search)

pub returns-in-214 : goal.returns-in-214
unfolding instruction table
returns-in-214 c = rw c.in-214.is (search)

pub returns-in-215 : goal.returns-in-215
unfolding instruction table
returns-in-215 c = rw c.in-215.is (search)

pub returns-in-216 : goal.returns-in-216
unfolding instruction table
returns-in-216 c = rw c.in-216.is (search)

pub returns-in-217 : goal.returns-in-217
unfolding instruction table
returns-in-217 c = rw c.in-217.is (search)

pub returns-in-218 : goal.returns-in-218
unfolding instruction table
returns-in-218 c = rw c.in-218.is (search)

pub returns-in-219 : goal.returns-in-219
unfolding instruction table
returns-in-219 c = rw c.in-219.is (search)

pub returns-in-220 : goal.returns-in-220
unfolding instruction table
returns-in-220 c = rw c.in-220.is (search)

pub returns-in-221 : goal.returns-in-221
unfolding instruction table
returns-in-221 c = rw c.in-221.is (search)

pub returns-in-222 : goal.returns-in-222
unfolding instruction table
returns-in-222 c = rw c.in-222.is (search)

pub returns-in-223 : goal.returns-in-223
unfolding instruction table
returns-in-223 c = rw c.in-223.is (search)

pub returns-in_default : goal.returns-in_default
unfolding instruction table
returns-in_default c = rw (between (λ i. (families i).binary) 192 32 (search) c.requires)
