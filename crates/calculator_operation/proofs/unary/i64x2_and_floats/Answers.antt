-- `calculator_operation::unary::i64x2_and_floats` meets its contract: each arm by its method's promise, at the number that led there. Assumes nothing.
use mathlib.Core.Path.{refl}
use Rattle.standard.specs.Instruction.{table, instruction}
use Rattle.calculator_families.specs.Family.{families}
use Rattle.calculator_families.proofs.Others.{from}
use Rattle.calculator_operation.proofs.unary.i64x2_and_floats.Goals as goal

pub returns-in-192 : goal.returns-in-192
unfolding instruction table
returns-in-192 c = rw c.in-192.is (search)

pub returns-in-193 : goal.returns-in-193
unfolding instruction table
returns-in-193 c = rw c.in-193.is (search)

pub returns-in-199 : goal.returns-in-199
unfolding instruction table
returns-in-199 c = rw c.in-199.is (search)

pub returns-in-200 : goal.returns-in-200
unfolding instruction table
returns-in-200 c = rw c.in-200.is (search)

pub returns-in-201 : goal.returns-in-201
unfolding instruction table
returns-in-201 c = rw c.in-201.is (search)

pub returns-in-202 : goal.returns-in-202
unfolding instruction table
returns-in-202 c = rw c.in-202.is (search)

pub returns-in-224 : goal.returns-in-224
unfolding instruction table
returns-in-224 c = rw c.in-224.is (search)

pub returns-in-225 : goal.returns-in-225
unfolding instruction table
returns-in-225 c = rw c.in-225.is (search)

pub returns-in-236 : goal.returns-in-236
unfolding instruction table
returns-in-236 c = rw c.in-236.is (search)

pub returns-in-237 : goal.returns-in-237
unfolding instruction table
returns-in-237 c = rw c.in-237.is (search)

pub returns-in-248 : goal.returns-in-248
unfolding instruction table
returns-in-248 c = rw c.in-248.is (search)

pub returns-in-249 : goal.returns-in-249
unfolding instruction table
returns-in-249 c = rw c.in-249.is (search)

pub returns-in-250 : goal.returns-in-250
unfolding instruction table
returns-in-250 c = rw c.in-250.is (search)

pub returns-in-251 : goal.returns-in-251
unfolding instruction table
returns-in-251 c = rw c.in-251.is (search)

pub returns-in-252 : goal.returns-in-252
unfolding instruction table
returns-in-252 c = rw c.in-252.is (search)

pub returns-in-253 : goal.returns-in-253
unfolding instruction table
returns-in-253 c = rw c.in-253.is (search)

pub returns-in-254 : goal.returns-in-254
unfolding instruction table
returns-in-254 c = rw c.in-254.is (search)

pub returns-in-255 : goal.returns-in-255
unfolding instruction table
returns-in-255 c = rw c.in-255.is (search)

pub returns-in_default : goal.returns-in_default
unfolding instruction table
returns-in_default c = rw (from (λ i. (families i).unary) 192 refl (search) c.requires)
