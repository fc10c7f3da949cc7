-- `calculator_operation::unary::i16x8_and_i32x4` meets its contract: each arm by its method's promise, at the number that led there. Assumes nothing.
use Rattle.standard.specs.Instruction.{table, instruction}
use Rattle.calculator_families.specs.Family.{families}
use Rattle.calculator_families.proofs.Others.{between}
use Rattle.calculator_operation.proofs.unary.i16x8_and_i32x4.Goals as goal

pub returns-in-128 : goal.returns-in-128
unfolding instruction table
returns-in-128 c = rw c.in-128.is (search)

pub returns-in-129 : goal.returns-in-129
unfolding instruction table
returns-in-129 c = rw c.in-129.is (search)

pub returns-in-135 : goal.returns-in-135
unfolding instruction table
returns-in-135 c = rw c.in-135.is (search)

pub returns-in-136 : goal.returns-in-136
unfolding instruction table
returns-in-136 c = rw c.in-136.is (search)

pub returns-in-137 : goal.returns-in-137
unfolding instruction table
returns-in-137 c = rw c.in-137.is (search)

pub returns-in-138 : goal.returns-in-138
unfolding instruction table
returns-in-138 c = rw c.in-138.is (search)

pub returns-in-148 : goal.returns-in-148
unfolding instruction table
returns-in-148 c = rw c.in-148.is (search)

pub returns-in-160 : goal.returns-in-160
unfolding instruction table
returns-in-160 c = rw c.in-160.is (search)

pub returns-in-161 : goal.returns-in-161
unfolding instruction table
returns-in-161 c = rw c.in-161.is (search)

pub returns-in-167 : goal.returns-in-167
unfolding instruction table
returns-in-167 c = rw c.in-167.is (search)

pub returns-in-168 : goal.returns-in-168
unfolding instruction table
returns-in-168 c = rw c.in-168.is (search)

pub returns-in-169 : goal.returns-in-169
unfolding instruction table
returns-in-169 c = rw c.in-169.is (search)

pub returns-in-170 : goal.returns-in-170
unfolding instruction table
returns-in-170 c = rw c.in-170.is (search)

pub returns-in_default : goal.returns-in_default
unfolding instruction table
returns-in_default c = rw (between (λ i. (families i).unary) 128 64 (search) c.requires)
