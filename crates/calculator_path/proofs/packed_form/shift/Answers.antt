-- `calculator_path::packed_form::shift` meets its contract: each arm by its method's promise, at the number that led there. Assumes nothing.
use Rattle.standard.specs.Instruction.{table, instruction}
use Rattle.calculator_path.proofs.packed_form.shift.Goals as goal

pub returns-in-107 : goal.returns-in-107
unfolding instruction table
returns-in-107 c = rw c.in-107.is (search)

pub returns-in-109 : goal.returns-in-109
unfolding instruction table
returns-in-109 c = rw c.in-109.is (search)

pub returns-in-139 : goal.returns-in-139
unfolding instruction table
returns-in-139 c = rw c.in-139.is (search)

pub returns-in-141 : goal.returns-in-141
unfolding instruction table
returns-in-141 c = rw c.in-141.is (search)

pub returns-in-171 : goal.returns-in-171
unfolding instruction table
returns-in-171 c = rw c.in-171.is (search)

pub returns-in-173 : goal.returns-in-173
unfolding instruction table
returns-in-173 c = rw c.in-173.is (search)

pub returns-in-203 : goal.returns-in-203
unfolding instruction table
returns-in-203 c = rw c.in-203.is (search)

pub returns-in-205 : goal.returns-in-205
unfolding instruction table
returns-in-205 c = rw c.in-205.is (search)
