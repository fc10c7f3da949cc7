-- `calculator_operation::unary::v128_and_i8x16` meets its contract: each arm by its method's promise, at the number that led there. Assumes nothing.
use Rattle.standard.specs.Instruction.{table, instruction}
use Rattle.calculator_families.specs.Family.{families}
use Rattle.calculator_families.proofs.Others.{below}
use Rattle.calculator_operation.proofs.unary.v128_and_i8x16.Goals as goal

pub returns-in-77 : goal.returns-in-77
unfolding instruction table
returns-in-77 c = rw c.in-77.is (search)

pub returns-in-94 : goal.returns-in-94
unfolding instruction table
returns-in-94 c = rw c.in-94.is (search)

pub returns-in-95 : goal.returns-in-95
unfolding instruction table
returns-in-95 c = rw c.in-95.is (search)

pub returns-in-96 : goal.returns-in-96
unfolding instruction table
returns-in-96 c = rw c.in-96.is (search)

pub returns-in-97 : goal.returns-in-97
unfolding instruction table
returns-in-97 c = rw c.in-97.is (search)

pub returns-in-98 : goal.returns-in-98
unfolding instruction table
returns-in-98 c = rw c.in-98.is (search)

pub returns-in-103 : goal.returns-in-103
unfolding instruction table
returns-in-103 c = rw c.in-103.is (search)

pub returns-in-104 : goal.returns-in-104
unfolding instruction table
returns-in-104 c = rw c.in-104.is (search)

pub returns-in-105 : goal.returns-in-105
unfolding instruction table
returns-in-105 c = rw c.in-105.is (search)

pub returns-in-106 : goal.returns-in-106
unfolding instruction table
returns-in-106 c = rw c.in-106.is (search)

pub returns-in-116 : goal.returns-in-116
unfolding instruction table
returns-in-116 c = rw c.in-116.is (search)

pub returns-in-117 : goal.returns-in-117
unfolding instruction table
returns-in-117 c = rw c.in-117.is (search)

pub returns-in-122 : goal.returns-in-122
unfolding instruction table
returns-in-122 c = rw c.in-122.is (search)

pub returns-in-124 : goal.returns-in-124
unfolding instruction table
returns-in-124 c = rw c.in-124.is (search)

pub returns-in-125 : goal.returns-in-125
unfolding instruction table
returns-in-125 c = rw c.in-125.is (search)

pub returns-in-126 : goal.returns-in-126
unfolding instruction table
returns-in-126 c = rw c.in-126.is (search)

pub returns-in-127 : goal.returns-in-127
unfolding instruction table
returns-in-127 c = rw c.in-127.is (search)

pub returns-in_default : goal.returns-in_default
unfolding instruction table
returns-in_default c = rw (below (λ i. (families i).unary) 128 (search) c.requires)
