-- `calculator_operation_binary::i8x16` meets its contract: each arm by its method's promise, at the number that led there. Assumes nothing.
use Rattle.standard.specs.Instruction.{table, instruction}
use Rattle.calculator_families.specs.Family.{families}
use Rattle.calculator_families.proofs.Others.{between}
use Rattle.calculator_operation_binary.proofs.i8x16.Goals as goal

pub returns-in-78 : goal.returns-in-78
unfolding instruction table
returns-in-78 c = rw c.in-78.is (search)

pub returns-in-79 : goal.returns-in-79
unfolding instruction table
returns-in-79 c = rw c.in-79.is (search)

pub returns-in-80 : goal.returns-in-80
unfolding instruction table
returns-in-80 c = rw c.in-80.is (search)

pub returns-in-81 : goal.returns-in-81
unfolding instruction table
returns-in-81 c = rw c.in-81.is (search)

pub returns-in-101 : goal.returns-in-101
unfolding instruction table
returns-in-101 c = rw c.in-101.is (search)

pub returns-in-102 : goal.returns-in-102
unfolding instruction table
returns-in-102 c = rw c.in-102.is (search)

pub returns-in-110 : goal.returns-in-110
unfolding instruction table
returns-in-110 c = rw c.in-110.is (search)

pub returns-in-111 : goal.returns-in-111
unfolding instruction table
returns-in-111 c = rw c.in-111.is (search)

pub returns-in-112 : goal.returns-in-112
unfolding instruction table
returns-in-112 c = rw c.in-112.is (search)

pub returns-in-113 : goal.returns-in-113
unfolding instruction table
returns-in-113 c = rw c.in-113.is (search)

pub returns-in-114 : goal.returns-in-114
unfolding instruction table
returns-in-114 c = rw c.in-114.is (search)

pub returns-in-115 : goal.returns-in-115
unfolding instruction table
returns-in-115 c = rw c.in-115.is (search)

pub returns-in-118 : goal.returns-in-118
unfolding instruction table
returns-in-118 c = rw c.in-118.is (search)

pub returns-in-119 : goal.returns-in-119
unfolding instruction table
returns-in-119 c = rw c.in-119.is (search)

pub returns-in-120 : goal.returns-in-120
unfolding instruction table
returns-in-120 c = rw c.in-120.is (search)

pub returns-in-121 : goal.returns-in-121
unfolding instruction table
returns-in-121 c = rw c.in-121.is (search)

pub returns-in-123 : goal.returns-in-123
unfolding instruction table
returns-in-123 c = rw c.in-123.is (search)

pub returns-in_default : goal.returns-in_default
unfolding instruction table
returns-in_default c = rw (between (λ i. (families i).binary) 77 53 (search) c.requires)
