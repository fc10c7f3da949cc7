-- `packed_reduce::bitmask16` meets its contract: the sign bits of 4 lanes of 16 bits, from the low end. Assumes nothing.
use borrow.Author.Rules.{rules}
use lib.Dec.{lit<}
use Rattle.packed_half.specs.Half.{half_bitmask}
use Rattle.packed_half.proofs.Signs.{gathered_is, lowest}
use Rattle.packed_reduce.proofs.bitmask16.Goals as goal

pub returns : goal.returns
unfolding half_bitmask
returns c = gathered_is 15 3 c.args.a (lit< tt)

pub overflow_cast-mask : goal.overflow_cast-mask
overflow_cast-mask c = rw lowest (search rules)

pub overflow_cast-mask-2 : goal.overflow_cast-mask-2
overflow_cast-mask-2 c = rw lowest (search rules)

pub overflow_cast-mask-3 : goal.overflow_cast-mask-3
overflow_cast-mask-3 c = rw lowest (search rules)

pub overflow_cast-mask-4 : goal.overflow_cast-mask-4
overflow_cast-mask-4 c = rw lowest (search rules)
