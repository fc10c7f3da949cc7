-- `packed_reduce::bitmask32` meets its contract: the sign bits of 2 lanes of 32 bits, from the low end. Assumes nothing.
use borrow.Author.Rules.{rules}
use lib.Dec.{lit<}
use Rattle.packed_half.specs.Half.{half_bitmask}
use Rattle.packed_half.proofs.Signs.{gathered_is, lowest}
use Rattle.packed_reduce.proofs.bitmask32.Goals as goal

pub returns : goal.returns
unfolding half_bitmask
returns c = gathered_is 31 1 c.args.a (lit< tt)

pub overflow_cast-mask : goal.overflow_cast-mask
overflow_cast-mask c = rw lowest (search rules)

pub overflow_cast-mask-2 : goal.overflow_cast-mask-2
overflow_cast-mask-2 c = rw lowest (search rules)
