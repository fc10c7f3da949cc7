-- `packed_reduce::bitmask8` meets its contract: the sign bits of 8 lanes of 8 bits, from the low end. Assumes nothing.
use borrow.Author.Rules.{rules}
use lib.Dec.{lit<}
use Rattle.packed_half.specs.Half.{half_bitmask}
use Rattle.packed_half.proofs.Signs.{gathered_is, lowest}
use Rattle.packed_reduce.proofs.bitmask8.Goals as goal

pub returns : goal.returns
unfolding half_bitmask
returns c = gathered_is 7 7 c.args.a (lit< tt)

pub overflow_cast-mask : goal.overflow_cast-mask
overflow_cast-mask c = rw lowest (search rules)

pub overflow_cast-mask-2 : goal.overflow_cast-mask-2
overflow_cast-mask-2 c = rw lowest (search rules)

pub overflow_cast-mask-3 : goal.overflow_cast-mask-3
overflow_cast-mask-3 c = rw lowest (search rules)

pub overflow_cast-mask-4 : goal.overflow_cast-mask-4
overflow_cast-mask-4 c = rw lowest (search rules)

pub overflow_cast-mask-5 : goal.overflow_cast-mask-5
overflow_cast-mask-5 c = rw lowest (search rules)

pub overflow_cast-mask-6 : goal.overflow_cast-mask-6
overflow_cast-mask-6 c = rw lowest (search rules)

pub overflow_cast-mask-7 : goal.overflow_cast-mask-7
overflow_cast-mask-7 c = rw lowest (search rules)

pub overflow_cast-mask-8 : goal.overflow_cast-mask-8
overflow_cast-mask-8 c = rw lowest (search rules)
