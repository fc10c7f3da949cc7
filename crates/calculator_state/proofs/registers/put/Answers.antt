-- `calculator_state::registers::put` meets its contract: two words written. Assumes nothing.
use Prim.Native.Nat.{◌%◌}
use native.Mathlib.Omega.{arith}
use Rattle.calculator_state.proofs.Words.{wrote}
use Rattle.calculator_state.proofs.registers.put.Goals as goal

pub store-requires : goal.store-requires
store-requires c = omega arith

pub returns : goal.returns
returns c =
    rw c.store.ensures (wrote c.args.w.now (c.args.register % 16) c.args.v.lo
    c.args.v.hi (omega arith))
