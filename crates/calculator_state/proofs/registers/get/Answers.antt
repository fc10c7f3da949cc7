-- `calculator_state::registers::get` meets its contract: two words read. Assumes nothing.
use Prim.Native.Nat.{◌%◌}
use Rattle.calculator_state.proofs.Words.{read}
use Rattle.calculator_state.proofs.registers.get.Goals as goal

pub returns : goal.returns
returns c = read c.args.w.now (c.args.register % 16)
