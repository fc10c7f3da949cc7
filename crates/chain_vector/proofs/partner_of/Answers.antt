-- `chain_vector::partner_of` meets its contract. Assumes nothing.
use mathlib.Core.Path.{refl}
use Rattle.std.proofs.Common.{arith}
use Rattle.chain.proofs.Lists.{partner_itself}
use Rattle.chain_vector.proofs.partner_of.Goals as goal

pub returns-in-0 : goal.returns-in-0
returns-in-0 c = rw c.in-0.is refl

pub returns-in-1 : goal.returns-in-1
returns-in-1 c = rw c.in-1.is refl

pub returns-in_default : goal.returns-in_default
returns-in_default c = partner_itself c.args.n _ _ _ (omega arith) (omega arith)
