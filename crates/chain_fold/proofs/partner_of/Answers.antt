-- `chain_fold::partner_of` meets its contract. Assumes nothing.
use Rattle.std.proofs.Common.{arith}
use Rattle.chain.proofs.Lists.{partner_itself}
use Rattle.chain_fold.proofs.partner_of.Goals as goal

pub returns-in_default : goal.returns-in_default
returns-in_default c = partner_itself c.args.n _ _ _ (omega arith) (omega arith)
