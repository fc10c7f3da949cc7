-- `simd::V128::join32` meets its contract: both halves joined. Assumes nothing.
use borrow.Author.Rules.{rules}
use mathlib.Core.Path.{refl}
use Rattle.standard.proofs.Halves.{from_halves}
use Rattle.simd.proofs.V128.join32.Goals as goal

pub returns : goal.returns
returns c = from_halves 32 2 refl c.args.a (search rules) c.half32.ensures c.half32-2.ensures
