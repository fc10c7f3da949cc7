-- `simd::V128::join8` meets its contract: both halves joined. Assumes nothing.
use borrow.Author.Rules.{rules}
use mathlib.Core.Path.{refl}
use Rattle.standard.proofs.Halves.{from_halves}
use Rattle.simd.proofs.V128.join8.Goals as goal

pub returns : goal.returns
returns c = from_halves 8 8 refl c.args.a (search rules) c.half8.ensures c.half8-2.ensures
