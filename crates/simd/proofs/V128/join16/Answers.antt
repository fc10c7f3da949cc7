-- `simd::V128::join16` meets its contract: both halves joined. Assumes nothing.
use borrow.Author.Rules.{rules}
use mathlib.Core.Path.{refl}
use Rattle.standard.proofs.Halves.{from_halves}
use Rattle.simd.proofs.V128.join16.Goals as goal

pub returns : goal.returns
returns c = from_halves 16 4 refl c.args.a (search rules) c.half16.ensures c.half16-2.ensures
