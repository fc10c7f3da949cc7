-- `simd::V128::v128_andnot` meets its contract. Assumes nothing.
use mathlib.Core.Path.{ap, ◌∙◌}
use Rattle.standard.specs.Integer.{iand}
use Rattle.simd.specs.Number.{number}
use Rattle.simd.proofs.V128.v128_andnot.Goals as goal

pub returns : goal.returns
returns c = c.v128_and.ensures ∙ ap (iand 128 (number c.args.self)) c.v128_not.ensures

pub v128_not-requires : goal.v128_not-requires
v128_not-requires c = tt

pub v128_and-requires : goal.v128_and-requires
v128_and-requires c = tt
