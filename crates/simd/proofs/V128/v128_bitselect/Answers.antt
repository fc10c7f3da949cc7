-- `simd::V128::v128_bitselect` meets its contract. Assumes nothing.
use mathlib.Core.Path.{ap, ap₂, ◌∙◌}
use Rattle.standard.specs.Integer.{iand, ior}
use Rattle.simd.specs.Number.{number}
use Rattle.simd.proofs.V128.v128_bitselect.Goals as goal

pub returns : goal.returns
returns c =
    c.v128_or.ensures
    ∙ ap₂ (ior 128) c.v128_and.ensures
    (c.v128_and-2.ensures ∙ ap (iand 128 (number c.args.v2)) c.v128_not.ensures)

pub v128_and-requires : goal.v128_and-requires
v128_and-requires c = tt

pub v128_not-requires : goal.v128_not-requires
v128_not-requires c = tt

pub v128_and-requires-2 : goal.v128_and-requires-2
v128_and-requires-2 c = tt

pub v128_or-requires : goal.v128_or-requires
v128_or-requires c = tt
