-- `row_halves::v128_xor` meets its contract. Assumes nothing.
use mathlib.Core.Path.{◌≡◌, refl, ◌∙◌}
use borrow.Author.Rules.{rules}
use lib.Bits.{bit_xor}
use Rattle.standard.specs.Integer.{ixor}
use Rattle.row_halves.specs.Rows.{ByHalves}
use Rattle.standard.proofs.Bitwise.{bitwise_halves, xor_bits}
use Rattle.row_halves.proofs.v128_xor.Goals as goal

parted : ByHalves (ixor 128) (ixor 64)
parted a b c d ha hc = bitwise_halves _ a b c d ha hc refl refl

pub returns-clause-first_after : goal.returns-clause-first_after
returns-clause-first_after c = c.combine.ensures.first_after _ _ parted (λ x y r hx hy p. let met : r ≡ bit_xor x y = search rules in met ∙ xor_bits 64 x y hx hy)
