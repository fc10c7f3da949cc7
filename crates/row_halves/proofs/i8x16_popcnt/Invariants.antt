-- `row_halves::i8x16_popcnt` meets its contract: a loop over the halves, with the row beside itself for a second. Assumes nothing.
use Rattle.standard.specs.Integer.{ipopcnt}
use Rattle.packed_half.specs.Half.{half_unary}
use Rattle.row_halves.proofs.Pairs.{Turning}
use Rattle.row_halves.proofs.i8x16_popcnt.Given as goal

abbrev pub invariant-loop-half : goal.invariant-loop-half
invariant-loop-half l = Turning (λ x y. half_unary 8 (ipopcnt 8) x) l.initial.first l.initial.first l.first l.half-index
