-- `row_vectors::i8x16_popcnt` meets its contract: a loop over the vectors, with the row beside itself for a second. Assumes nothing.
use Rattle.standard.specs.Integer.{ipopcnt}
use Rattle.standard.specs.Lanes.{unary}
use Rattle.row_vectors.proofs.Numbers.{Turning, alone}
use Rattle.row_vectors.proofs.i8x16_popcnt.Given as goal

abbrev pub invariant-loop-a : goal.invariant-loop-a
invariant-loop-a l = Turning (alone (unary 8 (ipopcnt 8))) l.initial.first l.initial.first l.first l.a-index
