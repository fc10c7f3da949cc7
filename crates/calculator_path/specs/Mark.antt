-- The path that a mark asks for (document 01): "mark (0 lane by lane, anything else packed)".
use Rattle.std.specs.Prelude.{ℕ, zero, suc}
use Rattle.calculator_path.specs.declared.Path.{Path}

abbrev pub path_of : ℕ → Path
path_of zero = Path.LaneByLane
path_of (suc n) = Path.Packed
