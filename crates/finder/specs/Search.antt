-- What a search in a buffer is to find.
use Rattle.std.specs.Prelude.{ℕ}
use Rattle.finder_windows.specs.Definition.{Answer, bits, marker_bits, first_from}
use Rattle.finder.specs.declared.sought.Search.{Search}

-- Among n positions of its buffer, from p on.
abbrev pub first_among : Search → ℕ → ℕ → Answer
first_among s n p = first_from (bits s.buffer.now) (marker_bits s.marker) s.tolerance s.frame n p
