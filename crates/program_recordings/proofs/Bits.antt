-- The lines of the bits put back, one after the other. Assumes nothing.
use mathlib.Core.Path.{◌≡◌}
use mathlib.Core.List.{List, [], ◌++◌}
use Prim.Native.Nat.{ℕ, ◌+◌, ◌<◌, ◌≤◌}
use native.Mathlib.Numerals.{add-one}
use lib.ListN.{length, get_or, drop, drop_of_length-le}
use lib.Seq.{drop-cons}
use Rattle.program_recordings.specs.Lines.{bit_line, bit_lines}

pub one_bit : (i : ℕ) (bits : List ℕ) → i < length bits
    → bit_lines i (drop i bits) ≡ bit_line i (get_or bits i 0) ++ bit_lines (i + 1) (drop (i + 1) bits)
unfolding bit_lines
one_bit i bits h = rw (add-one, drop-cons bits i 0 h)

pub no_bits : (i : ℕ) (bits : List ℕ) → length bits ≤ i → bit_lines i (drop i bits) ≡ []
unfolding bit_lines
no_bits i bits h = rw (drop_of_length-le bits h)
