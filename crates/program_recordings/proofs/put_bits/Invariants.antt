-- `program_recordings::put_bits` meets its contract. Assumes nothing.
use Rattle.std.proofs.Common.{◌≡◌, length, drop, map}
use Rattle.program_digits.proofs.Puts.{Completes}
use Rattle.recording_mending_place.specs.Mended.{number_of}
use Rattle.program_recordings.specs.Lines.{bit_lines}
use Rattle.program_recordings.proofs.put_bits.Given as goal

abbrev pub invariant-loop-block : goal.invariant-loop-block
invariant-loop-block l =
    (length l.out ≡ length l.initial.out)
    × Completes l.initial.out 0 (bit_lines 0 (map number_of l.bits)) l.out l.next (bit_lines l.block (drop l.block (map number_of l.bits)))
