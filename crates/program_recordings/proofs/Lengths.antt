-- How long the lines are at most. Assumes nothing.
use mathlib.Core.Path.{◌≡◌}
use mathlib.Core.Bool.{Bool, true, false, cond}
use mathlib.Core.List.{List, [], ◌∷◌, ◌++◌}
use Prim.Native.Nat.{ℕ, suc, ◌*◌, ◌≤◌}
use native.Mathlib.Omega.{arith}
use lib.Dec.{ltb, eqb}
use lib.ListN.{length, length-append}
use Rattle.recording_fields.specs.Definition as trace
use Rattle.recording_rules.specs.Definition as records
use Rattle.recording_mending_rules.specs.Definition as mending
use Rattle.program_digits.specs.Codes.{codes}
use Rattle.program_digits.specs.Digits.{decimal}
use Rattle.program_digits.proofs.Laws.{decimal_length}
use Rattle.program_recordings.specs.Lines.{replay, record_said, bit_line, bit_lines, stop_line, mend_said}

pub replay_length : (a : trace.Answer) → length (replay a) ≤ 32
unfolding replay codes
replay_length trace.agrees = omega arith
replay_length (trace.differs n) = simp length-append (omega (arith, decimal_length n))
replay_length (trace.refused n) = simp length-append (omega (arith, decimal_length n))

pub record_said_length : (a : records.Recorded) → length (record_said a) ≤ 32
unfolding record_said codes
record_said_length (records.wrote n) = omega arith
record_said_length records.empty = omega arith
record_said_length records.short = omega arith
record_said_length (records.rejected n) = simp length-append (omega (arith, decimal_length n))

bit_line_length : (k b : ℕ) → length (bit_line k b) ≤ 52
unfolding codes
bit_line_length k b = go (ltb b 4096)
  where
    go : (t : Bool) → length (cond t ((codes "block " ++ decimal k) ++ (codes " bit " ++ (decimal b ++ codes "\n"))) []) ≤ 52
    go true = simp length-append (omega (arith, decimal_length k, decimal_length b))
    go false = omega arith

bit_lines_length : (k : ℕ) (bits : List ℕ) → length (bit_lines k bits) ≤ 52 * length bits
unfolding bit_lines
bit_lines_length k [] = omega arith
bit_lines_length k (b ∷ bits) = simp length-append (omega (arith, bit_line_length k b, bit_lines_length (suc k) bits))

pub mend_said_length : (m : mending.Mending) → length m.bits ≡ 37 → length (mend_said m) ≤ 2048
unfolding mend_said codes
mend_said_length m h = go (eqb m.refusal 0)
  where
    stop : (t : Bool) → length (cond t ((codes "block " ++ decimal m.blocks) ++ codes " not mended\n") []) ≤ 38
    stop true = simp length-append (omega (arith, decimal_length m.blocks))
    stop false = omega arith

    go : (t : Bool)
        → length (cond t (bit_lines 0 m.bits ++ stop_line m.stopped m.blocks) (codes "refused " ++ (decimal m.refusal ++ codes "\n"))) ≤ 2048
    go true = simp length-append (omega (arith, bit_lines_length 0 m.bits, stop m.stopped))
    go false = simp length-append (omega (arith, decimal_length m.refusal))
