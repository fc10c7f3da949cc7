-- How long what `show` writes is at most. Assumes nothing.
use mathlib.Core.Path.{◌≡◌, refl}
use mathlib.Core.Bool.{Bool, true, false, cond, ◌&&◌}
use mathlib.Core.List.{List, [], ◌++◌}
use Prim.Native.Nat.{ℕ, zero, suc, ◌*◌, ◌≤◌}
use native.Mathlib.Omega.{arith}
use lib.Dec.{eqb}
use lib.ListN.{length, get_or, take, drop, length-append}
use Rattle.calculator_rules.specs.Definition.{Machine, bytes, start}
use Rattle.recording_fields.specs.Definition.{wide, same}
use Rattle.recording_layout.specs.Definition as layout
use Rattle.recording_layout.specs.Definition.{record_at, judged}
use Rattle.recording_layout.proofs.Files.{counted}
use Rattle.recording_rules.specs.Definition as records
use Rattle.recording_rules.specs.Definition.{next}
use Rattle.program_digits.specs.Codes.{codes}
use Rattle.program_digits.specs.Digits.{decimal, hex_bytes}
use Rattle.program_digits.proofs.Laws.{decimal_length, length_hex_bytes}
use Rattle.program_digits.specs.Lines.{count_line}
use Rattle.program_recordings.specs.Lines.{replay}
use Rattle.program_recordings.proofs.Lengths.{replay_length}
use Rattle.program_step.specs.Shown.{shown}
use Rattle.program_step.proofs.Written.{shown_length}
use Rattle.program_outcome.specs.Outcome.{kind_name, low_four, high_four, scalar_digits, left_line}
use Rattle.program_record.specs.Record.{difference, head, record_text}
use Rattle.program_show.specs.Show.{given, show_from, show_judged, show_text}

kind_length : (k : ℕ) → length (kind_name k) ≤ 7
unfolding codes
kind_length k = by (eqb k 0) (eqb k 1) (eqb k 2)
  where
    by : (a b c : Bool) → length (cond a (codes " s i32 ") (cond b (codes " s i64 ") (cond c (codes " s f32 ") (codes " s f64 ")))) ≤ 7
    by true b c = omega arith
    by false true c = omega arith
    by false false true = omega arith
    by false false false = omega arith

scalar_length : (r : List ℕ) → length (scalar_digits r) ≤ 16
scalar_length r = by (wide (get_or r 49 0))
  where
    high : length (hex_bytes (high_four r)) ≡ 8
    high = length_hex_bytes (high_four r)

    low : length (hex_bytes (low_four r)) ≡ 8
    low = length_hex_bytes (low_four r)

    by : (t : Bool) → length (cond t (hex_bytes (high_four r) ++ hex_bytes (low_four r)) (hex_bytes (low_four r))) ≤ 16
    by true = omega (arith, high, low, length-append (hex_bytes (high_four r)) (hex_bytes (low_four r)))
    by false = omega (arith, low)

line_length : (v k s : List ℕ) (n : ℕ) → length v ≡ 32 → length k ≤ 7 → length s ≤ 16
    → length (codes "  vector " ++ (v ++ (k ++ (s ++ count_line " refused " n)))) ≤ 94
unfolding codes
line_length v k s n a b c = simp length-append (omega (arith, decimal_length n))

left_length : (r : List ℕ) → length (left_line r) ≤ 94
unfolding left_line
left_length r =
    line_length (hex_bytes (bytes r 32 16)) (kind_name (get_or r 49 0)) (scalar_digits r) (get_or r 48 0) (length_hex_bytes (bytes r 32 16))
    (kind_length (get_or r 49 0)) (scalar_length r)

titled_length : (l : List ℕ) → length l ≤ 94 → length (codes "  the definition gives\n" ++ l) ≤ 117
unfolding codes
titled_length l h = simp length-append (omega arith)

difference_length : (r d : List ℕ) → length (difference r d) ≤ 117
difference_length r d = by (same (drop 32 r) (drop 32 d))
  where
    by : (t : Bool) → length (cond t [] (codes "  the definition gives\n" ++ left_line d)) ≤ 117
    by true = omega arith
    by false = titled_length (left_line d) (left_length d)

headed_length : (n : ℕ) (l : List ℕ) → length l ≤ 222 → length ((codes "record " ++ decimal n) ++ (codes ": " ++ (l ++ codes "\n"))) ≤ 252
unfolding codes
headed_length n l h = simp length-append (omega (arith, decimal_length n))

three_length : (a b c : List ℕ) → length a ≤ 252 → length b ≤ 94 → length c ≤ 117 → length (a ++ (b ++ c)) ≤ 463
three_length a b c p q r = omega (arith, length-append a (b ++ c), length-append b c)

record_length : (n : ℕ) (r d : List ℕ) → length (record_text n r d) ≤ 463
unfolding record_text
record_length n r d = by (eqb (length r) 64 && eqb (length d) 64)
  where
    by : (t : Bool) → length (cond t (head n r ++ (left_line r ++ difference r d)) []) ≤ 463
    by true = three_length (head n r) (left_line r) (difference r d) (headed_length n (shown (take 32 r)) (shown_length (take 32 r))) (left_length r)
        (difference_length r d)
    by false = omega arith

from_length : (k place : ℕ) (file : List ℕ) (m : Machine) → length (show_from k place file m) ≤ 463 * k
unfolding show_from
from_length zero place file m = omega arith
from_length (suc k) place file m =
    let s = take 32 (record_at file place) in
    let one = record_text (suc place) (record_at file place) (given place m s) in
    let rest = show_from k (suc place) file (next place m s) in
    omega (arith, length-append one rest, record_length (suc place) (record_at file place) (given place m s), from_length k (suc place) file (next place m s))

pub show_within : (file : List ℕ) → length (show_text file) ≤ 131072
unfolding show_text
show_within file = by (judged file) refl
  where
    by : (j : layout.Judged) → judged file ≡ j → length (show_judged j file ++ replay (records.replay file)) ≤ 131072
    by (layout.recording n) e =
        omega (
          arith,
          length-append (show_from n 0 file start) (replay (records.replay file)),
          from_length n 0 file start,
          (counted file n e).0,
          replay_length (records.replay file),
        )
    by (layout.refused n) e = omega (arith, replay_length (records.replay file))
