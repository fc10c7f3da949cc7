-- What is left to be shown of a recording, from a record on. Assumes nothing.
use mathlib.Core.Path.{◌≡◌}
use mathlib.Core.List.{List, [], ◌++◌}
use Prim.Native.Nat.{ℕ, suc, ◌+◌, ◌-◌, ◌*◌, ◌≤◌, ◌<◌}
use native.Mathlib.Numerals.{add-one}
use native.Mathlib.Omega.{arith}
use borrow.Author.Tests.{eq-eqb}
use lib.ListN.{length, take, length-take, length-drop}
use lib.Seq.{length-take-le}
use Rattle.calculator_rules.specs.Definition.{Machine}
use Rattle.recording_fields.specs.Definition.{recorded}
use Rattle.recording_layout.specs.Definition.{blocks, record_at}
use Rattle.recording_rules.specs.Definition.{next}
use Rattle.program_record.specs.Record.{record_text}
use Rattle.program_show.specs.Show.{given, show_from}

-- a record written over 64 bytes
pub over : (before s t : List ℕ) → length before ≡ 64 → length s ≡ 32 → recorded before s t ≡ s ++ t
over before s t p q = rw (eq-eqb (length before) 64 p, eq-eqb (length s) 32 q)

-- the step of a record
pub step_long : (n at : ℕ) (file : List ℕ) → at < n → n ≤ 7 * blocks file → length (take 32 (record_at file at)) ≡ 32
step_long n at file h k = length-take-le 32 (record_at file at) (simp (length-take, length-drop) (omega arith))

module _ (n at : ℕ) (file : List ℕ) (m : Machine) where
  pub none_left : n ≤ at → show_from (n - at) at file m ≡ []
  unfolding show_from
  none_left h = let z : n - at ≡ 0 = omega arith in rw z

  pub one_more : {d : List ℕ} {after : Machine} → at < n → d ≡ given at m (take 32 (record_at file at)) → after ≡ next at m (take 32 (record_at file at))
      → show_from (n - at) at file m ≡ record_text (at + 1) (record_at file at) d ++ show_from (n - (at + 1)) (at + 1) file after
  unfolding show_from
  one_more h e f = let more : n - at ≡ suc (n - (at + 1)) = omega arith in rw (e, f, more, add-one)
