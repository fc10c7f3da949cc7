-- `recording_mending_place::walk` meets its contract. The loop's invariant: w is the register that a flip of bit 4095 - i gives, and no bit past that gives q.
-- Assumes nothing.
use mathlib.Core.Path.{◌≡◌}
use Prim.Native.Nat.{ℕ, ◌+◌, ◌-◌, ◌≤◌, ◌<◌}
use Rattle.recording_crc16.specs.Powers.{times}
use Rattle.recording_mending_place.proofs.walk.Given as goal

abbrev pub invariant-loop-i : goal.invariant-loop-i
invariant-loop-i l = (l.i ≤ 4096) × (l.power ≡ times (l.i + 1) 32768) × ((j : ℕ) → j < l.i → times (j + 1) 32768 ≡ l.q → ⊥)

abbrev pub decreases-loop-i : goal.decreases-loop-i
decreases-loop-i l = 4096 - l.i
