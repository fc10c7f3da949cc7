-- `lane_float_parts::lift` meets its contract. Assumes nothing.
use mathlib.Core.Path.{◌≡◌, sym}
use Prim.Native.Nat.{ℕ, ◌*◌, ◌%◌, ◌^◌, ◌<◌}
use native.Mathlib.Nat.{le_trans, le_of_eq, mod-lt, zero-lt-suc}
use lib.Pow.{pow_pos}
use Rattle.lane_float_pattern.proofs.Chosen.{one_shifted, half_ones}
use Rattle.lane_float_parts.proofs.lift.Goals as goal

places_lt : (j : ℕ) → j % 64 < 64
places_lt j = mod-lt j (zero-lt-suc 63)

one_is : (j : ℕ) → 1 * 2 ^ (j % 64) % 2 ^ 64 ≡ 2 ^ (j % 64)
one_is j = one_shifted 64 (j % 64) (places_lt j)

pub overflow_shl-one : goal.overflow_shl-one
overflow_shl-one c = places_lt c.args.j

pub overflow_sub-ones : goal.overflow_sub-ones
overflow_sub-ones c = le_trans (pow_pos (c.args.j % 64)) (le_of_eq (sym (one_is c.args.j)))

pub returns-then-even : goal.returns-then-even
returns-then-even c = rw (one_is c.args.j, c.if-even.true, ← half_ones (c.args.j % 64))

pub returns-then-away : goal.returns-then-away
returns-then-away c = rw (one_is c.args.j, c.if-even.false, c.if-away.true)
