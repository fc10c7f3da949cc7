-- `finder_columns::low_nibbles` meets its contract. Assumes nothing.
use Prim.Native.Nat.{ℕ, ◌*◌, ◌-◌, ◌<◌, ◌≤◌}
use mathlib.Core.Path.{◌≡◌}
use lib.Bits.{bit_and, bit_xor}
use lib.ListN.{length, get_or}
use Rattle.standard.specs.Integer.{ipopcnt}
use Rattle.packed_half.specs.Half.{half_unary}
use Rattle.finder_columns.proofs.low_nibbles.Given as goal

abbrev pub count : ℕ → ℕ → ℕ → ℕ
count seen wanted x = half_unary 8 (ipopcnt 8) (bit_and (bit_xor (bit_and (x * 0x0101010101010101) seen) wanted) 0x0f0f0f0f0f0f0f0f)

abbrev pub invariant-loop-x : goal.invariant-loop-x
invariant-loop-x l = (l.x ≤ 16) × (length l.counts ≡ 16) × ((j : ℕ) → j < l.x → get_or l.counts j 0 ≡ count l.seen l.wanted j)

abbrev pub decreases-loop-x : goal.decreases-loop-x
decreases-loop-x l = 16 - l.x
