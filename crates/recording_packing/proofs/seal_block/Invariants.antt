-- `recording_packing::seal_block` meets its contract: what stands before the records, then zeros up to the check, then the check. Assumes nothing.
use mathlib.Core.Path.{◌≡◌}
use Prim.Native.Nat.{◌+◌, ◌-◌, ◌*◌, ◌≤◌, ◌<◌}
use lib.ListN.{length, replicate}
use lib.Seq.{paste}
use Rattle.recording_packing.proofs.seal_block.Given as goal

abbrev pub invariant-loop-i : goal.invariant-loop-i
invariant-loop-i l =
    (l.k < 37) × (l.count ≤ 7) × (l.end ≡ 4 + 64 * l.count) × (l.i ≤ 510) × (length l.initial.block ≡ 512) × (length l.block ≡ 512)
    × (l.block ≡ paste l.initial.block l.end (replicate (510 - l.end) 0) (l.i - l.end))

abbrev pub decreases-loop-i : goal.decreases-loop-i
decreases-loop-i l = 510 - l.i
