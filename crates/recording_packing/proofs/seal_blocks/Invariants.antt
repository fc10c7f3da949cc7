-- `recording_packing::seal_blocks` meets its contract. Assumes nothing.
use mathlib.Core.Path.{◌≡◌}
use mathlib.Core.List.{◌++◌}
use Prim.Native.Nat.{◌+◌, ◌-◌, ◌*◌, ◌/◌, ◌≤◌}
use lib.ListN.{length, drop}
use Rattle.recording_packing.specs.Definition.{packed_from, standing}
use Rattle.recording_packing.proofs.seal_blocks.Given as goal

abbrev pub invariant-loop-k : goal.invariant-loop-k
invariant-loop-k l =
    (l.blocks ≡ (l.n + 6) / 7) × (l.k ≤ l.blocks) × (length l.out ≡ length l.initial.out)
    × (l.out ≡ packed_from l.k 0 (standing l.n l.initial.out) ++ drop (512 * l.k) l.initial.out)

abbrev pub decreases-loop-k : goal.decreases-loop-k
decreases-loop-k l = l.blocks - l.k
