-- `recording_mending::mend_blocks` meets its contract. Assumes nothing.
use Rattle.std.proofs.Common.{◌≡◌, ◌+◌, ◌-◌, ◌*◌, ◌≤◌, ◌++◌, length, drop, map, replicate}
use Rattle.recording_layout.specs.Definition.{blocks}
use Rattle.recording_mending_rules.specs.Definition.{written, blocks_from, bits_from}
use Rattle.recording_mending_place.specs.Mended.{number_of}
use Rattle.recording_mending.proofs.mend_blocks.Given as goal

abbrev pub invariant-loop-k : goal.invariant-loop-k
invariant-loop-k l =
    (length l.file ≤ length l.initial.out) × (length l.out ≡ length l.initial.out) × (length l.bits ≡ 37)
    × (l.k + written (blocks l.file - l.k) l.k l.file ≡ written (blocks l.file) 0 l.file)
    × (map number_of l.bits ≡ bits_from l.k 0 l.file ++ replicate (37 - l.k) 4096) × (l.out ≡ blocks_from l.k 0 l.file ++ drop (512 * l.k) l.initial.out)
