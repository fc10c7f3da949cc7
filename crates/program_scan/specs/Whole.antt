-- What `put_lines` promises.
use Rattle.std.specs.Prelude.{ℕ, ◌+◌, ◌*◌, ◌-◌, ◌<◌, ◌≤◌, min, ◌≡◌, true, false, List, ◌++◌, length, drop}
use Rattle.finder_windows.specs.Definition.{bits, marker_bits}
use Rattle.capture_meetings.specs.Meetings.{Meeting, all_from, places, shift}
use Rattle.capture_history.specs.declared.Scan.{Scan}
use Rattle.capture_history.specs.State.{place, Stands}
use Rattle.program_scan.specs.Lines.{lines}
use Rattle.program_scan.specs.declared.Put.{Put}

-- What is met in the bytes X from a position on and before another, and begins in their first `count` bytes, at its places in a capture of which `from` bytes
-- lie before X.
abbrev pub met_in : ℕ → ℕ → ℕ → ℕ → ℕ → List ℕ → ℕ → ℕ → List Meeting
met_in m t L from count X p q = shift (8 * from) (all_from (bits X) (marker_bits m) t L (min q (8 * count) - p) p)

-- The bytes X have come. The lines of what is met from the scan's place up to where it then stands are at the block's start, and the rest of the block is as it
-- was. Nothing more is met: no position is left; else the block has no room for the lines of 256 positions, and where nothing was put not for one.
pub record Lined (m t L from count : ℕ) (X window : List ℕ) (s : Scan) (block left : List ℕ) (r : Put) : Type 0 where
  pub stands : Stands L X window r.scan
  pub forward : place s ≤ place r.scan
  pub used : r.used ≡ length (lines (met_in m t L from count X (place s) (place r.scan)))
  pub said : left ≡ lines (met_in m t L from count X (place s) (place r.scan)) ++ drop r.used block
  pub done : r.done ≡ true → place r.scan ≡ places L (8 * length X)
  pub full : r.done ≡ false → (length block < r.used + 11265) × (r.used ≡ 0 → length block < 45)
