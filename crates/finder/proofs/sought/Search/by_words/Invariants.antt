-- `finder::sought::Search::by_words` meets its contract: what a search from the position reached gives is the answer. Assumes nothing.
use Prim.Native.Nat.{◌+◌, ◌*◌}
use mathlib.Core.Path.{◌≡◌}
use Rattle.finder_windows.specs.Definition.{bits, marker_bits, first_from}
use Rattle.finder.proofs.sought.Search.by_words.Given as goal

abbrev pub invariant-loop-left : goal.invariant-loop-left
invariant-loop-left l =
    (8 * l.at + l.left ≡ l.count)
    × (first_from (bits l.self.buffer.now) (marker_bits l.self.marker) l.self.tolerance l.self.frame l.count 0
    ≡ first_from (bits l.self.buffer.now) (marker_bits l.self.marker) l.self.tolerance l.self.frame l.left (8 * l.at))

abbrev pub decreases-loop-left : goal.decreases-loop-left
decreases-loop-left l = l.left
