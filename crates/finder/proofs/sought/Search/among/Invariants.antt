-- `finder::sought::Search::among` meets its contract: what a search from the position reached gives is the answer. Assumes nothing.
use Prim.Native.Nat.{◌+◌, ◌*◌, ◌-◌, ◌≤◌}
use mathlib.Core.Path.{◌≡◌}
use Rattle.finder_windows.specs.Definition.{bits, marker_bits, first_from}
use Rattle.finder.proofs.sought.Search.among.Given as goal

abbrev pub invariant-loop-k : goal.invariant-loop-k
invariant-loop-k l =
    (l.k ≤ l.count)
    × (first_from (bits l.self.buffer.now) (marker_bits l.self.marker) l.self.tolerance l.self.frame (l.count - l.skip) (8 * l.at + l.skip)
    ≡ first_from (bits l.self.buffer.now) (marker_bits l.self.marker) l.self.tolerance l.self.frame (l.count - l.k) (8 * l.at + l.k))

abbrev pub decreases-loop-k : goal.decreases-loop-k
decreases-loop-k l = l.count - l.k
