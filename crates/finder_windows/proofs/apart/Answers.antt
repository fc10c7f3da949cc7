-- `finder_windows::apart` meets its contract. Assumes nothing.
use mathlib.Core.Path.{sym}
use native.Mathlib.Omega.{arith}
use Rattle.finder_windows.proofs.Distance.{distance_words}
use Rattle.finder_windows.proofs.apart.Goals as goal

pub returns : goal.returns
returns c = sym (distance_words c.args.seen c.args.marker (omega arith) (omega arith))
