-- `capture_scanning::is_short` meets its contract. Assumes nothing.
use mathlib.Core.Path.{◌≡◌}
use native.Mathlib.Omega.{arith}
use lib.ListN.{length}
use Rattle.finder_windows.proofs.Refusals.{short_of}
use Rattle.capture_scanning.proofs.is_short.Goals as goal

pub returns : goal.returns
returns c = λ X window s.
    let all : c.saturating_add.result ≡ length X = omega (arith, s.all, s.few, c.saturating_add.ensures) in
    rw all (short_of X c.args.frame)
