-- `finder::sought::Search::through` meets its contract: what a search from the position reached gives is the answer. Assumes nothing.
use Prim.Native.Nat.{◌*◌}
use mathlib.Core.Path.{refl, sym, ◌∙◌}
use native.Mathlib.Nat.{add-zero, sub-zero}
use native.Mathlib.Omega.{arith}
use Rattle.finder_windows.proofs.Positions.{met_early, none_early}
use Rattle.finder.proofs.sought.Search.through.Goals as goal

pub loop-left-init : goal.loop-left-init
loop-left-init c = (refl, refl)

pub returns-then-is_some : goal.returns-then-is_some
returns-then-is_some c =
    let loop = c.loop-left in
    met_early _ _ _ _ 16 loop.left (8 * loop.at) (omega arith) c.among-found.result (sym c.is_some.ensures ∙ c.if-is_some.true)
    (rw (add-zero (8 * loop.at)) at c.among-found.ensures)
    ∙ sym loop.invariant.1

pub loop-left-preserved : goal.loop-left-preserved
loop-left-preserved c =
    let loop = c.loop-left in (
      omega arith,
      none_early _ _ _ _ 16 loop.left (8 * loop.at) (omega arith) c.among-found.result (sym c.is_some.ensures ∙ c.if-is_some.false)
          (rw (add-zero (8 * loop.at)) at c.among-found.ensures) refl (omega arith) loop.invariant.1,
    )

pub returns : goal.returns
returns c =
    let loop = c.loop-left in
    rw (add-zero (8 * loop.at), sub-zero loop.left) at c.among.ensures ∙ sym loop.invariant.1
