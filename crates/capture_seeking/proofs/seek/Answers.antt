-- `capture_seeking::seek` meets its contract. Assumes nothing.
use Prim.Native.Nat.{ℕ}
use mathlib.Core.Path.{◌≡◌, refl, sym, ◌∙◌}
use mathlib.Core.Bool.{false, ◌||◌, true≢false}
use mathlib.Core.List.{List}
use native.Mathlib.Omega.{arith}
use borrow.Author.Tests.{le-ltb, ltb-false}
use lib.Dec.{ltb}
use lib.ListN.{length}
use lib.Seq.{length-take-le}
use Rattle.finder_windows.specs.Definition.{marker_bits}
use Rattle.finder_windows.proofs.Refusals.{both_false}
use Rattle.capture_history.specs.declared.Scan.{Scan}
use Rattle.capture_history.specs.State.{Stands}
use Rattle.capture_history.proofs.Standing.{head_of, told_met, told_more, told_end}
use Rattle.capture_seeking.proofs.seek.Goals as goal

-- none of the tests holds of a capture's window
sound : (L : ℕ) (X window : List ℕ) (s : Scan) → Stands L X window s
    → ((ltb (length window) s.filled || ltb 1152921504606846976 s.before) || ltb 1152921504606846976 s.filled) ≡ false
sound L X window s h = rw (
  le-ltb _ _ h.inside,
  le-ltb 1152921504606846976 s.before (omega (arith, h.all, h.few)),
  le-ltb 1152921504606846976 s.filled (omega (arith, h.all, h.few)),
) refl

pub returns-then-window-filled : goal.returns-then-window-filled
returns-then-window-filled c = λ X s made. absurd (true≢false (sym c.if-window-filled.true ∙ sound _ X _ _ s))

pub returns-then-filled-tail : goal.returns-then-filled-tail
returns-then-filled-tail c = λ X s made. told_end _ _ _ X _ _ s (omega arith)

pub slice_bounds-next-end : goal.slice_bounds-next-end
slice_bounds-next-end c =
    let given = c.args in
    let filled = ltb-false (length given.window.now) given.scan.filled (both_false _ _ (both_false _ _ c.if-window-filled.false).0).0 in
    sym (length-take-le given.scan.filled given.window.now filled)

pub returns-in_default : goal.returns-in_default
returns-in_default c = λ X s made.
    let given = c.args in
    let size = length-take-le given.scan.filled given.window.now s.inside in
    told_more given.marker given.tolerance given.frame X given.window.now given.scan s _ 11 (omega arith) (omega (arith, s.all, s.reached))
    (sym (c.in_default.ensures s.frame (omega (arith, s.all, s.few)) (omega (arith, s.all, s.reached)) made))

pub returns-then-found-positions : goal.returns-then-found-positions
returns-then-found-positions c = λ X s made.
    let given = c.args in
    let size = length-take-le given.scan.filled given.window.now s.inside in
    absurd (omega (
      arith,
      (head_of (marker_bits given.marker) given.tolerance given.frame _ _ _ _ _ _
          (sym (c.in-Some.ensures s.frame (omega (arith, s.all, s.few)) (omega (arith, s.all, s.reached)) made))).high,
    ))

pub returns : goal.returns
returns c = λ X s made.
    let given = c.args in
    let size = length-take-le given.scan.filled given.window.now s.inside in
    told_met given.marker given.tolerance given.frame X given.window.now given.scan s _ _ _ _ (omega arith)
    (sym (c.in-Some.ensures s.frame (omega (arith, s.all, s.few)) (omega (arith, s.all, s.reached)) made))
