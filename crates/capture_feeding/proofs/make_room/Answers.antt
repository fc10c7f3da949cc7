-- `capture_feeding::make_room` meets its contract. Assumes nothing.
use Prim.Native.Nat.{ℕ, ◌/◌}
use mathlib.Core.Path.{◌≡◌, refl, sym, ◌∙◌}
use mathlib.Core.Bool.{false, ◌||◌, true≢false}
use mathlib.Core.List.{List}
use native.Mathlib.Omega.{arith}
use borrow.Author.Tests.{le-ltb}
use lib.Dec.{ltb}
use lib.ListN.{length}
use Rattle.capture_history.specs.declared.Scan.{Scan}
use Rattle.capture_history.specs.State.{Stands}
use Rattle.capture_history.proofs.Standing.{slid}
use Rattle.capture_feeding.proofs.make_room.Goals as goal

-- none of the tests holds of a capture's window
sound : (L : ℕ) (X window : List ℕ) (s : Scan) → Stands L X window s
    → ((ltb (length window) s.filled || ltb s.filled (s.from / 8)) || ltb 1152921504606846976 s.before) ≡ false
sound L X window s h = rw (
  le-ltb _ _ h.inside,
  le-ltb s.filled (s.from / 8) (omega (arith, h.all, h.reached)),
  le-ltb 1152921504606846976 s.before (omega (arith, h.all, h.few)),
) refl

pub returns-then-window-filled : goal.returns-then-window-filled
returns-then-window-filled c = record {
  kept = λ L X s. absurd (true≢false (sym c.if-window-filled.true ∙ sound L X _ _ s));
  in_first_byte = λ L X s. absurd (true≢false (sym c.if-window-filled.true ∙ sound L X _ _ s));
}

pub returns : goal.returns
returns c = record { kept = λ L X s. slid L X _ _ _ s (omega arith) c.copy_within.ensures.after; in_first_byte = λ L X s. omega arith }
