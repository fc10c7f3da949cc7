-- What a window and three numbers stand for: a capture, as far as it has come and as far as it has been searched.
use Rattle.std.specs.Prelude.{ℕ, ◌+◌, ◌*◌, ◌/◌, ◌<◌, ◌≤◌, ◌≡◌, Option, Some, None, List, [], ◌∷◌, ◌++◌, length, take, drop}
use Rattle.finder_windows.specs.Definition.{bits, marker_bits}
use Rattle.capture_meetings.specs.Meetings.{Meeting, met, all_from, places, meetings}
use Rattle.capture_history.specs.declared.Scan.{Scan}
use Rattle.capture_history.specs.declared.Meeting as declared
use Rattle.capture_history.specs.declared.Next.{Next}
use Rattle.capture_history.specs.declared.Fed.{Fed}

-- the position of the capture that is searched next
abbrev pub place : Scan → ℕ
place s = 8 * s.before + s.from

-- The bytes X have come, the last of them are in the window, and each position before `place` has been searched.
pub record Stands (L : ℕ) (X window : List ℕ) (s : Scan) : Type 0 where
  pub frame : 64 ≤ L
  pub inside : s.filled ≤ length window
  pub all : s.before + s.filled ≡ length X
  pub few : length X ≤ 1152921504606846976
  pub tail : take s.filled window ≡ drop s.before X
  pub reached : place s ≤ places L (8 * length X)

-- what has been given: the meetings before `place`
abbrev pub given : ℕ → ℕ → ℕ → List ℕ → Scan → List Meeting
given m t L X s = all_from (bits X) (marker_bits m) t L (place s) 0

-- A meeting: it is the next after what has been given. None: what has been given is every meeting of what has come, and no position is left.
abbrev pub Gives : ℕ → ℕ → ℕ → List ℕ → Scan → Option declared.Meeting → Scan → Type 0
Gives m t L X s (Some found) r = given m t L X r ≡ given m t L X s ++ (met found.position found.first found.second ∷ [])
Gives m t L X s None r =
    (given m t L X r ≡ given m t L X s) × (given m t L X r ≡ meetings (bits X) (marker_bits m) t L) × (place r ≡ places L (8 * length X))

abbrev pub Told : ℕ → ℕ → ℕ → List ℕ → List ℕ → Scan → Next → Type 0
Told m t L X window s next = (Stands L X window next.scan) × Gives m t L X s next.meeting next.scan

-- the same capture in another window
pub record Kept (L : ℕ) (X window : List ℕ) (s r : Scan) : Type 0 where
  pub stands : Stands L X window r
  pub same : place r ≡ place s

-- The capture with some bytes of a piece more, searched as far as before. Where no position was left, and the window has more bytes than those in which L + 31
-- bits can stand, some are taken of any piece that has any.
pub record Taken (L : ℕ) (X piece window : List ℕ) (s : Scan) (r : Fed) : Type 0 where
  pub stands : Stands L (X ++ take r.used piece) window r.scan
  pub same : place r.scan ≡ place s
  pub on : place s ≡ places L (8 * length X) → (L + 38) / 8 < length window → length X < 1152921504606846976 → 0 < length piece → 0 < r.used
