-- Every position of a capture at which the marker is met, in order, over lists of bits.
use Rattle.std.specs.Prelude.{ℕ, zero, suc, ◌+◌, ◌-◌, Bool, true, false, cond, List, [], ◌∷◌, ltb, eqb, length, take, drop}
use Rattle.finder_windows.specs.Definition.{window, distance, Answer, found, refused, stands, barred}

-- Where the marker is met, with the distances of the window there and of the one a frame later.
pub data Meeting : Type 0 where
  met : (position first second : ℕ) → Meeting

-- Of the n positions from p on, each at which it stands.
unfoldable pub all_from : List ℕ → List ℕ → ℕ → ℕ → ℕ → ℕ → List Meeting
all_from stream m t L zero p = []
all_from stream m t L (suc n) p =
    cond (stands stream m t L p) (met p (distance (window stream p) m) (distance (window stream (p + L)) m) ∷ all_from stream m t L n (p + 1))
    (all_from stream m t L n (p + 1))

-- At how many positions of n bits both windows are inside.
abbrev pub places : ℕ → ℕ → ℕ
places L n = n - (L + 31)

-- Those of a whole capture.
unfoldable pub meetings : List ℕ → List ℕ → ℕ → ℕ → List Meeting
meetings stream m t L = all_from stream m t L (places L (length stream)) 0

-- Meetings in a part of a capture, at the places that they have in the capture: the part begins k bits into it.
unfoldable pub shift : ℕ → List Meeting → List Meeting
shift k [] = []
shift k (met p d e ∷ ms) = met (k + p) d e ∷ shift k ms

-- Those of a segment, the w positions from the k-th bit on: it goes on for L + 31 bits beyond them, as far as the capture does.
unfoldable pub segment : List ℕ → List ℕ → ℕ → ℕ → ℕ → ℕ → List Meeting
segment stream m t L k w = shift k (meetings (take (w + (L + 31)) (drop k stream)) m t L)

-- The finder's answer: the first of them, or 11.
abbrev pub first_of : List Meeting → Answer
first_of [] = refused 11
first_of (met p d e ∷ ms) = found p d e

-- Whether there are any.
abbrev pub any : List Meeting → Bool
any [] = false
any (m ∷ ms) = true

-- What a scan ends with: 8, 9, then 10 where the whole capture is "shorter than L + 32 bits", 11 where nothing is met, else 0.
unfoldable pub ending : List ℕ → List ℕ → ℕ → ℕ → ℕ
ending stream m t L = cond (eqb (barred t L) 0) (cond (ltb (length stream) (L + 32)) 10 (cond (any (meetings stream m t L)) 0 11)) (barred t L)
