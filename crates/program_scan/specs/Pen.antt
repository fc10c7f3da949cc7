-- Where lines are put one after another: the text that lines have in common, made once and changed where the next position's digits change.
use Rattle.std.specs.Prelude.{ℕ, zero, suc, ◌+◌, ◌*◌, ◌-◌, ◌/◌, ◌%◌, ◌^◌, ◌<◌, ◌≤◌, ◌≡◌, cond, ◌&&◌, Option, Some, None, List, [], ◌∷◌, ◌++◌, ltb, leb, length, take, get_or}
use Rattle.program_digits.specs.Codes.{codes}
use Rattle.program_digits.specs.Digits.{digits}
use Rattle.program_digits.specs.Put.{Wrote}
use Rattle.finder_windows.specs.Definition.{bits, marker_bits}
use Rattle.finder_windows.specs.declared.Found.{Found}
use Rattle.capture_meetings.specs.Meetings.{Meeting, met, all_from, shift}
use Rattle.program_scan.specs.Lines.{lines}

-- the n lowest bytes of a word, the lowest first
unfoldable pub little : ℕ → ℕ → List ℕ
little zero w = []
little (suc n) w = w % 256 ∷ little n (w / 256)

-- a number has n decimal digits
pub record Digits (n N : ℕ) : Type 0 where
  pub some : 1 ≤ n
  pub few : n ≤ 20
  pub below : N < 10 ^ n
  pub above : 1 < n → 10 ^ (n - 1) ≤ N

-- The text begins as the line of position N does, but for the position's last digit; the word has that digit and what follows it, "0 distan" and what it
-- counts.
pub record Ready (text : List ℕ) (n w N : ℕ) : Type 0 where
  pub long : 48 ≤ length text
  pub count : Digits n N
  pub head : take (8 + n) text ≡ codes "position " ++ digits 10 (n - 1) (N / 10)
  pub tail : w ≡ 7953766455951237168 + N % 10

-- a position's two distances as one number: the second 65,536 times, and 2 ^ 24 more where one is beyond the tolerance
abbrev pub coded : ℕ → ℕ → ℕ → ℕ
coded d e t = d + 65536 * e + cond (leb d t && leb e t) 0 16777216

-- what it says of the position N
abbrev pub told : ℕ → ℕ → List Meeting
told N code = cond (ltb code 16777216) (met N (code % 65536) (code / 65536) ∷ []) []

-- those of n positions from N on, whose codes stand 32 entries apart
unfoldable pub tolds : List ℕ → ℕ → ℕ → ℕ → List Meeting
tolds codes i N zero = []
tolds codes i N (suc n) = tolds codes i N n ++ told (N + n) (get_or codes (i + 32 * n) 0)

-- those of 8 * n positions from N on
unfoldable pub all_told : List ℕ → ℕ → ℕ → List Meeting
all_told codes N zero = []
all_told codes N (suc n) = all_told codes N n ++ tolds codes n (N + 8 * n) 8

-- the digits of a code fit a line
abbrev pub Plain : ℕ → Type 0
Plain code = (code < 16777216 → (code % 65536 < 10) × (code / 65536 < 10))

-- a position that is found is inside, and its distances have one digit
abbrev pub Within : ℕ → ℕ → Option Found → Type 0
Within at end (Some f) = (at ≤ f.position) × (f.position < end) × (f.first < 10) × (f.second < 10)
Within at end None = at ≤ end

-- it is the first from a position on; or there is none before the end
abbrev pub Sought : List ℕ → List ℕ → ℕ → ℕ → ℕ → ℕ → Option Found → Type 0
Sought s m t L at end (Some f) = all_from s m t L (f.position + 1 - at) at ≡ met f.position f.first f.second ∷ []
Sought s m t L at end None = all_from s m t L (end - at) at ≡ []

-- The lines of the meetings from a position up to another were put into a block, and nothing else was changed. Short of the end, the block has no room for what
-- 256 positions may take.
pub record PutTo (block bs : List ℕ) (from end m t L base : ℕ) (left : List ℕ) (used at : ℕ) : Type 0 where
  pub forward : from ≤ at
  pub inside : at ≤ end
  pub wrote : Wrote block 0 (lines (shift base (all_from (bits bs) (marker_bits m) t L (at - from) from))) left used
  pub exact : length (lines (shift base (all_from (bits bs) (marker_bits m) t L (at - from) from))) ≡ used
  pub fits : used ≤ length block
  pub full : at < end → (length block < used + 11265) × (used ≡ 0 → length block < 45)
