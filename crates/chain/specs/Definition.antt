-- Chains of shuffles (document 02, order 13): "Start from two vectors a and b, with a as the current one. Each link shuffles the current vector (the first)
-- with a, b or itself, by its own sixteen legal indices." A link is its seventeen bytes: its partner, then its indices. A vector is its number.
use Rattle.std.specs.Prelude.{ℕ, zero, suc, ◌^◌, ◌<◌, ◌≡◌, Bool, true, false, cond, List, [], ◌∷◌, ltb, length, get_or, drop}
use Rattle.standard.specs.Lanes.{joined, lanes}
use Rattle.standard.specs.Vector.{shuffle}
use Rattle.standard.specs.Refusal.{Answer, given, refused, legal}

abbrev pub indices : List ℕ → List ℕ
indices link = drop 1 link

-- 0 is a, 1 is b, any other number the current vector itself.
abbrev pub partner : {A : Type 0} → ℕ → A → A → A → A
partner zero a b current = a
partner (suc zero) a b current = b
partner (suc (suc n)) a b current = current

-- The current vector after the links.
unfoldable pub chained : List (List ℕ) → ℕ → ℕ → ℕ → ℕ
chained [] a b current = current
chained (link ∷ links) a b current = chained links a b (shuffle (indices link) current (partner (get_or link 0 0) a b current))

abbrev pub all_legal : List (List ℕ) → Bool
all_legal [] = true
all_legal (link ∷ links) = cond (legal (indices link)) (all_legal links) false

-- "Refusals: 18 more than 16 links, then 5 for an index above 31"; 0 is no refusal.
abbrev pub refusal : List (List ℕ) → ℕ
refusal links = cond (ltb 16 (length links)) 18 (cond (all_legal links) 0 5)

-- The answer by the refusal's number.
abbrev pub answered : {A : Type 0} → ℕ → A → Answer A
answered zero x = given x
answered (suc n) x = refused (suc n)

-- The chain applied to a and b.
abbrev pub applied : List (List ℕ) → ℕ → ℕ → Answer ℕ
applied links a b = answered (refusal links) (chained links a b a)

-- n numbers from k on.
abbrev pub counted : ℕ → ℕ → List ℕ
counted zero k = []
counted (suc n) k = k ∷ counted n (suc k)

-- The vectors of the bytes 0 to 15 and 16 to 31: their shuffle by sixteen legal indices has the indices for its bytes.
abbrev pub low_places : ℕ
low_places = joined 8 (counted 16 0)

abbrev pub high_places : ℕ
high_places = joined 8 (counted 16 16)

-- "one list of sixteen indices gives the same result by one shuffle of a and b": the bytes that the chain makes of these two. That it does, for all a and b,
-- and that no other does, is proved (proofs/Theorems) and promised of what `fold` writes.
unfoldable pub folded : List (List ℕ) → List ℕ
folded links = lanes 8 (chained links low_places high_places low_places)

-- What order 13 asks of a list: one shuffle of a and b by it is the chain "for all a and b", and no other list of sixteen legal indices does that.
abbrev pub Does : List (List ℕ) → List ℕ → Type 0
Does links is = (a b : ℕ) → a < 2 ^ 128 → b < 2 ^ 128 → shuffle is a b ≡ chained links a b a

pub record OneShuffle (links : List (List ℕ)) (is : List ℕ) : Type 0 where
  pub legal_indices : legal is ≡ true
  pub does : Does links is
  pub only : (js : List ℕ) → length js ≡ 16 → legal js ≡ true → Does links js → js ≡ is

-- What stands where the indices go, by the refusal's number: those that stood there where there is one.
abbrev pub left : ℕ → List ℕ → List ℕ → List ℕ
left zero folded before = folded
left (suc n) folded before = before
