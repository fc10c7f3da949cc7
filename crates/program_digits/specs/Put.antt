-- Text put into a lent list from a place on. What has no room behind the place is left out, so that one text put after another is both together, whatever the
-- room; the rest of the list stays.
use Rattle.std.specs.Prelude.{ℕ, ◌+◌, ◌-◌, ◌≤◌, ◌≡◌, List, ◌++◌, length, take, drop}

-- what has room
abbrev pub fitting : List ℕ → ℕ → List ℕ → List ℕ
fitting out at text = take (length out - at) text

unfoldable pub written : List ℕ → ℕ → List ℕ → List ℕ
written out at text = take at out ++ (fitting out at text ++ drop (at + length (fitting out at text)) out)

-- text was put into a list, and the place after it was answered
pub record Wrote (out : List ℕ) (at : ℕ) (text left : List ℕ) (r : ℕ) : Type 0 where
  pub next : r ≡ at + length (fitting out at text)
  pub is : left ≡ written out at text

-- text was put at the start of a list that has room for it, and its length was answered. The last two parts follow from the others: they are stated so that the
-- proof that Rattle makes of `&out[..n]` finds them.
pub record Filled (out text left : List ℕ) (r : ℕ) : Type 0 where
  pub count : r ≡ length text
  pub is : left ≡ text ++ drop (length text) out
  pub room : r ≤ length left
  pub part : r ≡ length (take r left)
