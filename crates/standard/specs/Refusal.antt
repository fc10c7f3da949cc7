-- Refusals (document 01, the table "No., Given exactly when, Returns and leaves").
use Rattle.std.specs.Prelude.{ℕ, ◌/◌, Bool, true, false, cond, List, [], ◌∷◌, ltb, leb}

-- What an operation gives, or the number of its refusal.
pub data Answer (A : Type 0) : Type 0 where
  given : A → Answer A
  refused : ℕ → Answer A

-- 4: "lane not below the lane count". What else may be refused is tested after it.
abbrev pub lane_first : {A : Type 0} → ℕ → ℕ → Answer A → Answer A
lane_first w lane a = cond (ltb lane (128 / w)) a (refused 4)

abbrev pub at_lane : {A : Type 0} → ℕ → ℕ → A → Answer A
at_lane w lane a = lane_first w lane (given a)

-- 5: "a shuffle index above 31".
abbrev pub legal : List ℕ → Bool
legal [] = true
legal (i ∷ is) = cond (leb i 31) (legal is) false

abbrev pub at_indices : {A : Type 0} → List ℕ → A → Answer A
at_indices is a = cond (legal is) (given a) (refused 5)
