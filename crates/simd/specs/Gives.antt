-- What is asked of a function that is done at every lane: it gives g, where `post` says what a call may return and `number` which number a lane is.
-- No reader has to believe it: private clauses alone cite it.
use Rattle.std.specs.Prelude.{ℕ, ◌≡◌}

abbrev pub Gives : {A : Type 0} {B : Type 0} → (A → ℕ) → (B → ℕ) → (A → B → Type 0) → (ℕ → ℕ) → Type 0
Gives {A} {B} number numbered post g = (x : A) (r : B) → post x r → numbered r ≡ g (number x)

abbrev pub GivesOfTwo : {A : Type 0} → (A → ℕ) → (A → A → A → Type 0) → (ℕ → ℕ → ℕ) → Type 0
GivesOfTwo {A} number post g = (x y r : A) → post x y r → number r ≡ g (number x) (number y)
