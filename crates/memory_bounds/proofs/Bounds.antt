-- What an access that is allowed gives, and one that is not, from the answer of the bounds test or of a load.
-- Assumes nothing.
use Rattle.std.proofs.Common.{◌≡◌, ℕ, ◌+◌, ◌<◌, ◌≤◌, Bool, true, false, cond, leb, List, length, sym, refl, ap, ◌∙◌, arith, le-leb, leb-true}
use borrow.Author.Tests.{lt-leb}
use Rattle.standard.specs.Refusal.{given}
use Rattle.standard.specs.Memory.{Accessed, answered, past, shortfall, within, number_at, with_number, load, store, written, kept_past, stored}

pub never : {A X : Type 0} {a : A} {n s : ℕ} → answered (given a) ≡ past n s → X
never e = let z : ◌≡◌ {A = ℕ} 0 1 = cc in absurd (omega arith)

pub same : {A : Type 0} {a b : A} → answered (given a) ≡ answered (given b) → a ≡ b
same e = cc

pub same_shortfall : {A : Type 0} {n s t : ℕ} → ◌≡◌ {A = Accessed A} (past n s) (past n t) → s ≡ t
same_shortfall e = cc

reached_by : {i l : ℕ} (s at n : ℕ) (t : Bool) → (t ≡ true → at + n ≤ l) → answered (given i) ≡ cond t (answered (given at)) (past 7 s) → i + n ≤ l
reached_by s at n true h p = rw (same p) (h refl)
reached_by s at n false h p = never p

picked : {A B : Type 0} {a : A} {b : B} (s : ℕ) (e : A) (t : Bool) (f : A → B) → answered (given a) ≡ cond t (answered (given e)) (past 7 s) → b ≡ f a
    → answered (given b) ≡ cond t (answered (given (f e))) (past 7 s)
picked s e true f p q = ap (λ b. answered (given b)) (q ∙ ap f (same p))
picked s e false f p q = never p

left : {A B : Type 0} {r : ℕ} (s : ℕ) (e : A) (f : B) (t : Bool) → past 7 r ≡ cond t (answered (given e)) (past 7 s) → past 7 r
    ≡ cond t (answered (given f)) (past 7 s)
left s e f true p = never (sym p)
left s e f false p = ap (past 7) (same_shortfall p)

module _ (m : List ℕ) (at n : ℕ) where
  -- the bounds test's two answers
  pub within_reach : {i : ℕ} → i ≡ at → at + n ≤ length m → answered (given i) ≡ within m at n at
  unfolding within
  within_reach e h = rw (le-leb _ _ h) (ap (λ i. answered (given i)) e)

  pub beyond_reach : {s : ℕ} → s ≡ shortfall m at n → length m < at + n → past 7 s ≡ within m at n at
  unfolding within
  beyond_reach e h = rw (lt-leb _ _ h) (ap (past 7) e)

  -- the place that the test gives has its n bytes
  pub reached : {i : ℕ} → answered (given i) ≡ within m at n at → i + n ≤ length m
  unfolding within
  reached p = reached_by (shortfall m at n) at n (leb (at + n) (length m)) (leb-true _ _) p

  -- what is made of the answer of an allowed access
  pub onward : {A B : Type 0} {a : A} {b : B} (e : A) (f : A → B) → answered (given a) ≡ within m at n e → b ≡ f a → answered (given b) ≡ within m at n (f e)
  unfolding within
  onward e f p q = picked (shortfall m at n) e (leb (at + n) (length m)) f p q

  -- of any other, the shortfall is handed on
  pub handed_on : {A B : Type 0} {s : ℕ} (e : A) (f : B) → past 7 s ≡ within m at n e → past 7 s ≡ within m at n f
  unfolding within
  handed_on e f p = left (shortfall m at n) e f (leb (at + n) (length m)) p

  -- a load of n bytes
  pub fetched : {i v : ℕ} → answered (given i) ≡ within m at n at → v ≡ number_at m i n → answered (given v) ≡ load n m at
  unfolding load
  fetched p q = onward at (λ (i : ℕ). number_at m i n) p q

  pub unfetched : {s : ℕ} → past 7 s ≡ within m at n at → past 7 s ≡ load n m at
  unfolding load
  unfetched p = handed_on at (number_at m at n) p

  -- a store of n bytes
  pub put : {i : ℕ} (x : ℕ) {after : List ℕ} → answered (given i) ≡ within m at n at → after ≡ with_number m i n x → written after ≡ stored (store n x m at) m
  unfolding store
  put x p q = ap (λ (r : Accessed (List ℕ)). stored r m) (onward at (λ (i : ℕ). with_number m i n x) p q)

  pub unput : {s : ℕ} (x : ℕ) → past 7 s ≡ within m at n at → kept_past 7 s m ≡ stored (store n x m at) m
  unfolding store
  unput x p = ap (λ (r : Accessed (List ℕ)). stored r m) (handed_on at (with_number m at n x) p)
