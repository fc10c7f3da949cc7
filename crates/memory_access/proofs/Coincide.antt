-- Any two results that a promise allows coincide: an answer is a refusal or a value, and never both. Halves are below 2^64, as of every value of the code.
-- Assumes nothing.
use Rattle.std.proofs.Common.{◌≡◌, ℕ, ◌/◌, ◌%◌, ◌+◌, ◌*◌, ◌^◌, ◌<◌, List, refl, sym, ap, ◌∙◌, arith}
use Rattle.std.specs.Prelude.{Result, Ok, Err}
use Rattle.standard.specs.Refusal.{refused}
use Rattle.standard.specs.Memory.{Accessed, answered, past, written, kept, kept_past}
use Rattle.standard.proofs.Digits.{low_digit, rest_digits}
use Rattle.memory_bounds.specs.declared.Shortfall.{Shortfall}
use Rattle.memory_access.specs.declared.Halves.{Halves}
use Rattle.memory_bounds.specs.Bounds.{access_answer}
use Rattle.memory_access.specs.Access.{put_answer, fetched}
use Rattle.memory_access.specs.AccessError.{refused_access, store_answer}
use Rattle.memory_access.specs.declared.AccessError.{AccessError}
use Rattle.standard_refusal.proofs.Numbers.{same_number}
use Rattle.memory_bounds.proofs.Bounds.{never, same, same_shortfall}

-- of two shortfalls
pub shortfalls_coincide : (s t : Shortfall) → s.0 ≡ t.0 → s ≡ t
shortfalls_coincide s t e = λ i. record { 0 = e i }

-- of two loads, whose values coincide where they stand for one number
pub fetched_coincide : {A : Type 0} (value : A → ℕ) (a b : Result A Shortfall)
    → ((x y : A) → a ≡ Ok x → b ≡ Ok y → value x ≡ value y → x ≡ y) → fetched value a ≡ fetched value b → a ≡ b
fetched_coincide value (Ok x) (Ok y) one e = ap Ok (one x y refl refl (same e))
fetched_coincide value (Ok x) (Err t) one e = never e
fetched_coincide value (Err s) (Ok y) one e = never (sym e)
fetched_coincide value (Err s) (Err t) one e = ap Err (shortfalls_coincide s t (same_shortfall e))

-- of two loads of 8, 16, 32 or 64 bits
pub numbers_coincide : (a b : Result ℕ Shortfall) → fetched (λ x. x) a ≡ fetched (λ x. x) b → a ≡ b
numbers_coincide a b e = fetched_coincide (λ x. x) a b (λ x y p q one. one) e

-- of two bounds tests
pub accesses_coincide : (a b : Result ℕ Shortfall) → access_answer a ≡ access_answer b → a ≡ b
accesses_coincide (Ok i) (Ok j) e = ap Ok (same e)
accesses_coincide (Ok i) (Err t) e = never e
accesses_coincide (Err s) (Ok j) e = never (sym e)
accesses_coincide (Err s) (Err t) e = ap Err (shortfalls_coincide s t (same_shortfall e))

abbrev pub Held : Halves → Type 0
Held h = (h.lo < 2 ^ 64) × (h.hi < 2 ^ 64)

halves_coincide : (g h : Halves) → Held g → Held h → g.lo + 2 ^ 64 * g.hi ≡ h.lo + 2 ^ 64 * h.hi → g ≡ h
halves_coincide g h kg kh e = λ i. record { lo = low i; hi = high i }
  where
    low : g.lo ≡ h.lo
    low = sym (low_digit 64 g.lo g.hi kg.0) ∙ ap (λ (n : ℕ). n % 2 ^ 64) e ∙ low_digit 64 h.lo h.hi kh.0

    high : g.hi ≡ h.hi
    high = sym (rest_digits 64 g.lo g.hi kg.0) ∙ ap (λ (n : ℕ). n / 2 ^ 64) e ∙ rest_digits 64 h.lo h.hi kh.0

-- of two loads of 16 bytes
pub fetched128_coincide : (a b : Result Halves Shortfall) → ((h : Halves) → a ≡ Ok h → Held h) → ((h : Halves) → b ≡ Ok h → Held h)
    → fetched (λ h. h.lo + 2 ^ 64 * h.hi) a ≡ fetched (λ h. h.lo + 2 ^ 64 * h.hi) b → a ≡ b
fetched128_coincide a b ka kb e =
    fetched_coincide (λ h. h.lo + 2 ^ 64 * h.hi) a b (λ g h p q one. halves_coincide g h (ka g p) (kb h q) one) e

-- of two stores: the answer, and the memory that is left
pub puts_coincide : (a b : Result (Unit {0}) Shortfall) (m n : List ℕ) → put_answer a m ≡ put_answer b n → (a ≡ b) × (m ≡ n)
puts_coincide (Ok x) (Ok y) m n e = (refl, cc)
puts_coincide (Ok x) (Err t) m n e = let z : ◌≡◌ {A = ℕ} 0 1 = cc in absurd (omega arith)
puts_coincide (Err s) (Ok y) m n e = let z : ◌≡◌ {A = ℕ} 0 1 = cc in absurd (omega arith)
puts_coincide (Err s) (Err t) m n e = (ap Err (shortfalls_coincide s t cc), cc)

-- an operation's refusal is no shortfall
refused_or_past : {A X : Type 0} {n k s : ℕ} → ◌≡◌ {A = Accessed A} (answered (refused n)) (past k s) → X
refused_or_past e = let z : ◌≡◌ {A = ℕ} 0 1 = cc in absurd (omega arith)

same_refused : {A : Type 0} {n k : ℕ} → ◌≡◌ {A = Accessed A} (answered (refused n)) (answered (refused k)) → n ≡ k
same_refused e = cc

-- of two refusals of an access
pub errors_coincide : {A : Type 0} (a b : AccessError) → ◌≡◌ {A = Accessed A} (refused_access a) (refused_access b) → a ≡ b
errors_coincide (AccessError.Refused r) (AccessError.Refused q) e = ap AccessError.Refused (same_number r q (same_refused e))
errors_coincide (AccessError.Refused r) (AccessError.Past t) e = refused_or_past e
errors_coincide (AccessError.Past s) (AccessError.Refused q) e = refused_or_past (sym e)
errors_coincide (AccessError.Past s) (AccessError.Past t) e = ap AccessError.Past (shortfalls_coincide s t (same_shortfall e))

-- a store has written, or it is refused, with a shortfall or without
kept_or_written : {X : Type 0} {n : ℕ} {l m : List ℕ} → written l ≡ kept n m → X
kept_or_written e = let z : ◌≡◌ {A = ℕ} 0 1 = cc in absurd (omega arith)

past_or_written : {X : Type 0} {n s : ℕ} {l m : List ℕ} → written l ≡ kept_past n s m → X
past_or_written e = let z : ◌≡◌ {A = ℕ} 0 1 = cc in absurd (omega arith)

past_or_kept : {X : Type 0} {n k s : ℕ} {l m : List ℕ} → kept k l ≡ kept_past n s m → X
past_or_kept e = let z : ◌≡◌ {A = ℕ} 0 1 = cc in absurd (omega arith)

both_kept : {n k : ℕ} {l m : List ℕ} → kept n l ≡ kept k m → (n ≡ k) × (l ≡ m)
both_kept e = (cc, cc)

both_past : {n k s t : ℕ} {l m : List ℕ} → kept_past n s l ≡ kept_past k t m → (s ≡ t) × (l ≡ m)
both_past e = (cc, cc)

-- of two stores under the Rust's names: the answer, and the memory that is left
pub store_answers_coincide : (a b : Result (Unit {0}) AccessError) (l m : List ℕ) → store_answer a l ≡ store_answer b m → (a ≡ b) × (l ≡ m)
store_answers_coincide (Ok x) (Ok y) l m e = (refl, cc)
store_answers_coincide (Ok x) (Err (AccessError.Refused q)) l m e = kept_or_written e
store_answers_coincide (Ok x) (Err (AccessError.Past t)) l m e = past_or_written e
store_answers_coincide (Err (AccessError.Refused r)) (Ok y) l m e = kept_or_written (sym e)
store_answers_coincide (Err (AccessError.Refused r)) (Err (AccessError.Refused q)) l m e =
    let h = both_kept e in (ap (λ (k : AccessError). Err k) (ap AccessError.Refused (same_number r q h.0)), h.1)
store_answers_coincide (Err (AccessError.Refused r)) (Err (AccessError.Past t)) l m e = past_or_kept e
store_answers_coincide (Err (AccessError.Past s)) (Ok y) l m e = past_or_written (sym e)
store_answers_coincide (Err (AccessError.Past s)) (Err (AccessError.Refused q)) l m e = past_or_kept (sym e)
store_answers_coincide (Err (AccessError.Past s)) (Err (AccessError.Past t)) l m e =
    let h = both_past e in (ap (λ (k : AccessError). Err k) (ap AccessError.Past (shortfalls_coincide s t h.0)), h.1)
