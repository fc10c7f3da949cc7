-- Any two results that a promise allows coincide. A promise gives the number of the vector, or an answer's refusal or bits; halves are below 2^64 and
-- a signed number is within its width, as of every value of the code.
-- Assumes nothing.
use mathlib.Core.Path.{◌≡◌, sym, ap, ◌∙◌}
use Prim.Native.Nat.{ℕ, ◌/◌, ◌%◌, ◌^◌, ◌<◌}
use native.Mathlib.Omega.{arith}
use lib.IntN.{ℤ}
use Rattle.std.specs.Prelude.{Result, Ok, Err}
use mir.Syntax.{Width, w32, w64}
use mir.Val.{SFits, bits, to_z}
use mir.Facts.{to_z-of_z}
use Rattle.standard.specs.Integer.{modulo}
use Rattle.standard.specs.Refusal.{Answer, given, refused}
use Rattle.standard.proofs.Digits.{low_digit, rest_digits}
use Rattle.lane_integer.proofs.Signed.{modulo_is}
use Rattle.standard_refusal.specs.declared.Refusal.{Refusal}
use Rattle.simd.specs.declared.V128.{V128}
use Rattle.standard_refusal.specs.Number.{number_of}
use Rattle.standard_refusal.proofs.Numbers.{same_number}
use Rattle.simd.specs.Number.{number}
use Rattle.simd.specs.Answers.{vector_answer, i32_answer, u32_answer, i64_answer}

-- a vector's halves are below 2^64
pub record Held (v : V128) : Type 0 where
  pub low : v.lo < 2 ^ 64
  pub high : v.hi < 2 ^ 64

pub vectors_coincide : (a b : V128) → Held a → Held b → number a ≡ number b → a ≡ b
vectors_coincide a b ha hb e = λ i. record { lo = same_low i; hi = same_high i }
  where
    same_low : a.lo ≡ b.lo
    same_low = sym (low_digit 64 a.lo a.hi ha.low) ∙ ap (λ (n : ℕ). n % 2 ^ 64) e ∙ low_digit 64 b.lo b.hi hb.low

    same_high : a.hi ≡ b.hi
    same_high = sym (rest_digits 64 a.lo a.hi ha.low) ∙ ap (λ (n : ℕ). n / 2 ^ 64) e ∙ rest_digits 64 b.lo b.hi hb.low

-- a signed number is determined by its bits
pub signed_coincide : (w : Width) (y z : ℤ) → SFits w y → SFits w z → modulo (bits w) y ≡ modulo (bits w) z → y ≡ z
signed_coincide w y z f g e = sym (to_z-of_z f) ∙ ap (to_z w) (sym (modulo_is w y f) ∙ e ∙ modulo_is w z g) ∙ to_z-of_z g

-- an answer is a refusal or a value, and never both
same_value : {a b : ℕ} → ◌≡◌ {A = Answer ℕ} (given a) (given b) → a ≡ b
same_value e = cc

same_refusal : (m n : Refusal) → ◌≡◌ {A = Answer ℕ} (refused (number_of m)) (refused (number_of n)) → m ≡ n
same_refusal m n e = let same : number_of m ≡ number_of n = cc in same_number m n same

never : {X : Type 0} {a n : ℕ} → given a ≡ refused n → X
never e = let z : ◌≡◌ {A = ℕ} 0 1 = cc in absurd (omega arith)

abbrev pub HeldVector : Result V128 Refusal → Type 0
HeldVector (Ok v) = Held v
HeldVector (Err n) = Unit {0}

pub vector_answers_coincide : (a b : Result V128 Refusal) → HeldVector a → HeldVector b → vector_answer a ≡ vector_answer b → a ≡ b
vector_answers_coincide (Ok a) (Ok b) ha hb e = ap Ok (vectors_coincide a b ha hb (same_value e))
vector_answers_coincide (Ok a) (Err n) ha hb e = never e
vector_answers_coincide (Err m) (Ok b) ha hb e = never (sym e)
vector_answers_coincide (Err m) (Err n) ha hb e = ap Err (same_refusal m n e)

abbrev pub HeldI32 : Result ℤ Refusal → Type 0
HeldI32 (Ok z) = SFits w32 z
HeldI32 (Err n) = Unit {0}

pub i32_answers_coincide : (a b : Result ℤ Refusal) → HeldI32 a → HeldI32 b → i32_answer a ≡ i32_answer b → a ≡ b
i32_answers_coincide (Ok y) (Ok z) f g e = ap Ok (signed_coincide w32 y z f g (same_value e))
i32_answers_coincide (Ok y) (Err n) f g e = never e
i32_answers_coincide (Err m) (Ok z) f g e = never (sym e)
i32_answers_coincide (Err m) (Err n) f g e = ap Err (same_refusal m n e)

abbrev pub HeldI64 : Result ℤ Refusal → Type 0
HeldI64 (Ok z) = SFits w64 z
HeldI64 (Err n) = Unit {0}

pub i64_answers_coincide : (a b : Result ℤ Refusal) → HeldI64 a → HeldI64 b → i64_answer a ≡ i64_answer b → a ≡ b
i64_answers_coincide (Ok y) (Ok z) f g e = ap Ok (signed_coincide w64 y z f g (same_value e))
i64_answers_coincide (Ok y) (Err n) f g e = never e
i64_answers_coincide (Err m) (Ok z) f g e = never (sym e)
i64_answers_coincide (Err m) (Err n) f g e = ap Err (same_refusal m n e)

pub u32_answers_coincide : (a b : Result ℕ Refusal) → u32_answer a ≡ u32_answer b → a ≡ b
u32_answers_coincide (Ok i) (Ok j) e = ap Ok (same_value e)
u32_answers_coincide (Ok i) (Err n) e = never e
u32_answers_coincide (Err m) (Ok j) e = never (sym e)
u32_answers_coincide (Err m) (Err n) e = ap Err (same_refusal m n e)
