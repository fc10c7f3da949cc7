-- A half of one lane is that lane; zero less a half; and a test as a number. Assumes nothing.
use mathlib.Core.Path.{◌≡◌, refl, ap, ◌∙◌, sym, subst}
use mathlib.Core.Bool.{Bool, true, false, not, cond}
use mathlib.Core.List.{map}
use Prim.Native.Nat.{ℕ, zero, suc, ◌+◌, ◌/◌, ◌%◌, ◌^◌, ◌<◌, ◌*◌}
use native.Mathlib.Nat.{add-zero, zero-add, mul-zero, mod-eq_of_lt, zero-mod, zero-div}
use Rattle.standard.specs.Lanes.{digits, joined}
use Rattle.standard.specs.Integer.{isub, ineg}
use Rattle.packed_half.proofs.Packed.{lanewise}

pub one_lane : (u w : ℕ) (f : ℕ → ℕ) (a : ℕ) → a < 2 ^ w → joined u (map f (digits w 1 a)) ≡ f a
one_lane u w f a ha = ap (λ (j : ℕ). f (a % 2 ^ w) + j) (mul-zero (2 ^ u)) ∙ add-zero (f (a % 2 ^ w)) ∙ ap f (mod-eq_of_lt ha)

pub one_pair : (w : ℕ) (f : ℕ → ℕ → ℕ) (a b : ℕ) → a < 2 ^ w → b < 2 ^ w → lanewise w 1 f a b ≡ f a b
one_pair w f a b ha hb = one_lane w w (λ p. f p (b % 2 ^ w)) a ha ∙ ap (f a) (mod-eq_of_lt hb)

pub negated : (w n a : ℕ) → lanewise w n (isub w) 0 a ≡ joined w (map (ineg w) (digits w n a))
negated w zero a = refl
negated w (suc n) a = rw (zero-mod, zero-div, zero-add, negated w n (a / 2 ^ w))

pub not_test : (t : Bool) → cond (not t) 1 0 ≡ cond {A = ℕ} t 0 1
not_test true = refl
not_test false = refl

-- a half, as the bits of all its lanes
pub within : (v : ℕ) {a : ℕ} → (1 + v) * (64 / (1 + v)) ≡ 64 → a < 2 ^ 64 → a < 2 ^ ((1 + v) * (64 / (1 + v)))
within v {a} e h = subst (λ (m : ℕ). a < 2 ^ m) (sym e) h

pub without : (v : ℕ) {a : ℕ} → (1 + v) * (64 / (1 + v)) ≡ 64 → a < 2 ^ ((1 + v) * (64 / (1 + v))) → a < 2 ^ 64
without v {a} e h = subst (λ (m : ℕ). a < 2 ^ m) e h
