-- Fractions and whole numbers: `closest n u` is the whole number nearest to n / u, and of two that are as near the even one; and kept to p digits it is
-- nearest among the numbers of p digits with zeros behind them. Nothing here is about floats. Assumes nothing.
use mathlib.Core.Path.{◌≡◌, refl, sym, ap, ◌∙◌, subst}
use mathlib.Core.Bool.{Bool, true, false, not}
use mathlib.Core.Logic.{inl, inr}
use Prim.Native.Nat.{ℕ, zero, suc, ◌+◌, ◌-◌, ◌*◌, ◌/◌, ◌%◌, ◌^◌, ◌≤◌, ◌<◌, compare, Ordering}
use native.Mathlib.Nat.{mul_comm, mul_assoc, mul_right_comm, mul-le-mul_right, mul-lt-mul_of_pos_right, mul-pos, div-add-mod', mod-lt, le-div_iff_mul-le}
use native.Mathlib.Nat.{lt_of_lt_of_le, le_trans, le_of_eq}
use native.Mathlib.Omega.{arith}
use borrow.Author.Tests.{leb-true, leb-false}
use lib.Dec.{T, is_le, compare_is_eq, leb, eqb, leb→le, nleb→lt, eqb→eq, eqb_refl}
use lib.Arith.{lt_of_le-ne}
use lib.Pow.{pow-add, pow_pos, pow_mono, shl_lt}
use lib.Ieee.{size, nearest}
use lib.Ieee.Digits.{size_reaches}
use lib.Ieee.Nearest.{closest}
use lib.Ieee.Order.{drop, kept}

-- how far apart two numbers are
abbrev pub apart : ℕ → ℕ → ℕ
apart a b = (a - b) + (b - a)

-- ---- what `compare` says

abbrev Cmp : Ordering → ℕ → ℕ → Type 0
Cmp Ordering.lt a b = a < b
Cmp Ordering.eq a b = a ≡ b
Cmp Ordering.gt a b = b < a

cmp : (a b : ℕ) → Cmp (compare a b) a b
cmp a b = go (compare a b) (leb→le a b) (nleb→lt a b) (eqb→eq a b) (λ (e : a ≡ b). subst (λ (x : ℕ). T (eqb a x)) e (eqb_refl a))
  where
    go : (o : Ordering) → (T (is_le o) → a ≤ b) → (T (not (is_le o)) → b < a) → (T (compare_is_eq o) → a ≡ b) → (a ≡ b → T (compare_is_eq o)) → Cmp o a b
    go Ordering.lt h k e n = lt_of_le-ne (h tt) n
    go Ordering.eq h k e n = e tt
    go Ordering.gt h k e n = k tt

-- ---- the nearest whole number, with q u for the fraction's unit

pub record Nearer (n u q t : ℕ) : Type 0 where
  pub near : apart (q * u) n ≤ apart (t * u) n
  pub tie : (t ≡ q → ⊥) → apart (q * u) n ≡ apart (t * u) n → q % 2 ≡ 0

one_more : (q u : ℕ) → suc q * u ≡ q * u + u
one_more q u = omega arith

-- n is q u and a rest r; t is at most q, or above it
module _ (n u q r t : ℕ) (whole : q * u + r ≡ n) (rest : r < u) where
  below : t ≤ q → t * u ≤ q * u
  below h = mul-le-mul_right u h

  far_below : t < q → t * u + u ≤ q * u
  far_below h = le_trans (le_of_eq (sym (one_more t u))) (mul-le-mul_right u h)

  above : q < t → q * u + u ≤ t * u
  above h = le_trans (le_of_eq (sym (one_more q u))) (mul-le-mul_right u h)

  far_above : suc q < t → q * u + u + u ≤ t * u
  far_above h = le_trans (le_of_eq (sym (one_more (suc q) u ∙ ap (λ (x : ℕ). x + u) (one_more q u)))) (mul-le-mul_right u h)

  less : r * 2 < u → Nearer n u q t
  less h = by (leb t q) refl
    where
      by : (b : Bool) → leb t q ≡ b → Nearer n u q t
      by true e =
          let l = below (leb-true t q e) in
          record { near = omega arith; tie = λ ne same. absurd (let f = far_below (lt_of_le-ne (leb-true t q e) ne) in omega arith) }
      by false e =
          let l = above (leb-false t q e) in
          record { near = omega arith; tie = λ ne same. absurd (omega arith) }

  more : u < r * 2 → Nearer n u (suc q) t
  more h = by (leb t q) refl
    where
      s : suc q * u ≡ q * u + u
      s = one_more q u

      by : (b : Bool) → leb t q ≡ b → Nearer n u (suc q) t
      by true e =
          let l = below (leb-true t q e) in
          record { near = omega (arith, s); tie = λ ne same. absurd (omega (arith, s)) }
      by false e =
          let g = leb-false t q e in
          let l = above g in
          record { near = omega (arith, s); tie = λ ne same. absurd (let f = far_above (lt_of_le-ne g (λ z. ne (sym z))) in omega (arith, s)) }

  half : r * 2 ≡ u → (c : ℕ) → c < 2 → (q + c) % 2 ≡ 0 → Nearer n u (q + c) t
  half h zero l even = record {
    near = subst (λ (x : ℕ). apart (x * u) n ≤ apart (t * u) n) (let z : q ≡ q + 0 = omega arith in z)
        (by (leb t q) refl);
    tie = λ ne same. even;
  }
    where
      by : (b : Bool) → leb t q ≡ b → apart (q * u) n ≤ apart (t * u) n
      by true e = let l = below (leb-true t q e) in omega arith
      by false e = let l = above (leb-false t q e) in omega arith
  half h (suc zero) l even = record {
    near = subst (λ (x : ℕ). apart (x * u) n ≤ apart (t * u) n) (let z : suc q ≡ q + 1 = omega arith in z)
        (by (leb t q) refl);
    tie = λ ne same. even;
  }
    where
      by : (b : Bool) → leb t q ≡ b → apart (suc q * u) n ≤ apart (t * u) n
      by true e = let l = below (leb-true t q e) in omega (arith, one_more q u)
      by false e = let l = above (leb-false t q e) in omega (arith, one_more q u)
  half h (suc (suc c)) l even = absurd (omega arith)

  chosen : (o : Ordering) → Cmp o (r * 2) u → Nearer n u (nearest q o) t
  chosen Ordering.lt h = less h
  chosen Ordering.eq h = half h (q % 2) (omega arith) (omega arith)
  chosen Ordering.gt h = more h

pub closest_near : (n u t : ℕ) → 0 < u → Nearer n u (closest n u) t
closest_near n u t U = chosen n u (n / u) (n % u) t (div-add-mod' n u) (mod-lt n U) (compare (n % u * 2) u) (cmp (n % u * 2) u)

-- ---- p digits and zeros behind them

pub record Digits (p v : ℕ) : Type 0 where
  pub q : ℕ
  pub j : ℕ
  pub few : q < 2 ^ p
  pub is : v ≡ q * 2 ^ j

-- n / den, of whose whole part p digits are kept
abbrev pub rounded : ℕ → ℕ → ℕ → ℕ
rounded p n den = kept p n den * 2 ^ drop p n den

pub record Near (p n den v : ℕ) : Type 0 where
  pub near : apart (rounded p n den * den) n ≤ apart (v * den) n
  pub tie : (v ≡ rounded p n den → ⊥) → apart (rounded p n den * den) n ≡ apart (v * den) n → kept p n den % 2 ≡ 0

farther_off : (x l v n : ℕ) → x ≤ apart l n → l ≤ n → v < l → x < apart v n
farther_off x l v n h k less = omega arith

not_same : (x y : ℕ) → x < y → x ≡ y → ⊥
not_same x y h e = omega arith

at_most : (x y : ℕ) → x < y → x ≤ y
at_most x y h = omega arith

module _ (p n den : ℕ) (P : 0 < p) (D : 0 < den) where
  -- among the multiples of the last digit kept
  multiple : (t v : ℕ) → v ≡ t * 2 ^ drop p n den → Near p n den v
  multiple t v e =
      let k = drop p n den in
      let u = den * 2 ^ k in
      let regroup : (a : ℕ) → a * u ≡ a * 2 ^ k * den = λ a. ap (λ (x : ℕ). a * x) (mul_comm den (2 ^ k)) ∙ sym (mul_assoc a (2 ^ k) den) in
      let here : v * den ≡ t * u = ap (λ (x : ℕ). x * den) e ∙ sym (regroup t) in
      let c = closest_near n u t (mul-pos D (pow_pos k)) in
      record {
        near = rw (here, ← regroup (kept p n den)) c.near;
        tie = λ ne same. c.tie (λ z. ne (e ∙ ap (λ (x : ℕ). x * 2 ^ k) z))
            (ap (λ (x : ℕ). apart x n) (regroup (kept p n den)) ∙ same ∙ ap (λ (x : ℕ). apart x n) here);
      }

  -- a number with a smaller last digit is below the least that keeps all of its digits, which is a multiple
  smaller : (v : ℕ) (d : Digits p v) → d.j < drop p n den → Near p n den v
  smaller v d h =
      let k = drop p n den in
      let least = 2 ^ (p - 1) * 2 ^ k in
      let one_power : least ≡ 2 ^ (p - 1 + k) = sym (pow-add 2 (p - 1) k) in
      let reached : 2 ^ (p - 1 + k) ≤ n / den = size_reaches (n / den) (p - 1 + k) (omega arith) in
      let inside : least * den ≤ n = (le-div_iff_mul-le D).0 (le_trans (le_of_eq one_power) reached) in
      let under : v < 2 ^ (p + d.j) = subst (λ (x : ℕ). x < 2 ^ (p + d.j)) (sym d.is) (shl_lt p d.j d.few) in
      let powers : 2 ^ (p + d.j) ≤ 2 ^ (p - 1 + k) = pow_mono (omega arith) in
      let less : v < least = lt_of_lt_of_le under (le_trans powers (le_of_eq (sym one_power))) in
      let farther : v * den < least * den = mul-lt-mul_of_pos_right less D in
      let off = farther_off (apart (rounded p n den * den) n) (least * den) (v * den) n (multiple (2 ^ (p - 1)) least refl).near inside farther in
      record { near = at_most _ _ off; tie = λ ne same. absurd (not_same _ _ off same) }

  pub kept_near : (v : ℕ) → Digits p v → Near p n den v
  kept_near v d = by (leb (drop p n den) d.j) refl
    where
      by : (b : Bool) → leb (drop p n den) d.j ≡ b → Near p n den v
      by false e = smaller v d (leb-false (drop p n den) d.j e)
      by true e =
          let k = drop p n den in
          let l = leb-true k d.j e in
          multiple (d.q * 2 ^ (d.j - k)) v
          (d.is ∙ ap (λ (x : ℕ). d.q * x) (ap (λ (x : ℕ). 2 ^ x) (let z : d.j ≡ d.j - k + k = omega arith in z) ∙ pow-add 2 (d.j - k) k)
          ∙ sym (mul_assoc d.q (2 ^ (d.j - k)) (2 ^ k)))
