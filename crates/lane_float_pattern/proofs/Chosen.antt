-- The whole number beside a fraction n / c: to even, away from zero or toward it. Each is the cut quotient of n and an addend. Assumes nothing.
use mathlib.Core.Path.{◌≡◌, refl, sym, ap, ◌∙◌, subst}
use mathlib.Core.Bool.{Bool, true, false, not, cond, ◌&&◌}
use Prim.Native.Nat.{ℕ, zero, suc, ◌+◌, ◌-◌, ◌*◌, ◌/◌, ◌%◌, ◌^◌, ◌≤◌, ◌<◌, zero-le, compare, Ordering}
use native.Mathlib.Nat.{le_refl, le-suc, le_of_eq, lt_of_le_of_lt, lt_irrefl, zero-lt-suc, add-zero, add_assoc, one-mul, mul_comm, mul_right_comm, mul-mod_left}
use native.Mathlib.Nat.{mod-lt, mod-eq_of_lt, mod-one, div-one, div-eq_of_lt, div-eq_of_lt-le, div-add-mod', mul-add-div_right, mul-div_cancel}
use native.Mathlib.Nat.{eq_of_mul-eq-mul_right, pow-succ'}
use native.Mathlib.Omega.{arith}
use lib.Dec.{T, is_le, compare_is_eq, ltb, eqb, lt→ltb, ltb→lt, nltb→le, leb→le, nleb→lt, eqb→eq, eqb_refl, lit<}
use lib.Arith.{lt_of_le-ne, le→nltb}
use lib.Pow.{pow_pos, shl_exact}
use lib.Ieee.{nearest}
use lib.Ieee.Fits.{nearest-le, eq→eqb}
use lib.Ieee.Bits.{is_true, is_false}
use lib.Ieee.Nearest.{closest, closest_same, div_same, nearest-ge}
use Rattle.standard.specs.Convert.{ceiling}
use Rattle.lane_float_pattern.specs.Integral.{chosen, lift}

-- two tests that imply each other
pub same_test : (a b : Bool) → (T a → T b) → (T b → T a) → a ≡ b
same_test true true p q = refl
same_test true false p q = absurd (p tt)
same_test false true p q = absurd (q tt)
same_test false false p q = refl

-- ---- what a comparison says

abbrev pub Compared : Ordering → ℕ → ℕ → Type 0
Compared Ordering.lt a b = a < b
Compared Ordering.eq a b = a ≡ b
Compared Ordering.gt a b = b < a

pub compared : (a b : ℕ) → Compared (compare a b) a b
compared a b = go (compare a b) (leb→le a b) (nleb→lt a b) (eqb→eq a b) (λ (e : a ≡ b). subst (λ (x : ℕ). T (eqb a x)) e (eqb_refl a))
  where
    go : (o : Ordering) → (T (is_le o) → a ≤ b) → (T (not (is_le o)) → b < a) → (T (compare_is_eq o) → a ≡ b) → (a ≡ b → T (compare_is_eq o)) → Compared o a b
    go Ordering.lt h k e n = lt_of_le-ne (h tt) n
    go Ordering.eq h k e n = e tt
    go Ordering.gt h k e n = k tt

-- ---- n with an addend y, cut: the quotient q of n, or the next
module _ (n c y : ℕ) (C : 0 < c) where
  joined : (n + y) / c ≡ n / c + (n % c + y) / c
  joined = ap (λ (x : ℕ). (x + y) / c) (sym (div-add-mod' n c)) ∙ ap (λ (x : ℕ). x / c) (add_assoc (n / c * c) (n % c) y)
      ∙ mul-add-div_right C (n / c) (n % c + y)

  pub stays : n % c + y < c → n / c ≡ (n + y) / c
  stays h = sym (joined ∙ ap (λ (x : ℕ). n / c + x) (div-eq_of_lt h) ∙ add-zero (n / c))

  pub moves : c ≤ n % c + y → n % c + y < c + c → suc (n / c) ≡ (n + y) / c
  moves h k = sym (joined ∙ ap (λ (x : ℕ). n / c + x) (div-eq_of_lt-le c (once h) (twice k)) ∙ next (n / c))
    where
      once : c ≤ n % c + y → 1 * c ≤ n % c + y
      once h = omega arith

      twice : n % c + y < c + c → n % c + y < (1 + 1) * c
      twice k = omega arith

      next : (q : ℕ) → q + 1 ≡ suc q
      next q = omega arith

-- to even: a half less one, and one more where the quotient is odd
closest_lifted : (n c h : ℕ) → 0 < h → c ≡ 2 * h → closest n c ≡ (n + (h - 1 + n / c % 2)) / c
closest_lifted n c h H e = go (compare (n % c * 2) c) (compared (n % c * 2) c)
  where
    C : 0 < c
    C = omega arith

    under : (r p : ℕ) → r * 2 < c → p < 2 → r + (h - 1 + p) < c
    under r p l k = omega arith

    over : (r p : ℕ) → c < r * 2 → r < c → p < 2 → (c ≤ r + (h - 1 + p)) × (r + (h - 1 + p) < c + c)
    over r p l k m = (omega arith, omega arith)

    tie_even : (r p : ℕ) → r * 2 ≡ c → p ≡ 0 → r + (h - 1 + p) < c
    tie_even r p l k = omega arith

    tie_odd : (r p : ℕ) → r * 2 ≡ c → p ≡ 1 → (c ≤ r + (h - 1 + p)) × (r + (h - 1 + p) < c + c)
    tie_odd r p l k = (omega arith, omega arith)

    r_lt : n % c < c
    r_lt = mod-lt n C

    p_lt : n / c % 2 < 2
    p_lt = mod-lt (n / c) (zero-lt-suc 1)

    next : (q p : ℕ) → p ≡ 1 → q + p ≡ suc q
    next q p e = omega arith

    tie : n % c * 2 ≡ c → (p : ℕ) → p < 2 → n / c % 2 ≡ p → n / c + n / c % 2 ≡ (n + (h - 1 + n / c % 2)) / c
    tie l zero k z = ap (λ (x : ℕ). n / c + x) z ∙ add-zero (n / c) ∙ stays n c (h - 1 + n / c % 2) C (tie_even (n % c) (n / c % 2) l z)
    tie l (suc zero) k z = let b = tie_odd (n % c) (n / c % 2) l z in next (n / c) (n / c % 2) z ∙ moves n c (h - 1 + n / c % 2) C b.0 b.1
    tie l (suc (suc p)) k z = absurd (no k)
      where
        no : suc (suc p) < 2 → ⊥
        no k = omega arith

    go : (o : Ordering) → Compared o (n % c * 2) c → nearest (n / c) o ≡ (n + (h - 1 + n / c % 2)) / c
    go Ordering.lt l = stays n c (h - 1 + n / c % 2) C (under (n % c) (n / c % 2) l p_lt)
    go Ordering.eq l = tie l (n / c % 2) p_lt refl
    go Ordering.gt l = let b = over (n % c) (n / c % 2) l r_lt p_lt in moves n c (h - 1 + n / c % 2) C b.0 b.1

pub lifted : (even away : Bool) (n j : ℕ) → 0 < j → chosen even away n (2 ^ j) ≡ (n + lift even away (n / 2 ^ j) (2 ^ j)) / 2 ^ j
lifted true away n (suc j) J =
    closest_lifted n (2 ^ suc j) (2 ^ suc j / 2) (subst (λ (x : ℕ). 0 < x) (sym half) (pow_pos j)) (pow_suc' ∙ ap (λ (x : ℕ). 2 * x) (sym half))
  where
    pow_suc' : 2 ^ suc j ≡ 2 * 2 ^ j
    pow_suc' = pow-succ' 2 j

    half : 2 ^ suc j / 2 ≡ 2 ^ j
    half = ap (λ (x : ℕ). x / 2) (pow_suc' ∙ mul_comm 2 (2 ^ j)) ∙ mul-div_cancel (2 ^ j) (zero-lt-suc 1)
lifted true away n zero J = absurd (lt_irrefl 0 J)
lifted false true n j J = refl
lifted false false n j J = ap (λ (x : ℕ). x / 2 ^ j) (sym (add-zero n))

-- ---- the quotient rounded up

ceiling_is : (n c : ℕ) → 0 < c → ceiling n c ≡ cond (eqb (n % c) 0) (n / c) (suc (n / c))
ceiling_is n c C = go (eqb (n % c) 0) (eqb→eq (n % c) 0) (λ (e : n % c ≡ 0). eq→eqb e)
  where
    whole : n % c ≡ 0 → n % c + (c - 1) < c
    whole e = omega arith

    some : (r : ℕ) → (r ≡ 0 → ⊥) → r < c → (c ≤ r + (c - 1)) × (r + (c - 1) < c + c)
    some r n l = (omega arith, omega arith)

    go : (t : Bool) → (T t → n % c ≡ 0) → (n % c ≡ 0 → T t) → ceiling n c ≡ cond t (n / c) (suc (n / c))
    go true h k = sym (stays n c (c - 1) C (whole (h tt)))
    go false h k = let b = some (n % c) k (mod-lt n C) in sym (moves n c (c - 1) C b.0 b.1)

-- nothing is left of one fraction where nothing is left of an equal one
left : (a b c d : ℕ) → 0 < b → 0 < d → a * d ≡ c * b → a % b ≡ 0 → c % d ≡ 0
left a b c d B D e z =
    let x : a / b * b * d ≡ a * d = ap (λ (y : ℕ). y * d) (sym (add-zero (a / b * b)) ∙ ap (λ (y : ℕ). a / b * b + y) (sym z) ∙ div-add-mod' a b) in
    let n : c ≡ a / b * d = eq_of_mul-eq-mul_right b B c (a / b * d) (sym e ∙ sym x ∙ mul_right_comm (a / b) b d) in
    ap (λ (y : ℕ). y % d) n ∙ mul-mod_left (a / b) d

ceiling_same : (a b c d : ℕ) → 0 < b → 0 < d → a * d ≡ c * b → ceiling a b ≡ ceiling c d
ceiling_same a b c d B D e =
    ceiling_is a b B
    ∙ ap (λ (q : ℕ). cond (eqb (a % b) 0) q (suc q)) (div_same a b c d B D e)
    ∙ ap (λ (t : Bool). cond t (c / d) (suc (c / d)))
    (same_test (eqb (a % b) 0) (eqb (c % d) 0) (λ t. eq→eqb (left a b c d B D e (eqb→eq (a % b) 0 t)))
    (λ t. eq→eqb (left c d a b D B (sym e) (eqb→eq (c % d) 0 t))))
    ∙ sym (ceiling_is c d D)

-- ---- each of the three sees the value alone, takes the quotient or the next, and stays at a whole number

pub chosen_same : (even away : Bool) (a b c d : ℕ) → 0 < b → 0 < d → a * d ≡ c * b → chosen even away a b ≡ chosen even away c d
chosen_same true away a b c d B D e = closest_same a b c d B D e
chosen_same false true a b c d B D e = ceiling_same a b c d B D e
chosen_same false false a b c d B D e = div_same a b c d B D e

pub chosen_near : (even away : Bool) (n c : ℕ) → 0 < c → (n / c ≤ chosen even away n c) × (chosen even away n c ≤ suc (n / c))
chosen_near true away n c C = (nearest-ge (n / c) (compare (n % c * 2) c), nearest-le (n / c) (compare (n % c * 2) c))
chosen_near false true n c C = subst (λ (x : ℕ). (n / c ≤ x) × (x ≤ suc (n / c))) (sym (ceiling_is n c C)) (go (eqb (n % c) 0))
  where
    go : (t : Bool) → (n / c ≤ cond t (n / c) (suc (n / c))) × (cond t (n / c) (suc (n / c)) ≤ suc (n / c))
    go true = (le_refl (n / c), le-suc (n / c))
    go false = (le-suc (n / c), le_refl (suc (n / c)))
chosen_near false false n c C = (le_refl (n / c), le-suc (n / c))

pub chosen_whole : (even away : Bool) (n : ℕ) → chosen even away n 1 ≡ n
chosen_whole true away n = ap (λ (r : ℕ). nearest (n / 1) (compare (r * 2) 1)) (mod-one n) ∙ div-one n
chosen_whole false true n = div-one (n + 0) ∙ add-zero n
chosen_whole false false n = div-one n

-- below 1: a one exactly where twice n is above c, or where there is something to go away from zero with
pub chosen_below : (even away : Bool) (n c : ℕ) → n < c → chosen even away n c ≡ cond (cond even (ltb c (n * 2)) (away && ltb 0 n)) 1 0
chosen_below true away n c h = ap (λ (q : ℕ). nearest q (compare (n % c * 2) c)) (div-eq_of_lt h)
    ∙ ap (λ (r : ℕ). nearest 0 (compare (r * 2) c)) (mod-eq_of_lt h) ∙ go (compare (n * 2) c) (compared (n * 2) c)
  where
    le : n * 2 < c → n * 2 ≤ c
    le h = omega arith

    go : (o : Ordering) → Compared o (n * 2) c → nearest 0 o ≡ cond (ltb c (n * 2)) 1 0
    go Ordering.lt l = sym (ap (λ (t : Bool). cond t 1 0) (is_false (ltb c (n * 2)) (le→nltb c (n * 2) (le l))))
    go Ordering.eq l = sym (ap (λ (t : Bool). cond t 1 0) (is_false (ltb c (n * 2)) (le→nltb c (n * 2) (le_of_eq l))))
    go Ordering.gt l = sym (ap (λ (t : Bool). cond t 1 0) (is_true (ltb c (n * 2)) (lt→ltb c (n * 2) l)))
chosen_below false true n c h =
    ceiling_is n c (lt_of_le_of_lt zero-le h)
    ∙ ap (λ (q : ℕ). cond (eqb (n % c) 0) q (suc q)) (div-eq_of_lt h)
    ∙ ap (λ (r : ℕ). cond (eqb r 0) 0 1) (mod-eq_of_lt h)
    ∙ go (ltb 0 n) (ltb→lt 0 n) (nltb→le 0 n)
  where
    none : n ≤ 0 → n ≡ 0
    none h = omega arith

    some : (u : Bool) → (T u → n ≡ 0) → 0 < n → u ≡ false
    some true e l = absurd (no (e tt) l)
      where
        no : n ≡ 0 → 0 < n → ⊥
        no e l = omega arith
    some false e l = refl

    go : (t : Bool) → (T t → 0 < n) → (T (not t) → n ≤ 0) → cond (eqb n 0) zero (suc zero) ≡ cond t (suc zero) zero
    go true h k = ap (λ (u : Bool). cond u 0 1) (some (eqb n 0) (eqb→eq n 0) (h tt))
    go false h k = ap (λ (u : Bool). cond u 0 1) (is_true (eqb n 0) (eq→eqb (none (k tt))))
chosen_below false false n c h = div-eq_of_lt h

-- ---- the addend as the machine has it, in w bits
pub one_shifted : (w j : ℕ) → j < w → 1 * 2 ^ j % 2 ^ w ≡ 2 ^ j
one_shifted w j h = shl_exact {a = 1} 1 j w (lit< tt) h' ∙ one-mul (2 ^ j)
  where
    h' : 1 + j ≤ w
    h' = omega arith

pub half_ones : (j : ℕ) → (2 ^ j - 1) / 2 ≡ 2 ^ j / 2 - 1
half_ones zero = refl
half_ones (suc j) = go (2 ^ suc j) (2 ^ j) (pow-succ' 2 j) (pow_pos j)
  where
    go : (c h : ℕ) → c ≡ 2 * h → 0 < h → (c - 1) / 2 ≡ c / 2 - 1
    go c h e H = omega arith

pub within : (even away : Bool) (n j : ℕ) → j < 64 → lift even away (n / 2 ^ (j % 64)) (2 ^ (j % 64)) ≡ lift even away (n / 2 ^ j) (2 ^ j)
within even away n j h = ap (λ (x : ℕ). lift even away (n / 2 ^ x) (2 ^ x)) (mod-eq_of_lt h)

pub lift_le : (even away : Bool) (q j : ℕ) → lift even away q (2 ^ j) ≤ 2 ^ j
lift_le true away q j = go (2 ^ j) q (pow_pos j)
  where
    go : (c q : ℕ) → 0 < c → c / 2 - 1 + q % 2 ≤ c
    go c q h = omega arith
lift_le false true q j = omega arith
lift_le false false q j = zero-le
