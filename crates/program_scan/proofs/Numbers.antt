-- How many decimal digits a number has. Assumes nothing.
use Prim.Native.Nat.{ℕ, zero, suc, ◌+◌, ◌*◌, ◌-◌, ◌/◌, ◌%◌, ◌^◌, ◌<◌, ◌≤◌}
use mathlib.Core.Path.{◌≡◌, refl, sym, ap, ◌∙◌}
use mathlib.Core.Bool.{Bool, true, false}
use mathlib.Core.List.{[], ◌∷◌, ◌++◌}
use native.Mathlib.Numerals.{add-one}
use native.Mathlib.Omega.{arith}
use borrow.Author.Tests.{ltb-true, ltb-false, lt-ltb}
use lib.Dec.{ltb}
use lib.ListN.{length}
use lib.Pow.{pow-add}
use Rattle.program_digits.specs.Digits.{glyph, digits, places, decimal}
use Rattle.program_digits.proofs.Laws.{places_more, places_one, length_digits, decimal_length}
use Rattle.program_scan.specs.Pen.{Digits}

pub ten : (n : ℕ) → 10 ^ suc n ≡ 10 ^ n * 10
ten n = ap (λ (k : ℕ). 10 ^ k) (sym (add-one n)) ∙ pow-add 10 n 1

pub positive : (n : ℕ) → 1 ≤ 10 ^ n
positive zero = omega arith
positive (suc n) = rw (ten n) (omega (arith, positive n))

-- a digit below ten
pub glyph_is : (d : ℕ) → d < 10 → glyph d ≡ 48 + d
glyph_is d h = rw (lt-ltb d 10 h)

-- so many digits are counted
counted : (k n N : ℕ) → 1 ≤ n → n ≤ suc k → N < 10 ^ n → (1 < n → 10 ^ (n - 1) ≤ N) → places k N ≡ n
unfolding places
counted k zero N a b lt ge = absurd (omega arith)
counted zero (suc zero) N a b lt ge = refl
counted zero (suc (suc n)) N a b lt ge = absurd (omega arith)
counted (suc k) (suc zero) N a b lt ge = places_one (suc k) N lt
counted (suc k) (suc (suc n)) N a b lt ge =
    let less : suc (suc n) - 1 ≡ suc n = omega arith in
    let front : 10 ^ suc n ≤ N = rw less at (ge (omega arith)) in
    let some = positive n in
    let more : 9 < N = omega (arith, rw (ten n) at front) in
    places_more k N more
    ∙ ap suc (counted k (suc n) (N / 10) (omega arith) (omega arith) (omega (arith, rw (ten (suc n)) at lt))
    (λ h. let fewer : suc n - 1 ≡ n = omega arith in rw fewer (omega (arith, rw (ten n) at front))))

-- and no more
record Counted (n N : ℕ) : Type 0 where
  some : 1 ≤ n
  below : N < 10 ^ n
  above : 1 < n → 10 ^ (n - 1) ≤ N

tenth : (n N : ℕ) → 9 < N → Counted n (N / 10) → Counted (suc n) N
tenth zero N h c = absurd (omega (arith, c.some))
tenth (suc zero) N h c = record { some = omega arith; below = rw (ten 1) (omega (arith, c.below)); above = λ a. omega arith }
tenth (suc (suc n)) N h c =
    let less : suc (suc n) - 1 ≡ suc n = omega arith in
    let front : 10 ^ suc n ≤ N / 10 = rw less at (c.above (omega arith)) in
    record {
      some = omega arith;
      below = rw (ten (suc (suc n))) (omega (arith, c.below));
      above = λ a. let more : suc (suc (suc n)) - 1
          ≡ suc (suc n) = omega arith in rw (more, ten (suc n)) (omega arith);
    }

counts : (k N : ℕ) → N < 10 ^ suc k → Counted (places k N) N
unfolding places
counts zero N h = record { some = omega arith; below = h; above = λ a. absurd (omega arith) }
counts (suc k) N h = by (ltb N 10) refl (λ e. counts k (N / 10) (omega (arith, rw (ten (suc k)) at h)))
  where
    by : (b : Bool) → ltb N 10 ≡ b → (ltb N 10 ≡ false → Counted (places k (N / 10)) (N / 10)) → Counted (places (suc k) N) N
    by true e rest =
        let small = ltb-true N 10 e in
        rw (places_one (suc k) N small) (record { some = omega arith; below = small; above = λ a. absurd (omega arith) })
    by false e rest =
        let more = ltb-false N 10 e in
        rw (places_more k N (omega arith)) (tenth (places k (N / 10)) N (omega arith) (rest e))

pub decimal_is : (n N : ℕ) → Digits n N → decimal N ≡ digits 10 n N
unfolding decimal
decimal_is n N c = ap (λ (k : ℕ). digits 10 k N) (counted 19 n N c.some c.few c.below c.above)

pub decimal_count : (N : ℕ) → N < 10 ^ 20 → Digits (length (decimal N)) N
unfolding decimal
decimal_count N h =
    let c = counts 19 N h in
    let size = length_digits 10 (places 19 N) N in
    let few = decimal_length N in
    rw size (record { some = c.some; few = rw size at few; below = c.below; above = c.above })

-- all but the last digit, and it
pub front_and_last : (n N : ℕ) → 1 ≤ n → digits 10 n N ≡ digits 10 (n - 1) (N / 10) ++ ((48 + N % 10) ∷ [])
unfolding digits
front_and_last zero N h = absurd (omega arith)
front_and_last (suc n) N h =
    let less : suc n - 1 ≡ n = omega arith in
    rw (less, glyph_is (N % 10) (omega arith))

-- a number of one digit
pub one_digit : (d : ℕ) → d < 10 → decimal d ≡ (48 + d) ∷ []
unfolding digits
one_digit d h =
    let low : d % 10 ≡ d = omega arith in
    decimal_is 1 d (record { some = omega arith; few = omega arith; below = h; above = λ a. absurd (omega arith) })
    ∙ rw (low, glyph_is d h)
