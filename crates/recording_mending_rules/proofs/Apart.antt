-- The powers of x stay apart: none of the 4,095 after the first comes back to it, which antt computes in one walk. Assumes nothing.
use mathlib.Core.Path.{◌≡◌, sym, ap, ◌∙◌, subst}
use mathlib.Core.Bool.{Bool, true, false, not}
use Prim.Native.Nat.{ℕ, zero, suc, ◌+◌, ◌-◌, ◌<◌}
use native.Mathlib.Nat.{not-suc-le-zero, le_of_suc-le-suc}
use native.Mathlib.Decide.{dec_lt}
use native.Mathlib.Omega.{arith}
use lib.Dec.{T, T_not, eqb, eqb_refl, lit<}
use Rattle.recording_crc16.specs.Remainder.{◌⊕◌, shift}
use Rattle.recording_crc16.specs.Powers.{times}
use Rattle.recording_crc16.proofs.Xor.{⊕-lt, ⊕-same, ⊕-self}
use Rattle.recording_crc16.proofs.Shift.{times-⊕, times_add, times_lt, times_kernel}

both : Bool → Bool → Bool
both true b = b
both false b = false

both_left : (a b : Bool) → T (both a b) → T a
unfolding both
both_left true b t = tt
both_left false b t = t

both_right : (a b : Bool) → T (both a b) → T b
unfolding both
both_right true b t = t
both_right false b t = absurd t

-- none of n registers, from r on, is 2^15
walk : ℕ → ℕ → Bool
walk zero r = true
walk (suc n) r = both (not (eqb r 32768)) (walk n (shift r))

walked : T (walk 4111 (shift 32768))
unfolding walk both shift ◌⊕◌
walked = tt

walk_at : (n r : ℕ) → T (walk n r) → (d : ℕ) → d < n → times d r ≡ 32768 → ⊥
unfolding walk times
walk_at zero r t d h e = absurd (not-suc-le-zero h)
walk_at (suc n) r t zero h e =
    T_not (eqb r 32768) (both_left (not (eqb r 32768)) (walk n (shift r)) t) (subst (λ (k : ℕ). T (eqb r k)) e (eqb_refl r))
walk_at (suc n) r t (suc d) h e =
    walk_at n (shift r) (both_right (not (eqb r 32768)) (walk n (shift r)) t) d (le_of_suc-le-suc h) e

-- a power that comes back is none of the first 4,112
back : (d : ℕ) → 0 < d → d < 4112 → times d 32768 ≡ 32768 → ⊥
unfolding times
back zero h k e = absurd (not-suc-le-zero h)
back (suc d) h k e = walk_at 4111 (shift 32768) walked d (le_of_suc-le-suc k) e

apart_by : (i d : ℕ) → 0 < d → d < 4112 → times i 32768 ≡ times (d + i) 32768 → ⊥
apart_by i d h k e =
    let s : times d 32768 < 65536 = times_lt d 32768 (lit< tt) in
    let z : times i (times d 32768 ⊕ 32768) ≡ 0 =
    times-⊕ i (times d 32768) 32768 ∙ ap (λ (x : ℕ). x ⊕ times i 32768) (times_add d i 32768 ∙ sym e) ∙ ⊕-self (times i 32768) in
    back d h k (⊕-same (times d 32768) 32768 (times_kernel i (times d 32768 ⊕ 32768) (⊕-lt 16 (times d 32768) 32768 s (lit< tt)) z))

pub apart : (i j : ℕ) → i < 4112 → j < 4112 → times i 32768 ≡ times j 32768 → i ≡ j
apart i j hi hj e = go (dec_lt i j) (dec_lt j i)
  where
    shifted : (m n : ℕ) → m < n → n < 4112 → times m 32768 ≡ times n 32768 → ⊥
    shifted m n h k p =
        apart_by m (n - m) (omega arith) (omega arith) (p ∙ ap (λ (q : ℕ). times q 32768) (omega arith))

    go : Dec (i < j) → Dec (j < i) → i ≡ j
    go (yes h) d = absurd (shifted i j h hj e)
    go (no h) (yes k) = absurd (shifted j i k hi (sym e))
    go (no h) (no k) = omega arith
