-- Shifts of packed lanes of w bits by k below w: what leaves its lane is masked away, before a shift to the left and after one to the right.
-- Assumes nothing.
use mathlib.Core.Path.{◌≡◌, refl, sym, ap, ap₂, ◌∙◌, subst}
use mathlib.Core.List.{map}
use Prim.Native.Nat.{ℕ, ◌+◌, ◌-◌, ◌*◌, ◌/◌, ◌%◌, ◌^◌, ◌<◌}
use native.Mathlib.Nat.{add-zero, one-mul, mul-mod_left, mod-lt, mod-eq_of_lt, sub-add_cancel, le_of_lt, lt_of_le_of_lt, div-mul-le_self}
use native.Mathlib.Omega.{arith}
use lib.Pow.{pow_pos, pow-lt, ones_lt, ones_split, high, shl-shr, shr_le, shr_mod, mod-pow-add}
use lib.Bits.{bit_and, and_mask}
use lib.ListN.{replicate}
use Rattle.standard.specs.Lanes.{digits, joined}
use Rattle.standard.specs.Integer.{ishl, ishr_u}
use Rattle.packed_half.proofs.Packed.{Packed, and, times, first, repeat, shift_masked, packed_as, packed_lt, packed_map}

-- the lowest bit of each lane, times the w - k lowest bits of one
abbrev pub keep : ℕ → ℕ → ℕ → ℕ
keep w n k = joined w (replicate n 1) * ((2 ^ w - 1) / 2 ^ k)

module _ (w k : ℕ) (hk : k < w) where
  parts : w - k + k ≡ w
  parts = sub-add_cancel (le_of_lt hk)

  kept : (2 ^ w - 1) / 2 ^ k ≡ 2 ^ (w - k) - 1
  kept = ap (λ (m : ℕ). (2 ^ m - 1) / 2 ^ k) (sym parts) ∙ ap (λ (m : ℕ). m / 2 ^ k) (ones_split (w - k) k) ∙ high (2 ^ (w - k) - 1) k (ones_lt k)

  kept_lane : (p : ℕ) → bit_and p (1 * ((2 ^ w - 1) / 2 ^ k)) ≡ p % 2 ^ (w - k)
  kept_lane p = ap (bit_and p) (one-mul ((2 ^ w - 1) / 2 ^ k) ∙ kept) ∙ and_mask p (w - k)

  left_lane : (p : ℕ) → bit_and p (1 * ((2 ^ w - 1) / 2 ^ k)) * 2 ^ k ≡ p * 2 ^ k % 2 ^ w
  left_lane p =
      ap (λ (m : ℕ). m * 2 ^ k) (kept_lane p)
      ∙ sym (ap (λ (m : ℕ). p * 2 ^ k % 2 ^ m) (sym parts) ∙ mod-pow-add (p * 2 ^ k) (w - k) k
      ∙ ap₂ (λ (h l : ℕ). h % 2 ^ (w - k) * 2 ^ k + l) (shl-shr p k) (mul-mod_left p (2 ^ k)) ∙ add-zero (p % 2 ^ (w - k) * 2 ^ k))

  right_lane : (p : ℕ) → p < 2 ^ w → bit_and (p / 2 ^ k) (1 * ((2 ^ w - 1) / 2 ^ k)) ≡ p / 2 ^ k
  right_lane p hp = kept_lane (p / 2 ^ k) ∙ shr_mod (w - k) k (subst (λ (m : ℕ). p < 2 ^ m) (sym parts) hp)

-- the mask, for any k
kept_lanes : (w n k a : ℕ) → 0 < w → Packed w n a a (keep w n k) (λ p q. 1 * ((2 ^ w - 1) / 2 ^ k))
kept_lanes w n k a hw =
    times (repeat 1 (pow-lt hw)) ((2 ^ w - 1) / 2 ^ k)
    (λ p q hp hq. rw (one-mul ((2 ^ w - 1) / 2 ^ k)) (lt_of_le_of_lt (shr_le (2 ^ w - 1) k) (ones_lt w)))

pub keep_fits : (w n k : ℕ) → 0 < w → keep w n k < 2 ^ (w * n)
keep_fits w n k hw = packed_lt (kept_lanes w n k 0 hw)

-- "the count is taken modulo the lane width"
module _ (w n count a : ℕ) (hw : 0 < w) (ha : a < 2 ^ (w * n)) where
  left_lanes : Packed w n a a (bit_and a (keep w n (count % w)) * 2 ^ (count % w)) (λ p q. ishl w count p)
  left_lanes =
      packed_as (times (and (first ha) (kept_lanes w n (count % w) a hw)) (2 ^ (count % w))
      (λ p q hp hq. rw (left_lane w (count % w) (mod-lt count hw) p) (mod-lt (p * 2 ^ (count % w)) (pow_pos w))))
      (λ p q. ishl w count p) (λ p q hp hq. left_lane w (count % w) (mod-lt count hw) p)

  pub left_is : bit_and a (keep w n (count % w)) * 2 ^ (count % w) % 2 ^ (w * n) ≡ joined w (map (ishl w count) (digits w n a))
  left_is = mod-eq_of_lt (packed_lt left_lanes) ∙ packed_map left_lanes (ishl w count) (λ p q hp hq. refl)

  pub right_is : bit_and (a / 2 ^ (count % w)) (keep w n (count % w)) ≡ joined w (map (ishr_u w count) (digits w n a))
  right_is =
      packed_map (shift_masked (first ha) (kept_lanes w n (count % w) a hw) (count % w)
      (λ p q hp hq. rw (one-mul ((2 ^ w - 1) / 2 ^ (count % w))) (lt_of_le_of_lt (div-mul-le_self (2 ^ w - 1) (2 ^ (count % w))) (ones_lt w))))
      (ishr_u w count) (λ p q hp hq. right_lane w (count % w) (mod-lt count hw) p hp)

-- of a half's lanes
pub left_half : (v count a : ℕ) → (1 + v) * (64 / (1 + v)) ≡ 64 → a < 2 ^ ((1 + v) * (64 / (1 + v)))
    → bit_and a (keep (1 + v) (64 / (1 + v)) (count % (1 + v))) * 2 ^ (count % (1 + v)) % 2 ^ 64
    ≡ joined (1 + v) (map (ishl (1 + v) count) (digits (1 + v) (64 / (1 + v)) a))
left_half v count a e ha =
    subst (λ (m : ℕ). bit_and a (keep (1 + v) (64 / (1 + v)) (count % (1 + v))) * 2 ^ (count % (1 + v)) % 2 ^ m
    ≡ joined (1 + v) (map (ishl (1 + v) count) (digits (1 + v) (64 / (1 + v)) a))) e
    (left_is (1 + v) (64 / (1 + v)) count a (omega arith) ha)
