-- Of a pattern whose last digits are the fraction's: the addend's sum fits, and cut it is the rounded number. Over both float formats. Assumes nothing.
use mathlib.Core.Path.{◌≡◌, sym, ap, ◌∙◌, subst}
use mathlib.Core.Bool.{Bool}
use Prim.Native.Nat.{ℕ, ◌+◌, ◌-◌, ◌*◌, ◌/◌, ◌%◌, ◌^◌, ◌≤◌, ◌<◌}
use native.Mathlib.Nat.{le_trans, le_of_eq, lt_of_le_of_lt, lt_of_lt_of_le, mod-eq_of_lt, div-mul-le_self}
use native.Mathlib.Numerals.{add-one}
use native.Mathlib.Omega.{arith}
use lib.Dec.{lit≤}
use lib.Pow.{pow_mono}
use lib.Ieee.{Format, binary32, binary64, emax, low, hid, top, of_bits, to_bits}
use Rattle.lane_float_pattern.specs.Integral.{lift, rounded}
use Rattle.lane_float_pattern.proofs.Chosen.{lift_le, within}
use Rattle.lane_float_pattern.proofs.ToWhole.{between}

-- a field that is not the highest leaves room for the addend
room : (f : Format) (b l : ℕ) → b < 2 * top f → b % top f / hid f ≤ low f → l ≤ hid f → b + l < 2 * top f
room binary32 b l B h k = omega arith
room binary64 b l B h k = omega arith

in_64 : (f : Format) → 2 * top f ≤ 0x1_0000_0000_0000_0000
in_64 binary32 = lit≤ tt
in_64 binary64 = lit≤ tt

digits_left : (f : Format) (x : ℕ) → emax f ≤ x → low f + 1 - x < 64
digits_left binary32 x h = omega arith
digits_left binary64 x h = omega arith

at_most_hid : (f : Format) (x : ℕ) → emax f ≤ x → 2 ^ (low f + 1 - x) ≤ hid f
at_most_hid binary32 x h = let k : low binary32 + 1 - x ≤ 23 = omega arith in pow_mono k
at_most_hid binary64 x h = let k : low binary64 + 1 - x ≤ 52 = omega arith in pow_mono k

module _ (even away : Bool) (f : Format) (b : ℕ) (B : b < 2 * top f) (lo : emax f ≤ b % top f / hid f) (hi : b % top f / hid f ≤ low f) where
  -- how many digits the fraction has
  abbrev pub j : ℕ
  j = low f + 1 - b % top f / hid f

  module _ {l : ℕ} (e : l ≡ lift even away (b / 2 ^ (j % 64)) (2 ^ (j % 64))) where
    addend : l ≡ lift even away (b / 2 ^ j) (2 ^ j)
    addend = e ∙ within even away b j (digits_left f _ lo)

    sum_fits : b + l < 2 * top f
    sum_fits = room f b l B hi (le_trans (le_of_eq addend) (le_trans (lift_le even away (b / 2 ^ j) j) (at_most_hid f _ lo)))

    pub fits : b + l < 0x1_0000_0000_0000_0000
    fits = lt_of_lt_of_le sum_fits (in_64 f)

    whole : (b + l) / 2 ^ j * 2 ^ j % 0x1_0000_0000_0000_0000 ≡ (b + l) / 2 ^ j * 2 ^ j
    whole = mod-eq_of_lt (lt_of_le_of_lt (div-mul-le_self (b + l) (2 ^ j)) fits)

    pub cut_fits : (b + l) / 2 ^ j * 2 ^ j % 0x1_0000_0000_0000_0000 < 2 * top f
    cut_fits = lt_of_le_of_lt (le_trans (le_of_eq whole) (div-mul-le_self (b + l) (2 ^ j))) sum_fits

    pub cut_is : (b + l) / 2 ^ j * 2 ^ j % 0x1_0000_0000_0000_0000 ≡ to_bits f (rounded even away f (of_bits f b))
    cut_is =
        whole ∙ ap (λ (y : ℕ). (b + y) / 2 ^ j * 2 ^ j) addend
        ∙ subst (λ (k : ℕ). (b + lift even away (b / 2 ^ k) (2 ^ k)) / 2 ^ k * 2 ^ k ≡ to_bits f (rounded even away f (of_bits f b)))
        (ap (λ (n : ℕ). n - b % top f / hid f) (sym (add-one (low f)))) (between even away f b B lo hi)
