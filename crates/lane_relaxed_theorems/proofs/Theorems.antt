-- What the relaxed instructions give is what WebAssembly 3.0 allows (document 02, order 11). 3.0's choice is one for a whole instruction: the first choice
-- serves every lane of every vector (`..-allowed`), of the dots where no sum meets four −128. Of the 16-bit dot each lane, taken singly, is allowed with no
-- exception (`dot_allowed_singly`). And a 16-bit dot whose second vector has lanes 0 to 127 lies within −32512..32258 and never wraps. Assumes nothing.
use mathlib.Core.Path.{◌≡◌, refl, sym, ap, ap₂, ◌∙◌, subst⁻¹}
use mathlib.Core.Bool.{Bool, true, false, cond, ◌&&◌, ◌||◌}
use mathlib.Core.List.{List, [], ◌∷◌, Memᴰ}
use Prim.Native.Nat.{ℕ, zero, suc, ◌+◌, ◌-◌, ◌*◌, ◌/◌, ◌%◌, ◌^◌, ◌<◌, ◌≤◌}
use native.Mathlib.Nat.{mod-lt}
use native.Mathlib.Omega.{arith}
use borrow.Author.Tests.{ltb-false, eqb-true, eqb-false}
use lib.Dec.{ltb, eqb, leb, le→leb, lit<}
use lib.Ieee.{Format, binary32, binary64, nan, to_bits, nan_bits}
use lib.IntN.{ℤ, pos, negsuc, neg_ℤ, ◌+ℤ◌, ◌*ℤ◌}
use lib.Signed.{◌≤ℤ◌, le_z_yes}
use lib.ListN.{get_or, get_or-eq_default}
use lib.Pow.{pow_pos}
use Rattle.standard.specs.Lanes.{lanes, unary, extract, splat}
use Rattle.standard.specs.Integer.{signed, floor, iadd, iq15mulrsat_s, ibitselect, extend_s}
use Rattle.standard.specs.Float.{width, under, fneg, fabs, fmin, fmax}
use Rattle.standard.specs.Vector.{swizzle, dot, extadd_pairwise}
use Rattle.standard.specs.Relaxed.{relaxed_swizzle, relaxed_laneselect, relaxed_q15mulr, relaxed_min, relaxed_max, relaxed_dot, relaxed_dot_add}
use Rattle.standard.proofs.Digits.{Below, digits_below}
use Rattle.standard.proofs.Pairs.{extadd_16, dot_8}
use Rattle.standard.proofs.Widths.{sat_s_lt}
use Rattle.lane_relaxed_theorems.specs.Allowed.{swizzled, selected, multiplied, chosen, dots, dots_added, value, ByChoice}
use Rattle.lane_relaxed_theorems.proofs.Lane.{at_unary, at_binary, at_bitselect, all_ones, all_zeros, halves_8, halves_16}
use Rattle.lane_relaxed_theorems.proofs.Whole.{Within}
use Rattle.lane_relaxed_theorems.proofs.Dot.{given, exact, Four, as_signed, seven_within, never_wraps}

-- One lane each: the first value of its set.

named : (x i : ℕ) → get_or (lanes 8 x) i 0 ≡ value 0 (swizzled (lanes 8 x) i)
named x i = by (ltb i 16) (ltb i 128) refl
  where
    past : ltb i 16 ≡ false → get_or (lanes 8 x) i 0 ≡ 0
    past e = get_or-eq_default (lanes 8 x) 0 (ltb-false i 16 e)

    by : (s t : Bool) → ltb i 16 ≡ s
        → get_or (lanes 8 x) i 0 ≡ value 0 (cond s (get_or (lanes 8 x) i 0 ∷ []) (cond t (0 ∷ get_or (lanes 8 x) (i % 16) 0 ∷ []) (0 ∷ [])))
    by true t e = refl
    by false true e = past e
    by false false e = past e

picked : (w a b m : ℕ) → a < 2 ^ w → b < 2 ^ w → ibitselect w a b m ≡ value 0 (selected w a b m)
picked w a b m ha hb = by (eqb m (2 ^ w - 1)) (eqb m 0) refl refl
  where
    by : (s t : Bool) → eqb m (2 ^ w - 1) ≡ s → eqb m 0 ≡ t
        → ibitselect w a b m ≡ value 0 (cond s (a ∷ []) (cond t (b ∷ []) (ibitselect w a b m ∷ cond (leb (2 ^ (w - 1)) m) a b ∷ [])))
    by true t e f = ap (ibitselect w a b) (eqb-true m (2 ^ w - 1) e) ∙ all_ones w a b ha hb
    by false true e f = ap (ibitselect w a b) (eqb-true m 0 f) ∙ all_zeros w a b ha hb
    by false false e f = refl

product : (a b : ℕ) → iq15mulrsat_s 16 a b ≡ value 0 (multiplied a b)
product a b = by (eqb a 0x8000) (eqb b 0x8000) refl refl
  where
    by : (s t : Bool) → eqb a 0x8000 ≡ s → eqb b 0x8000 ≡ t → iq15mulrsat_s 16 a b ≡ value 0 (cond (s && t) (0x7fff ∷ 0x8000 ∷ []) (iq15mulrsat_s 16 a b ∷ []))
    by true true e f = ap₂ (iq15mulrsat_s 16) (eqb-true a 0x8000 e) (eqb-true b 0x8000 f)
    by true false e f = refl
    by false t e f = refl

-- a NaN, or what the operation gives, whether or not both are zeros
either : (n z : Bool) (p q a b v : ℕ) → cond n p v ≡ value 0 (cond n (p ∷ q ∷ a ∷ b ∷ []) (cond z (cond n p v ∷ a ∷ b ∷ []) (cond n p v ∷ [])))
either true z p q a b v = refl
either false true p q a b v = refl
either false false p q a b v = refl

least : (f : Format) (a b : ℕ) → fmin f a b ≡ value 0 (chosen fmin f a b)
least f a b = either (nan_bits f a || nan_bits f b) (eqb (fabs f a) 0 && eqb (fabs f b) 0) (to_bits f nan) (fneg f (to_bits f nan)) a b (cond (under f a b) a b)

greatest : (f : Format) (a b : ℕ) → fmax f a b ≡ value 0 (chosen fmax f a b)
greatest f a b = either (nan_bits f a || nan_bits f b) (eqb (fabs f a) 0 && eqb (fabs f b) 0) (to_bits f nan) (fneg f (to_bits f nan)) a b (cond (under f a b) b a)

-- Lanes of vectors.

element_below : (b : ℕ) (xs : List ℕ) (i : ℕ) → 0 < b → Below b xs → get_or xs i 0 < b
element_below b [] i h u = h
element_below b (x ∷ xs) zero h u = u.0
element_below b (x ∷ xs) (suc i) h u = element_below b xs i h u.1

lane_lt : (w x i : ℕ) → extract w x i < 2 ^ w
unfolding extract
lane_lt w x i = element_below (2 ^ w) (lanes w x) i (pow_pos w) (digits_below w (128 / w) x)

pub swizzle_allowed : (x s : ℕ) → ByChoice 0 8 (relaxed_swizzle x s) (λ i. swizzled (lanes 8 x) (extract 8 s i))
unfolding swizzle unary
swizzle_allowed x s i h =
    at_unary 8 refl i h (λ k. get_or (lanes 8 x) k 0) (λ k l. element_below 256 (lanes 8 x) k (omega arith) (digits_below 8 16 x)) s ∙ named x (extract 8 s i)

pub laneselect_allowed : (w : ℕ) → w * (128 / w) ≡ 128 → (x y m : ℕ)
    → ByChoice 0 w (relaxed_laneselect x y m) (λ i. selected w (extract w x i) (extract w y i) (extract w m i))
laneselect_allowed w whole x y m i h = at_bitselect w whole i h x y m ∙ picked w (extract w x i) (extract w y i) (extract w m i) (lane_lt w x i) (lane_lt w y i)

pub q15mulr_allowed : (x y : ℕ) → ByChoice 0 16 (relaxed_q15mulr x y) (λ i. multiplied (extract 16 x i) (extract 16 y i))
q15mulr_allowed x y i h =
    at_binary 16 refl i h (iq15mulrsat_s 16) (λ a b p q. sat_s_lt 16 (floor (signed 16 a *ℤ signed 16 b +ℤ pos 16384) 15)) x y
    ∙ product (extract 16 x i) (extract 16 y i)

-- A NaN of the format is a pattern of its width, so min and max keep to it.
whole_lanes : (f : Format) → width f * (128 / width f) ≡ 128
whole_lanes binary32 = refl
whole_lanes binary64 = refl

nan_lt : (f : Format) → to_bits f nan < 2 ^ width f
unfolding to_bits
nan_lt binary32 = lit< tt
nan_lt binary64 = lit< tt

choice_lt : (f : Format) (n t : Bool) (a b : ℕ) → a < 2 ^ width f → b < 2 ^ width f → cond n (to_bits f nan) (cond t a b) < 2 ^ width f
choice_lt f true t a b ha hb = nan_lt f
choice_lt f false true a b ha hb = ha
choice_lt f false false a b ha hb = hb

module _ (f : Format) (x y : ℕ) where
  pub min_allowed : ByChoice 0 (width f) (relaxed_min f x y) (λ i. chosen fmin f (extract (width f) x i) (extract (width f) y i))
  min_allowed i h =
      at_binary (width f) (whole_lanes f) i h (fmin f) (λ a b p q. choice_lt f (nan_bits f a || nan_bits f b) (under f a b) a b p q) x y
      ∙ least f (extract (width f) x i) (extract (width f) y i)

  pub max_allowed : ByChoice 0 (width f) (relaxed_max f x y) (λ i. chosen fmax f (extract (width f) x i) (extract (width f) y i))
  max_allowed i h =
      at_binary (width f) (whole_lanes f) i h (fmax f) (λ a b p q. choice_lt f (nan_bits f a || nan_bits f b) (under f a b) b a q p) x y
      ∙ greatest f (extract (width f) x i) (extract (width f) y i)

-- The dots, where no sum meets four −128.
given_at : (x y i : ℕ) → i < 8 → extract 16 (relaxed_dot x y) i ≡ given (extract 16 x i) (extract 16 y i)
given_at x y i h = ap (λ (r : ℕ). extract 16 r i) (sym (dot_8 x y)) ∙ at_binary 16 refl i h given (λ a b p q. mod-lt _ (pow_pos 16)) x y

-- a lane where the sum does not meet them is that of the first choice, of bytes read as signed
signed_lane : (x y i : ℕ) → i < 8 → (Four (extract 16 x i) (extract 16 y i) → ⊥)
    → extract 16 (relaxed_dot x y) i ≡ value 0 (dots (extract 16 x i) (extract 16 y i))
signed_lane x y i h apart = given_at x y i h ∙ as_signed (extract 16 x i) (extract 16 y i) (lane_lt 16 x i) (lane_lt 16 y i) apart

-- one that meets them is that of the second
unsigned_lane : (x y i : ℕ) → i < 8 → Four (extract 16 x i) (extract 16 y i) → extract 16 (relaxed_dot x y) i ≡ value 1 (dots (extract 16 x i) (extract 16 y i))
unsigned_lane x y i h four =
    given_at x y i h ∙ ap₂ given four.0 four.1 ∙ sym (ap₂ (λ (a b : ℕ). value 1 (dots a b)) four.0 four.1)

pub dot_allowed : (x y : ℕ) → ((i : ℕ) → i < 8 → Four (extract 16 x i) (extract 16 y i) → ⊥)
    → ByChoice 0 16 (relaxed_dot x y) (λ i. dots (extract 16 x i) (extract 16 y i))
dot_allowed x y apart i h = signed_lane x y i h (apart i h)

-- taken singly, every lane is one of the two, four −128 or not
pub dot_allowed_singly : (x y i : ℕ) → i < 8 → Memᴰ (extract 16 (relaxed_dot x y) i) (dots (extract 16 x i) (extract 16 y i))
dot_allowed_singly x y i h = by (eqb (extract 16 x i) 0x8080) (eqb (extract 16 y i) 0x8080) refl refl
  where
    by : (s t : Bool) → eqb (extract 16 x i) 0x8080 ≡ s → eqb (extract 16 y i) 0x8080 ≡ t
        → Memᴰ (extract 16 (relaxed_dot x y) i) (dots (extract 16 x i) (extract 16 y i))
    by true true e f = Memᴰ.tail (Memᴰ.head (unsigned_lane x y i h (eqb-true (extract 16 x i) 0x8080 e, eqb-true (extract 16 y i) 0x8080 f)))
    by true false e f = Memᴰ.head (signed_lane x y i h (λ four. eqb-false (extract 16 y i) 0x8080 f four.1))
    by false t e f = Memᴰ.head (signed_lane x y i h (λ four. eqb-false (extract 16 x i) 0x8080 e four.0))

-- the 16-bit dot of either half of a 32-bit lane
module _ (x y c i : ℕ) (h : i < 4) where
  low_dot : extract 32 (relaxed_dot x y) i % 2 ^ 16 ≡ given (extract 32 x i % 2 ^ 16) (extract 32 y i % 2 ^ 16)
  low_dot =
      (halves_16 (relaxed_dot x y) i h).low ∙ given_at x y (2 * i) (omega arith) ∙ sym (ap₂ given (halves_16 x i h).low (halves_16 y i h).low)

  high_dot : extract 32 (relaxed_dot x y) i / 2 ^ 16 ≡ given (extract 32 x i / 2 ^ 16) (extract 32 y i / 2 ^ 16)
  high_dot =
      (halves_16 (relaxed_dot x y) i h).high ∙ given_at x y (2 * i + 1) (omega arith) ∙ sym (ap₂ given (halves_16 x i h).high (halves_16 y i h).high)

  neighbours : ℕ → ℕ
  neighbours d = iadd 32 (extend_s 16 32 (d % 2 ^ 16)) (extend_s 16 32 (d / 2 ^ 16))

  added_at : extract 32 (relaxed_dot_add x y c) i ≡ iadd 32 (neighbours (extract 32 (relaxed_dot x y) i)) (extract 32 c i)
  unfolding neighbours
  added_at =
      at_binary 32 refl i h (iadd 32) (λ a b p q. mod-lt (a + b) (pow_pos 32)) (extadd_pairwise extend_s 16 (relaxed_dot x y)) c
      ∙ ap (λ (k : ℕ). iadd 32 k (extract 32 c i))
      (ap (λ (r : ℕ). extract 32 r i) (sym (extadd_16 extend_s (relaxed_dot x y)))
      ∙ at_unary 32 refl i h neighbours (λ d l. mod-lt _ (pow_pos 32)) (relaxed_dot x y))

  added_lane : (Four (extract 32 x i % 2 ^ 16) (extract 32 y i % 2 ^ 16) → ⊥) → (Four (extract 32 x i / 2 ^ 16) (extract 32 y i / 2 ^ 16) → ⊥)
      → extract 32 (relaxed_dot_add x y c) i ≡ value 0 (dots_added (extract 32 x i) (extract 32 y i) (extract 32 c i))
  unfolding neighbours
  added_lane low high =
      let lx = lane_lt 32 x i in
      let ly = lane_lt 32 y i in
      added_at
      ∙ ap₂ (λ (p q : ℕ). iadd 32 (iadd 32 (extend_s 16 32 p) (extend_s 16 32 q)) (extract 32 c i))
      (low_dot ∙ as_signed (extract 32 x i % 2 ^ 16) (extract 32 y i % 2 ^ 16) (omega arith) (omega arith) low)
      (high_dot ∙ as_signed (extract 32 x i / 2 ^ 16) (extract 32 y i / 2 ^ 16) (omega arith) (omega arith) high)

-- the 32-bit dot, where neither sum of any lane meets them
pub dot_add_allowed : (x y c : ℕ)
    → ((i : ℕ) → i < 4 → (Four (extract 32 x i % 2 ^ 16) (extract 32 y i % 2 ^ 16) → ⊥) × (Four (extract 32 x i / 2 ^ 16) (extract 32 y i / 2 ^ 16) → ⊥))
    → ByChoice 0 32 (relaxed_dot_add x y c) (λ i. dots_added (extract 32 x i) (extract 32 y i) (extract 32 c i))
dot_add_allowed x y c apart i h = added_lane x y c i h (apart i h).0 (apart i h).1

-- "A 16-bit dot whose second vector has lanes 0 to 127 lies within −32512..32258 and never wraps": it is the exact sum of its two products. Only the
-- second vector's two lanes that it reads are asked about.
pub record Exact (x y i : ℕ) : Type 0 where
  pub sum : signed 16 (extract 16 (relaxed_dot x y) i)
      ≡ signed 8 (extract 8 x (2 * i)) *ℤ signed 8 (extract 8 y (2 * i)) +ℤ signed 8 (extract 8 x (2 * i + 1)) *ℤ signed 8 (extract 8 y (2 * i + 1))
  pub above : neg_ℤ (pos 32512) ≤ℤ signed 16 (extract 16 (relaxed_dot x y) i)
  pub below : signed 16 (extract 16 (relaxed_dot x y) i) ≤ℤ pos 32258

from_end : (z : ℤ) → Within 32512 32258 z → neg_ℤ (pos 32512) ≤ℤ z
from_end (pos n) h = le_z_yes tt
from_end (negsuc n) h = le_z_yes (le→leb n 32511 (omega arith))

to_end : (z : ℤ) → Within 32512 32258 z → z ≤ℤ pos 32258
to_end (pos n) h = le_z_yes (le→leb n 32258 h)
to_end (negsuc n) h = le_z_yes tt

module _ (x y i : ℕ) (h : i < 8) (low : extract 8 y (2 * i) ≤ 127) (high : extract 8 y (2 * i + 1) ≤ 127) where
  within : Within 32512 32258 (exact (extract 16 x i) (extract 16 y i))
  within =
      seven_within (extract 16 x i) (extract 16 y i) (lane_lt 16 x i) (lane_lt 16 y i) (rw (halves_8 y i h).low low) (rw (halves_8 y i h).high high)

  read : signed 16 (extract 16 (relaxed_dot x y) i) ≡ exact (extract 16 x i) (extract 16 y i)
  read =
      ap (signed 16) (given_at x y i h)
      ∙ never_wraps (extract 16 x i) (extract 16 y i) (lane_lt 16 x i) (lane_lt 16 y i) (rw (halves_8 y i h).low low) (rw (halves_8 y i h).high high)

  pub dot_of_seven : Exact x y i
  dot_of_seven =
      record {
        sum = read ∙ ap₂ ◌+ℤ◌ (ap₂ (λ (p q : ℕ). signed 8 p *ℤ signed 8 q) (halves_8 x i h).low (halves_8 y i h).low)
            (ap₂ (λ (p q : ℕ). signed 8 p *ℤ signed 8 q) (halves_8 x i h).high (halves_8 y i h).high);
        above = subst⁻¹ (λ (z : ℤ). neg_ℤ (pos 32512) ≤ℤ z) read (from_end (exact (extract 16 x i) (extract 16 y i)) within);
        below = subst⁻¹ (λ (z : ℤ). z ≤ℤ pos 32258) read (to_end (exact (extract 16 x i) (extract 16 y i)) within);
      }

-- Both ends are met: by −128 and 127 in every lane, and by 127 in every lane.
pub lower_end : signed 16 (extract 16 (relaxed_dot (splat 8 0x80) (splat 8 127)) 0) ≡ neg_ℤ (pos 32512)
unfolding extract splat dot
lower_end = refl

pub upper_end : signed 16 (extract 16 (relaxed_dot (splat 8 127) (splat 8 127)) 0) ≡ pos 32258
unfolding extract splat dot
upper_end = refl
