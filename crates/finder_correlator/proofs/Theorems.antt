-- What a lessee may lean on: the distance that the marker finder counts is what the vector instructions count. Assumes nothing.
use mathlib.Core.Path.{◌≡◌, ap, ◌∙◌}
use mathlib.Core.List.{List, [], ◌∷◌, map}
use Prim.Native.Nat.{ℕ, ◌^◌, ◌<◌}
use lib.Bits.{bit_xor}
use Rattle.standard.specs.Lanes.{lanes, zip, splat}
use Rattle.standard.specs.Integer.{ipopcnt, ixor}
use Rattle.standard.proofs.Digits.{digits_below}
use Rattle.finder_windows.specs.Definition.{binary, marker_bits, window, distance}
use Rattle.finder_correlator.specs.Correlator.{correlated}
use Rattle.finder_correlator.proofs.Counted.{counted_lanes, xor_lanes, splat_lanes, splat_lt}
use Rattle.finder_correlator.proofs.Words.{words}

-- i32x4.extadd_pairwise_i16x8_u (i16x8.extadd_pairwise_i8x16_u (i8x16.popcnt (v128.xor a b))), b the marker in every lane: lane by lane the finder's distance
-- of the lane's 32 bits, the top one first.
pub lanes_are_distances : (a m : ℕ) → a < 2 ^ 128 → m < 2 ^ 32 → lanes 32 (correlated a m) ≡ map (λ w. distance (binary 32 w) (marker_bits m)) (lanes 32 a)
lanes_are_distances a m ha hm =
    counted_lanes (ixor 128 a (splat 32 m))
    ∙ ap (map (ipopcnt 32)) (xor_lanes a (splat 32 m) ha (splat_lt m hm) ∙ ap (zip bit_xor (lanes 32 a)) (splat_lanes m hm))
    ∙ words m hm (lanes 32 a) (digits_below 32 4 a)

-- Lanes that hold the bits of four windows of a stream, wherever they stand, give the distances of these windows.
pub windows_are_counted : (stream : List ℕ) (p₀ p₁ p₂ p₃ a m : ℕ) → a < 2 ^ 128 → m < 2 ^ 32
    → map (binary 32) (lanes 32 a) ≡ window stream p₀ ∷ window stream p₁ ∷ window stream p₂ ∷ window stream p₃ ∷ []
    → lanes 32 (correlated a m)
    ≡ distance (window stream p₀) (marker_bits m) ∷ distance (window stream p₁) (marker_bits m) ∷ distance (window stream p₂) (marker_bits m)
    ∷ distance (window stream p₃)
    (marker_bits m) ∷ []
windows_are_counted stream p₀ p₁ p₂ p₃ a m ha hm e = lanes_are_distances a m ha hm ∙ ap (map (λ (v : List ℕ). distance v (marker_bits m))) e
