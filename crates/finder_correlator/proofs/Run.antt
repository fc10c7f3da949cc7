-- What a lessee may lean on of the calculator: its run of the correlator's list leaves the finder's distances in register 6. Assumes nothing.
use mathlib.Core.Path.{◌≡◌, refl, sym, ap, ap₂, ◌∙◌}
use mathlib.Core.List.{List, [], ◌∷◌, ◌++◌, map}
use Prim.Native.Nat.{ℕ, ◌+◌, ◌*◌, ◌/◌, ◌%◌, ◌^◌, ◌<◌, ◌≤◌}
use native.Mathlib.Nat.{add-zero, mod-lt, mod-eq_of_lt}
use native.Mathlib.Omega.{arith}
use lib.Dec.{lit<}
use lib.ListN.{length, take, drop, get_or, replicate}
use Rattle.standard.specs.Lanes.{joined, lanes, extract}
use Rattle.standard.specs.Instruction.{table, instruction}
use Rattle.standard.proofs.Digits.{Below, joined_lt, lanes_joined}
use Rattle.calculator_rules.specs.Definition.{Ending, ended, start, run, steps, step, effect, refusal}
use Rattle.finder_windows.specs.Definition.{binary, bits, marker_bits, window, distance}
use Rattle.finder_windows.proofs.Bits.{spelt, spelt_all}
use Rattle.finder_correlator.specs.Correlator.{correlated, steps_of, sent}
use Rattle.finder_correlator.proofs.Words.{as_held, marker_bytes, window_bytes}
use Rattle.finder_correlator.proofs.Theorems.{lanes_are_distances}

abbrev four : ℕ → ℕ → ℕ → ℕ → List ℕ
four a b c d = a ∷ b ∷ c ∷ d ∷ []

alike : {a b c d e f g h : ℕ} → a ≡ e → b ≡ f → c ≡ g → d ≡ h → four a b c d ≡ four e f g h
alike p q r s = cc

-- the correlator over sixteen bytes and four of a marker: where its run of at most 256 steps ends, and the lanes of register 6
abbrev pub correlation : List ℕ → List ℕ → Ending
correlation words marker = run (steps_of words marker) 0 256 start

abbrev pub left_in_register_6 : Ending → List ℕ
left_in_register_6 e = lanes 32 (get_or e.machine.registers 6 0)

module _ (c0 c1 c2 c3 c4 c5 c6 c7 c8 c9 c10 c11 c12 c13 c14 c15 m0 m1 m2 m3 : ℕ) where
  abbrev held : List ℕ
  held = c0 ∷ c1 ∷ c2 ∷ c3 ∷ c4 ∷ c5 ∷ c6 ∷ c7 ∷ c8 ∷ c9 ∷ c10 ∷ c11 ∷ c12 ∷ c13 ∷ c14 ∷ c15 ∷ []

  abbrev sought : List ℕ
  sought = four m0 m1 m2 m3

  -- no step is refused
  ends : (correlation held sought).outcome ≡ ended
  unfolding run steps step effect refusal instruction table
  ends = refl

  -- register 6 holds what the instructions give
  pub steps_correlate : get_or (correlation held sought).machine.registers 6 0 ≡ correlated (joined 8 held) (extract 32 (joined 8 (sought ++ replicate 12 0)) 0)
  unfolding run steps step effect refusal instruction table
  steps_correlate = refl

  -- four bytes as one lane of 32 bits holds them
  abbrev in_words : List ℕ
  in_words = four (joined 8 (four c0 c1 c2 c3)) (joined 8 (four c4 c5 c6 c7)) (joined 8 (four c8 c9 c10 c11)) (joined 8 (four c12 c13 c14 c15))

  by_words : joined 8 held ≡ joined 32 in_words
  by_words = omega arith

  module _ (h0 : Below 256 (four c0 c1 c2 c3)) (h1 : Below 256 (four c4 c5 c6 c7)) (h2 : Below 256 (four c8 c9 c10 c11))
      (h3 : Below 256 (four c12 c13 c14 c15)) (hm : Below 256 (four m0 m1 m2 m3)) where
    words_below : Below (2 ^ 32) in_words
    words_below = (
      joined_lt 8 (four c0 c1 c2 c3) h0,
      (
        joined_lt 8 (four c4 c5 c6 c7) h1,
        (joined_lt 8 (four c8 c9 c10 c11) h2, (joined_lt 8 (four c12 c13 c14 c15) h3, tt)),
      ),
    )

    scalar : extract 32 (joined 8 (sought ++ replicate 12 0)) 0 ≡ joined 8 sought
    unfolding extract
    scalar = mod-eq_of_lt (joined_lt 8 sought hm)

    distances : left_in_register_6 (correlation held sought)
        ≡ four (distance (bits (four c0 c1 c2 c3)) (bits sought)) (distance (bits (four c4 c5 c6 c7)) (bits sought))
        (distance (bits (four c8 c9 c10 c11)) (bits sought))
        (distance (bits (four c12 c13 c14 c15)) (bits sought))
    distances =
        ap (lanes 32) (steps_correlate ∙ ap₂ correlated by_words scalar)
        ∙ lanes_are_distances (joined 32 in_words) (joined 8 sought) (joined_lt 32 in_words words_below) (joined_lt 8 sought hm)
        ∙ ap (map (λ w. distance (binary 32 w) (marker_bits (joined 8 sought)))) (lanes_joined 32 refl in_words refl words_below)
        ∙ alike (as_held (four c0 c1 c2 c3) sought refl refl h0 hm) (as_held (four c4 c5 c6 c7) sought refl refl h1 hm)
        (as_held (four c8 c9 c10 c11) sought refl refl h2 hm) (as_held (four c12 c13 c14 c15) sought refl refl h3 hm)

-- Any sixteen bytes of a buffer, from a byte on, and any marker.
module _ (buffer : List ℕ) (at m : ℕ) (fits : at + 16 ≤ length buffer) where
  abbrev b : ℕ → ℕ
  b i = get_or buffer (at + i) 0

  -- the run comes to its end: no step is refused
  pub runs_to_its_end : (correlation (take 16 (drop at buffer)) (sent m)).outcome ≡ ended
  runs_to_its_end =
      ap (λ (l : List ℕ). (correlation l (sent m)).outcome) (spelt_all buffer at 16 fits)
      ∙ ends (b 0) (b 1) (b 2) (b 3) (b 4) (b 5) (b 6) (b 7) (b 8) (b 9) (b 10) (b 11) (b 12) (b 13) (b 14) (b 15) _ _ _ _

  -- and leaves the distances of the windows at that byte and at the three that follow it in steps of four
  pub calculator_counts_distances : ((i : ℕ) → get_or buffer i 0 < 256)
      → left_in_register_6 (correlation (take 16 (drop at buffer)) (sent m))
      ≡ distance (window (bits buffer) (8 * at)) (marker_bits m) ∷ distance (window (bits buffer) (8 * (at + 4))) (marker_bits m) ∷ distance
      (window (bits buffer) (8 * (at + 8))) (marker_bits m) ∷
      distance (window (bits buffer) (8 * (at + 12))) (marker_bits m) ∷ []
  calculator_counts_distances h =
      ap (λ (l : List ℕ). left_in_register_6 (correlation l (sent m))) (spelt_all buffer at 16 fits)
      ∙ distances (b 0) (b 1) (b 2) (b 3) (b 4) (b 5) (b 6) (b 7) (b 8) (b 9) (b 10) (b 11) (b 12) (b 13) (b 14) (b 15) _ _ _ _
      (below 0) (below 4) (below 8) (below 12) (small (m / 2 ^ 24), (small (m / 2 ^ 16), (small (m / 2 ^ 8), (small m, tt))))
      ∙ alike (place 0 (omega arith) ∙ ap (λ (k : ℕ). distance (window (bits buffer) (8 * k)) (marker_bits m)) (add-zero at)) (place 4 (omega arith))
      (place 8 (omega arith)) (place 12 (omega arith))
    where
      below : (i : ℕ) → Below 256 (spelt buffer at i 4 [])
      below i = (h _, (h _, (h _, (h _, tt))))

      small : (x : ℕ) → x % 256 < 256
      small x = mod-lt x (lit< tt)

      place : (i : ℕ) → at + i + 4 ≤ length buffer → distance (bits (spelt buffer at i 4 [])) (bits (sent m))
          ≡ distance (window (bits buffer) (8 * (at + i))) (marker_bits m)
      place i l = ap₂ distance (sym (window_bytes buffer at i l)) (marker_bytes m)
