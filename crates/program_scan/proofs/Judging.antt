-- What codes say is what the definition of meetings says. Assumes nothing.
use Prim.Native.Nat.{ℕ, zero, suc, ◌+◌, ◌*◌, ◌/◌, ◌%◌, ◌<◌, ◌≤◌}
use mathlib.Core.Path.{◌≡◌, refl, sym, ap, ap₂, ◌∙◌}
use mathlib.Core.Bool.{Bool, true, false}
use mathlib.Core.List.{List, ◌++◌}
use native.Mathlib.Nat.{add-zero}
use native.Mathlib.Numerals.{add-one}
use native.Mathlib.Omega.{arith}
use borrow.Author.Tests.{lt-ltb, le-ltb, leb-true}
use lib.Dec.{leb}
use lib.ListN.{get_or}
use Rattle.finder_windows.specs.Definition.{bits, marker_bits, window, distance}
use Rattle.finder_windows.proofs.Distance.{window_le}
use Rattle.finder_distances.specs.Windows.{after, Laid}
use Rattle.finder_distances.proofs.Numbers.{at_row}
use Rattle.capture_meetings.specs.Meetings.{Meeting, all_from, shift}
use Rattle.capture_meetings.proofs.Laws.{parts, shift_append}
use Rattle.program_scan.specs.Lines.{lines}
use Rattle.program_scan.specs.Pen.{coded, told, tolds, all_told, Plain}

-- ---- one code

code_met : (d e t : ℕ) → leb d t ≡ true → leb e t ≡ true → coded d e t ≡ d + 65536 * e
code_met d e t a b = rw (a, b) (add-zero (d + 65536 * e))

module _ (t : ℕ) (small : t ≤ 8) where
  pub plain : (d e : ℕ) → d ≤ 32 → e ≤ 32 → Plain (coded d e t)
  plain d e hd he = by (leb d t) (leb e t) refl refl
    where
      by : (a b : Bool) → leb d t ≡ a → leb e t ≡ b → Plain (coded d e t)
      by true true p q =
          let x = leb-true d t p in
          let y = leb-true e t q in
          rw (p, q) (λ h. (omega arith, omega arith))
      by true false p q = rw (p, q) (λ h. absurd (omega arith))
      by false b p q = rw p (λ h. absurd (omega arith))

  module _ (s m : List ℕ) (L k : ℕ) where
    pub told_is : (q N code : ℕ) → N ≡ k + q → code ≡ coded (distance (window s q) m) (distance (window s (q + L)) m) t
        → told N code ≡ shift k (all_from s m t L 1 q)
    unfolding all_from shift
    told_is q N code place is = rw (is, place) (by (leb d t) (leb e t) refl refl)
      where
        d : ℕ
        d = distance (window s q) m

        e : ℕ
        e = distance (window s (q + L)) m

        by : (a b : Bool) → leb d t ≡ a → leb e t ≡ b → told (k + q) (coded d e t) ≡ shift k (all_from s m t L 1 q)
        by true true x y =
            let p = leb-true d t x in
            let r = leb-true e t y in
            let sum : coded d e t ≡ d + 65536 * e = code_met d e t x y in
            let low : (d + 65536 * e) % 65536 ≡ d = omega arith in
            let high : (d + 65536 * e) / 65536 ≡ e = omega arith in
            rw (sum, lt-ltb (d + 65536 * e) 16777216 (omega arith), low, high, x, y)
        by true false x y = rw (x, y) (rw (le-ltb (d + 65536 * e + 16777216) 16777216 (omega arith)))
        by false b x y = rw x (rw (le-ltb (d + 65536 * e + 16777216) 16777216 (omega arith)))

    -- ---- 256 of them
    module _ (p : ℕ) (codes : List ℕ)
        (each : (i : ℕ) → i < 256 → get_or codes i 0 ≡ coded (distance (window s (p + after i)) m) (distance (window s (p + L + after i)) m) t) where
      tolds_are : (j n : ℕ) → j < 32 → n ≤ 8 → tolds codes j (k + p + 8 * j) n ≡ shift k (all_from s m t L n (p + 8 * j))
      unfolding tolds all_from shift
      tolds_are j zero hj hn = refl
      tolds_are j (suc n) hj hn =
          let row : after (j + 32 * n) ≡ 8 * j + n = ap after (omega arith) ∙ at_row n j hj in
          let here : p + after (j + 32 * n) ≡ p + 8 * j + n = omega (arith, row) in
          let again : p + L + after (j + 32 * n) ≡ p + 8 * j + n + L = omega (arith, row) in
          let code = each (j + 32 * n) (omega arith)
          ∙ ap₂ (λ (a b : ℕ). coded (distance (window s a) m) (distance (window s b) m) t) here again in
          ap₂ (λ (x y : List Meeting). x ++ y) (tolds_are j n hj (omega arith))
          (told_is (p + 8 * j + n) (k + p + 8 * j + n) (get_or codes (j + 32 * n) 0) (omega arith) code)
          ∙ sym (shift_append k (all_from s m t L n (p + 8 * j)) (all_from s m t L 1 (p + 8 * j + n)))
          ∙ ap (shift k) (sym (parts m t L s n 1 (p + 8 * j)) ∙ ap (λ (c : ℕ). all_from s m t L c (p + 8 * j)) (add-one n))

      all_are : (n : ℕ) → n ≤ 32 → all_told codes (k + p) n ≡ shift k (all_from s m t L (8 * n) p)
      unfolding all_told all_from shift
      all_are zero h = refl
      all_are (suc n) h =
          let count : 8 * n + 8 ≡ 8 * suc n = omega arith in
          ap₂ (λ (x y : List Meeting). x ++ y) (all_are n (omega arith)) (tolds_are n 8 (omega arith) (omega arith))
          ∙ sym (shift_append k (all_from s m t L (8 * n) p) (all_from s m t L 8 (p + 8 * n)))
          ∙ ap (shift k) (sym (parts m t L s (8 * n) 8 p) ∙ ap (λ (c : ℕ). all_from s m t L c p) count)

      pub many_are : (N : ℕ) → k + p ≡ N → all_told codes N 32 ≡ shift k (all_from s m t L 256 p)
      many_are N e = rw (← e) (all_are 32 (omega arith))

-- the codes of two rows of distances, one a frame behind the other
module _ (bs first second codes : List ℕ) (p m t L : ℕ) (small : t ≤ 8) (here : Laid bs p m first 256) (later : Laid bs (p + L) m second 256)
    (judged : (i : ℕ) → i < 256 → get_or codes i 0 ≡ coded (get_or first i 0) (get_or second i 0) t) where
  each_is : (i : ℕ) → i < 256 → get_or codes i 0
      ≡ coded (distance (window (bits bs) (p + after i)) (marker_bits m)) (distance (window (bits bs) (p + L + after i)) (marker_bits m)) t
  each_is i h = judged i h ∙ ap₂ (λ (d e : ℕ). coded d e t) (here.1 i h) (later.1 i h)

  pub plains : (i : ℕ) → i < 256 → Plain (get_or codes i 0)
  plains i h = rw (each_is i h) (plain t small _ _ (window_le (bits bs) (marker_bits m) (p + after i)) (window_le (bits bs) (marker_bits m) (p + L + after i)))

  pub meetings_are : (k N : ℕ) → k + p ≡ N → lines (shift k (all_from (bits bs) (marker_bits m) t L 256 p)) ≡ lines (all_told codes N 32)
  meetings_are k N e = ap lines (sym (many_are t small (bits bs) (marker_bits m) L k p codes each_is N e))

pub few : (bs away : List ℕ) (p m : ℕ) → Laid bs p m away 256 → (i : ℕ) → i < 256 → get_or away i 0 ≤ 32
few bs away p m laid i h = rw (laid.1 i h) (window_le (bits bs) (marker_bits m) (p + after i))
