-- Two answers that meet the promise of `seek` tell the same: a meeting at the same place with the same distances, or that there is none. Assumes nothing.
use mathlib.Core.Path.{◌≡◌, refl, sym, ap, ◌∙◌}
use mathlib.Core.Bool.{Bool, true, false}
use mathlib.Core.List.{List, [], ◌∷◌, ◌++◌}
use Prim.Native.Nat.{ℕ, ◌+◌, ◌-◌, ◌≤◌}
use native.Mathlib.Omega.{arith}
use borrow.Author.Tests.{ltb-true, ltb-false}
use lib.Dec.{ltb}
use lib.ListN.{length, length-append}
use Rattle.finder_windows.specs.Definition.{bits, marker_bits}
use Rattle.capture_meetings.specs.Meetings.{Meeting, met, all_from}
use Rattle.capture_meetings.proofs.Laws.{parts}
use Rattle.capture_history.specs.State.{place, given, Told}
use Rattle.capture_history.specs.declared.Scan.{Scan}
use Rattle.capture_history.proofs.Standing.{meets, ends}

same_next : (xs : List Meeting) (a b : Meeting) (ys : List Meeting) → xs ++ (a ∷ []) ≡ (xs ++ (b ∷ [])) ++ ys → a ≡ b
same_next [] a b ys h = cc
same_next (x ∷ xs) a b ys h = same_next xs a b ys (cc)

module _ (m t L : ℕ) (X : List ℕ) where
  -- what was given at an earlier place is the start of what is given at a later one
  grows : (r q : Scan) → place r ≤ place q → given m t L X q ≡ given m t L X r ++ all_from (bits X) (marker_bits m) t L (place q - place r) (0 + place r)
  grows r q h =
      let all : place r + (place q - place r) ≡ place q = omega arith in
      rw all at (parts (marker_bits m) t L (bits X) (place r) (place q - place r) 0)

  module _ (window : List ℕ) (s : Scan) where
    -- two meetings
    pub meetings_coincide : (p d e p' d' e' : ℕ) (r q : Scan) → Told m t L X window s (meets p d e r) → Told m t L X window s (meets p' d' e' q)
        → met p d e ≡ met p' d' e'
    meetings_coincide p d e p' d' e' r q one two = by (ltb (place r) (place q)) refl
      where
        by : (b : Bool) → ltb (place r) (place q) ≡ b → met p d e ≡ met p' d' e'
        by true h =
            let more = all_from (bits X) (marker_bits m) t L (place q - place r) (0 + place r) in
            sym (same_next (given m t L X s) (met p' d' e') (met p d e) more
            (sym two.1 ∙ grows r q (omega (arith, ltb-true (place r) (place q) h)) ∙ ap (λ (z : List Meeting). z ++ more) one.1))
        by false h =
            let more = all_from (bits X) (marker_bits m) t L (place r - place q) (0 + place q) in
            same_next (given m t L X s) (met p d e) (met p' d' e') more
            (sym one.1 ∙ grows q r (ltb-false (place r) (place q) h) ∙ ap (λ (z : List Meeting). z ++ more) two.1)

    -- a meeting, and that there is none
    pub never_both : (p d e : ℕ) (r q : Scan) → Told m t L X window s (meets p d e r) → Told m t L X window s (ends q) → ⊥
    never_both p d e r q one two =
        let before : place r ≤ place q = omega (arith, one.0.reached, two.1.2) in
        let most = ap length (sym two.1.0 ∙ grows r q before
        ∙ ap (λ (z : List Meeting). z ++ all_from (bits X) (marker_bits m) t L (place q - place r) (0 + place r)) one.1) in
        omega (arith, simp length-append at most)
