-- Digits that are counted on where they stand. Assumes nothing.
use Prim.Native.Nat.{ℕ, zero, suc, ◌+◌, ◌*◌, ◌-◌, ◌/◌, ◌%◌, ◌^◌, ◌<◌, ◌≤◌}
use mathlib.Core.Path.{◌≡◌, refl, sym, ap, ap₂, ◌∙◌}
use mathlib.Core.List.{List, [], ◌∷◌, ◌++◌, append_assoc}
use mathlib.Core.Bool.{Bool, true, false}
use native.Mathlib.Nat.{add-zero}
use native.Mathlib.Omega.{arith}
use borrow.Author.Tests.{ltb-true, ltb-false}
use lib.Dec.{ltb}
use lib.ListN.{length, take, drop, get_or, set, length-append, length-set}
use lib.Seq.{take-suc, take_at, get_or_at, length-take-le, take-set-le, drop-set-lt, drop-drop, get_or-drop, get_or-set_same}
use Rattle.program_digits.specs.Digits.{glyph, digits}
use Rattle.program_digits.proofs.Laws.{length_digits}
use Rattle.program_scan.proofs.Numbers.{ten, glyph_is}

snoc_parts : (xs ys : List ℕ) (a b : ℕ) → length xs ≡ length ys → xs ++ (a ∷ []) ≡ ys ++ (b ∷ []) → (xs ≡ ys) × (a ≡ b)
snoc_parts xs ys a b n e = (
  sym (take_at xs (a ∷ []) (length ys) n) ∙ ap (take (length ys)) e ∙ take_at ys (b ∷ []) (length ys) refl,
  sym (get_or_at xs a [] 0 (length ys) n) ∙ ap (λ (l : List ℕ). get_or l (length ys) 0) e ∙ get_or_at ys b [] 0 (length ys) refl,
)

-- digits behind nine characters, of which the last stands before a place
pub record View (text pre : List ℕ) (end m q : ℕ) : Type 0 where
  pub fewer : ℕ
  pub one_less : m ≡ suc fewer
  pub front : take (end - 1) text ≡ pre ++ digits 10 fewer (q / 10)
  pub last : get_or text (end - 1) 0 ≡ 48 + q % 10

pub view : (text pre : List ℕ) (end m q : ℕ) → 10 ≤ end → end ≤ length text → length pre ≡ 9 → take end text ≡ pre ++ digits 10 m q → View text pre end m q
unfolding digits
view text pre end zero q long room nine e =
    absurd (omega (arith, length-take-le end text room, ap length e, length-append pre (digits 10 zero q), length_digits 10 zero q))
view text pre end (suc m) q long room nine e =
    let place : end ≡ suc (end - 1) = omega arith in
    let size : length (take (end - 1) text) ≡ length (pre ++ digits 10 m (q / 10)) =
    omega (
      arith,
      length-take-le (end - 1) text (omega arith),
      length-take-le end text room,
      ap length e,
      length-append pre
          (digits 10 (suc m) q),
      length_digits 10 (suc m) q,
      length-append pre (digits 10 m (q / 10)),
      length_digits 10 m (q / 10),
    ) in
    let both : take (end - 1) text ++ (get_or text (end - 1) 0 ∷ []) ≡ (pre ++ digits 10 m (q / 10)) ++ (glyph (q % 10) ∷ []) =
    sym (ap (λ (k : ℕ). take k text) place ∙ take-suc text (end - 1) 0 (omega arith)) ∙ e
    ∙ sym (append_assoc pre (digits 10 m (q / 10)) (glyph (q % 10) ∷ [])) in
    let parts = snoc_parts _ _ _ _ size both in
    record { fewer = m; one_less = refl; front = parts.0; last = parts.1 ∙ glyph_is (q % 10) (omega arith) }

module _ (text pre : List ℕ) (end m q : ℕ) (long : 10 ≤ end) (room : end ≤ length text) (v : View text pre end m q) (small : q < 10 ^ m) where
  -- one digit more than the first of them
  together : (r f l : ℕ) (out : List ℕ) → r / 10 ≡ f → r % 10 ≡ l → take (end - 1) out ≡ pre ++ digits 10 v.fewer f → get_or out (end - 1) 0 ≡ 48 + l
      → end ≤ length out
      → take end out ≡ pre ++ digits 10 m r
  unfolding digits
  together r f l out ef el front last fits =
      let place : end ≡ suc (end - 1) = omega arith in
      ap (λ (k : ℕ). take k out) place ∙ take-suc out (end - 1) 0 (omega arith)
      ∙ ap₂ (λ (x : List ℕ) (y : ℕ). x ++ (y ∷ [])) front (last ∙ sym (glyph_is l (omega arith)))
      ∙ append_assoc pre (digits 10 v.fewer f) (glyph l ∷ [])
      ∙ ap₂ (λ (x y : ℕ). pre ++ (digits 10 v.fewer x ++ (glyph y ∷ []))) (sym ef) (sym el)
      ∙ ap (λ (k : ℕ). pre ++ digits 10 k r) (sym v.one_less)

  bound : q < 10 ^ v.fewer * 10
  bound = rw (← ten v.fewer, ← v.one_less) small

  pub tenth_small : q / 10 < 10 ^ v.fewer
  tenth_small = let a = bound in omega arith

  pub no_carry : get_or text (end - 1) 0 < 57
      → (q + 1 < 10 ^ m) × (take end (set text (end - 1) (get_or text (end - 1) 0 + 1)) ≡ pre ++ digits 10 m (q + 1))
  no_carry h =
      let low : q % 10 < 9 = omega (arith, v.last) in
      let a = bound in (
        rw (v.one_less, ten v.fewer) (omega arith),
        together (q + 1) (q / 10) (q % 10 + 1) (set text (end - 1) (get_or text (end - 1) 0 + 1)) (omega arith) (omega arith)
            (take-set-le (end - 1) text (end - 1) _ (omega arith) ∙ v.front)
            (get_or-set_same text (end - 1) _ 0 (omega arith) ∙ (omega (arith, v.last)))
            (rw length-set room),
      )

  -- the digit is a nine: one is added to those before it
  pub carried : (out : List ℕ) → (get_or text (end - 1) 0 < 57 → ⊥) → length out ≡ length text
      → drop (end - 1) out ≡ drop (end - 1) (set text (end - 1) 48)
      → (q / 10 + 1 < 10 ^ v.fewer) × (take (end - 1) out ≡ pre ++ digits 10 v.fewer (q / 10 + 1))
      → (q + 1 < 10 ^ m) × (take end out ≡ pre ++ digits 10 m (q + 1))
  carried out h size behind front =
      let nine : q % 10 ≡ 9 = not_less (q % 10) (omega arith) (λ l. h (omega (arith, v.last))) in
      let here : get_or out (end - 1) 0 ≡ 48 =
      ap (λ (k : ℕ). get_or out k 0) (sym (add-zero (end - 1))) ∙ sym (get_or-drop (end - 1) out 0 0) ∙ ap (λ (l : List ℕ). get_or l 0 0) behind
      ∙ get_or-drop (end - 1) (set text (end - 1) 48) 0 0 ∙ ap (λ (k : ℕ). get_or (set text (end - 1) 48) k 0) (add-zero (end - 1))
      ∙ get_or-set_same text (end - 1) 48 0 (omega arith) in (
        rw (v.one_less, ten v.fewer) (omega (arith, front.0)),
        together (q + 1) (q / 10 + 1) 0 out (omega arith) (omega arith) front.1 here (omega arith),
      )
    where
      not_less : (d : ℕ) → d < 10 → (d < 9 → ⊥) → d ≡ 9
      not_less d a b = by (ltb d 9) refl
        where
          by : (t : Bool) → ltb d 9 ≡ t → d ≡ 9
          by true e = absurd (b (ltb-true d 9 e))
          by false e = omega (arith, ltb-false d 9 e)

-- what stands behind a place stays
pub behind : (text out : List ℕ) (end : ℕ) → 10 ≤ end → drop (end - 1) out ≡ drop (end - 1) (set text (end - 1) 48) → drop end out ≡ drop end text
behind text out end long e =
    let place : end - 1 + 1 ≡ end = omega arith in
    ap (λ (k : ℕ). drop k out) (sym place) ∙ sym (drop-drop 1 (end - 1) out) ∙ ap (drop 1) e ∙ drop-drop 1 (end - 1) (set text (end - 1) 48)
    ∙ ap (λ (k : ℕ). drop k (set text (end - 1) 48)) place ∙ drop-set-lt end text (end - 1) 48 (omega arith)
