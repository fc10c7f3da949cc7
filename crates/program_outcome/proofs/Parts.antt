-- The parts of the line: the bytes of the vector one after another, and the scalar's digits. Assumes nothing.
use mathlib.Core.Path.{◌≡◌, sym, ap, ap₂, ◌∙◌}
use mathlib.Core.Bool.{Bool, true, false, cond}
use mathlib.Core.List.{List, [], ◌∷◌, ◌++◌, append-nil}
use Prim.Native.Nat.{ℕ, suc, ◌+◌, ◌-◌, ◌<◌}
use native.Mathlib.Omega.{arith}
use lib.ListN.{get_or}
use Rattle.calculator_rules.specs.Definition.{bytes}
use Rattle.recording_fields.specs.Definition.{wide}
use Rattle.program_digits.specs.Codes.{codes}
use Rattle.program_digits.specs.Digits.{hex, hex_bytes}
use Rattle.program_digits.specs.Lines.{count_line}
use Rattle.program_outcome.specs.Outcome.{kind_name, low_four, high_four, scalar_digits, left_line}

-- the bytes of the vector, from one on
pub one_byte : (r : List ℕ) (i : ℕ) {x : ℕ} → i < 16 → x ≡ get_or r (32 + i) 0
    → hex_bytes (bytes r (32 + i) (16 - i)) ≡ hex_bytes (x ∷ []) ++ hex_bytes (bytes r (32 + (i + 1)) (16 - (i + 1)))
unfolding hex_bytes
one_byte r i {x} h e =
    let more : 16 - i ≡ suc (16 - (i + 1)) = omega arith in
    let further : suc (32 + i) ≡ 32 + (i + 1) = omega arith in
    ap (λ (k : ℕ). hex_bytes (bytes r (32 + i) k)) more
    ∙ ap₂ (λ (l : List ℕ) (k : ℕ). l ++ hex_bytes (bytes r k (16 - (i + 1))))
    (sym (append-nil (hex 2 (get_or r (32 + i) 0))) ∙ ap (λ (y : ℕ). hex_bytes (y ∷ [])) (sym e)) further

pub no_bytes : (r : List ℕ) (at k : ℕ) → k ≡ 0 → hex_bytes (bytes r at k) ≡ []
unfolding hex_bytes
no_bytes r at k e = rw e

pub four : {a b c d x y z w : ℕ} → a ≡ x → b ≡ y → c ≡ z → d ≡ w → ◌≡◌ {A = List ℕ} (x ∷ y ∷ z ∷ w ∷ []) (a ∷ b ∷ c ∷ d ∷ [])
four p q s t = rw (p, q, s, t)

module _ (r : List ℕ) {k : ℕ} (e : k ≡ get_or r 49 0) where
  pub wide_digits : {high low : List ℕ} → wide k ≡ true → high_four r ≡ high → low_four r ≡ low → scalar_digits r ≡ hex_bytes high ++ hex_bytes low
  wide_digits w h l =
      ap (λ (t : Bool). cond t (hex_bytes (high_four r) ++ hex_bytes (low_four r)) (hex_bytes (low_four r))) (ap (λ (n : ℕ). wide n) (sym e) ∙ w)
      ∙ ap₂ (λ (x y : List ℕ). hex_bytes x ++ hex_bytes y) h l

  pub narrow_digits : {low : List ℕ} → wide k ≡ false → low_four r ≡ low → scalar_digits r ≡ hex_bytes low
  narrow_digits w l =
      ap (λ (t : Bool). cond t (hex_bytes (high_four r) ++ hex_bytes (low_four r)) (hex_bytes (low_four r))) (ap (λ (n : ℕ). wide n) (sym e) ∙ w)
      ∙ ap (λ (x : List ℕ). hex_bytes x) l

  pub left_as : {n : ℕ} → n ≡ get_or r 48 0
      → left_line r ≡ codes "  vector " ++ (hex_bytes (bytes r 32 16) ++ (kind_name k ++ (scalar_digits r ++ count_line " refused " n)))
  unfolding left_line
  left_as q = rw (e, q)
