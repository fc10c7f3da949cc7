-- Two records differ where what their steps left does. Assumes nothing.
use mathlib.Core.Path.{◌≡◌, refl, sym, ap, ◌∙◌}
use mathlib.Core.Bool.{Bool, true, false, cond}
use mathlib.Core.List.{List, [], ◌++◌}
use Prim.Native.Nat.{ℕ, ◌-◌}
use native.Mathlib.Omega.{arith}
use lib.ListN.{length, take, drop, length-drop}
use lib.Seq.{take_all}
use Rattle.recording_fields.specs.Definition.{same}
use Rattle.recording_fields.proofs.Words.{same_refl, same_sound}
use Rattle.program_digits.specs.Codes.{codes}
use Rattle.program_outcome.specs.Outcome.{left_line}
use Rattle.program_record.specs.Record.{difference}

whole : (l : List ℕ) → length l ≡ 64 → take (length l - 32) (drop 32 l) ≡ drop 32 l
whole l h = take_all (length l - 32) (drop 32 l) (simp length-drop (omega arith))

module _ (r d : List ℕ) (p : length r ≡ 64) (q : length d ≡ 64) where
  pub no_difference : take (length r - 32) (drop 32 r) ≡ take (length d - 32) (drop 32 d) → difference r d ≡ []
  no_difference h =
      let e : drop 32 r ≡ drop 32 d = sym (whole r p) ∙ h ∙ whole d q in
      ap (λ (t : Bool). cond t [] (codes "  the definition gives\n" ++ left_line d)) (ap (λ (l : List ℕ). same l (drop 32 d)) e ∙ same_refl (drop 32 d))

  pub some_difference : (take (length r - 32) (drop 32 r) ≡ take (length d - 32) (drop 32 d) → ⊥)
      → difference r d ≡ codes "  the definition gives\n" ++ left_line d
  some_difference ne = by (same (drop 32 r) (drop 32 d)) refl
    where
      by : (t : Bool) → same (drop 32 r) (drop 32 d) ≡ t
          → cond t [] (codes "  the definition gives\n" ++ left_line d) ≡ codes "  the definition gives\n" ++ left_line d
      by true e = absurd (ne (whole r p ∙ same_sound (drop 32 r) (drop 32 d) e ∙ sym (whole d q)))
      by false e = refl
