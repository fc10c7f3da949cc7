-- What a shape asks is what its instruction asks. Assumes nothing.
use mathlib.Core.Path.{◌≡◌, refl}
use Rattle.standard.specs.Instruction.{Kind, i32, i64, f32, f64, Instruction, none, memory, const, shuffled, vector₁, vector₂, vector₃, shifted, tested}
use Rattle.standard.specs.Instruction.{splatted, extracted, replaced}
use Rattle.calculator_rules.specs.Definition.{profile}
use Rattle.calculator_rules.specs.Shape.{the_kind, as_kind, shape, profile_of}

kind_back : (k : Kind) → the_kind (as_kind k) ≡ k
kind_back i32 = refl
kind_back i64 = refl
kind_back f32 = refl
kind_back f64 = refl

pub profile_kept : (i : Instruction) → profile_of (shape i) ≡ profile i
profile_kept none = refl
profile_kept memory = refl
profile_kept const = refl
profile_kept shuffled = refl
profile_kept (vector₁ f) = refl
profile_kept (vector₂ f) = refl
profile_kept (vector₃ f) = refl
profile_kept (shifted f) = refl
profile_kept (tested f) = refl
profile_kept (splatted k f) = rw kind_back
profile_kept (extracted k w f) = refl
profile_kept (replaced k w f) = rw kind_back
