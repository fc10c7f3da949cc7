-- What an instruction of a family makes of its operands. One of another family, or of none, leaves the first vector as it is; with no vector among its
-- operands or for a result it gives 0.
use Rattle.std.specs.Prelude.{ℕ, cond, eqb}
use Rattle.std.proofs.Math.Option.{Option}
use Rattle.std.proofs.Math.Option as option
use Rattle.standard.specs.Refusal.{Answer, given, refused, at_lane}
use Rattle.standard.specs.Instruction.{Kind, kind_number, i32, Instruction, none, memory, const, shuffled, vector₁, vector₂, vector₃, shifted, tested, splatted}
use Rattle.standard.specs.Instruction.{extracted, replaced}

-- What is given, and otherwise a number, or a scalar of a kind and otherwise i32 0.
abbrev pub given_or : ℕ → Answer ℕ → ℕ
given_or x (given y) = y
given_or x (refused n) = x

abbrev pub of_kind : Kind → Answer ℕ → Kind × ℕ
of_kind k (given x) = (k, x)
of_kind k (refused n) = (i32, 0)

-- An instruction by families: its function in its own, and nothing in each other. Splat and replace have theirs only for the kind that they read.
pub record Families : Type 0 where
  pub unary : Option (ℕ → ℕ)
  pub binary : Option (ℕ → ℕ → ℕ)
  pub ternary : Option (ℕ → ℕ → ℕ → ℕ)
  pub shift : Option (ℕ → ℕ → ℕ)
  pub test : Option (ℕ → ℕ)
  pub splat : Kind → Option (ℕ → ℕ)
  pub extract : Option (ℕ → ℕ → Kind × ℕ)
  pub replace : Kind → Option (ℕ → ℕ → ℕ → ℕ)

abbrev for_kind : {F : Type 0} → Kind → F → Kind → Option F
for_kind k f held = cond (eqb (kind_number held) (kind_number k)) (option.some f) option.none

abbrev no_kind : {F : Type 0} → Kind → Option F
no_kind held = option.none

abbrev only : Option (ℕ → ℕ) → Option (ℕ → ℕ → ℕ) → Option (ℕ → ℕ → ℕ → ℕ) → Option (ℕ → ℕ → ℕ) → Option (ℕ → ℕ) → (Kind → Option (ℕ → ℕ))
    → Option (ℕ → ℕ → Kind × ℕ) → (Kind → Option (ℕ → ℕ → ℕ → ℕ)) → Families
only u b t s e p x r = record { unary = u; binary = b; ternary = t; shift = s; test = e; splat = p; extract = x; replace = r }

abbrev no_family : Families
no_family = only option.none option.none option.none option.none option.none no_kind option.none no_kind

abbrev pub families : Instruction → Families
families none = no_family
families memory = no_family
families const = no_family
families shuffled = no_family
families (vector₁ f) = only (option.some f) option.none option.none option.none option.none no_kind option.none no_kind
families (vector₂ f) = only option.none (option.some f) option.none option.none option.none no_kind option.none no_kind
families (vector₃ f) = only option.none option.none (option.some f) option.none option.none no_kind option.none no_kind
families (shifted f) = only option.none option.none option.none (option.some f) option.none no_kind option.none no_kind
families (tested f) = only option.none option.none option.none option.none (option.some f) no_kind option.none no_kind
families (splatted k f) = only option.none option.none option.none option.none option.none (for_kind k f) option.none no_kind
families (extracted k w f) =
    only option.none option.none option.none option.none option.none no_kind (option.some (λ x i. of_kind k (at_lane w i (f x i)))) no_kind
families (replaced k w f) =
    only option.none option.none option.none option.none option.none no_kind option.none (for_kind k (λ x i b. given_or x (at_lane w i (f x i b))))

abbrev pub or_else : {F : Type 0} → Option F → F → F
or_else option.none d = d
or_else (option.some f) d = f

abbrev pub as_unary : Instruction → ℕ → ℕ
as_unary i = or_else (families i).unary (λ x. x)

abbrev pub as_binary : Instruction → ℕ → ℕ → ℕ
as_binary i = or_else (families i).binary (λ x y. x)

abbrev pub as_ternary : Instruction → ℕ → ℕ → ℕ → ℕ
as_ternary i = or_else (families i).ternary (λ x y z. x)

abbrev pub as_shift : Instruction → ℕ → ℕ → ℕ
as_shift i = or_else (families i).shift (λ n x. x)

abbrev pub as_test : Instruction → ℕ → ℕ
as_test i = or_else (families i).test (λ x. 0)

-- With the kind of the scalar that is held.
abbrev pub as_splat : Kind → Instruction → ℕ → ℕ
as_splat held i = or_else ((families i).splat held) (λ b. 0)

abbrev pub as_extract : Instruction → ℕ → ℕ → Kind × ℕ
as_extract i = or_else (families i).extract (λ x n. (i32, 0))

abbrev pub as_replace : Kind → Instruction → ℕ → ℕ → ℕ → ℕ
as_replace held i = or_else ((families i).replace held) (λ x n b. x)
