-- The shape of an instruction, and what a kind and a shape of the code stand for.
use Rattle.std.specs.Prelude.{◌/◌, true, false, [], ◌∷◌}
use Rattle.standard.specs.Instruction.{Kind, i32, i64, f32, f64, Instruction, none, memory, const, shuffled, vector₁, vector₂, vector₃, shifted, tested}
use Rattle.standard.specs.Instruction.{splatted, extracted, replaced}
use Rattle.calculator_rules.specs.Definition.{Profile, from_vectors, no_step, profile}
use Rattle.calculator_rules.specs.declared.shape.Kind as code
use Rattle.calculator_rules.specs.declared.shape.Shape.{Shape}

abbrev pub the_kind : code.Kind → Kind
the_kind code.Kind.I32 = i32
the_kind code.Kind.I64 = i64
the_kind code.Kind.F32 = f32
the_kind code.Kind.F64 = f64

abbrev pub as_kind : Kind → code.Kind
as_kind i32 = code.Kind.I32
as_kind i64 = code.Kind.I64
as_kind f32 = code.Kind.F32
as_kind f64 = code.Kind.F64

abbrev pub shape : Instruction → Shape
shape none = Shape.None
shape memory = Shape.None
shape const = Shape.Constant
shape shuffled = Shape.Shuffle
shape (vector₁ f) = Shape.Unary
shape (vector₂ f) = Shape.Binary
shape (vector₃ f) = Shape.Ternary
shape (shifted f) = Shape.Shift
shape (tested f) = Shape.Test
shape (splatted k f) = Shape.Splat (as_kind k)
shape (extracted k w f) = Shape.Extract (128 / w)
shape (replaced k w f) = Shape.Replace (128 / w) (as_kind k)

-- What the refusals ask of a step of a shape.
abbrev pub profile_of : Shape → Profile
profile_of Shape.None = no_step
profile_of Shape.Constant = from_vectors 0
profile_of Shape.Shuffle = profile shuffled
profile_of Shape.Unary = from_vectors 1
profile_of Shape.Binary = from_vectors 2
profile_of Shape.Ternary = from_vectors 3
profile_of Shape.Shift = profile (shifted (λ n x. x))
profile_of Shape.Test = profile (tested (λ x. x))
profile_of (Shape.Splat k) = profile (splatted (the_kind k) (λ x. x))
profile_of (Shape.Extract n) = record { has_step = true; operands = 1; gives_vector = false; lane_count = n; shuffles = false; reads = [] }
profile_of (Shape.Replace n k) =
    record { has_step = true; operands = 1; gives_vector = true; lane_count = n; shuffles = false; reads = the_kind k ∷ [] }
