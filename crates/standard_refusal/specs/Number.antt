-- The number of a refusal (document 01, the table "No., Given exactly when, Returns and leaves"; document 02, in the orders), and what a result of the code
-- stands for: what an operation gives, or the number of its refusal.
use Rattle.std.specs.Prelude.{ℕ, Result, Ok, Err}
use Rattle.standard.specs.Refusal.{Answer, given, refused}
use Rattle.standard_refusal.specs.declared.Refusal.{Refusal}

abbrev pub number_of : Refusal → ℕ
number_of Refusal.List = 1
number_of Refusal.Operation = 2
number_of Refusal.Register = 3
number_of Refusal.Lane = 4
number_of Refusal.Index = 5
number_of Refusal.Kind = 6
number_of Refusal.Past = 7
number_of Refusal.Tolerance = 8
number_of Refusal.Frame = 9
number_of Refusal.Buffer = 10
number_of Refusal.Nowhere = 11
number_of Refusal.Rows = 12
number_of Refusal.Blocks = 13
number_of Refusal.Check = 14
number_of Refusal.Layout = 15
number_of Refusal.Output = 16
number_of Refusal.Limit = 17
number_of Refusal.Links = 18
number_of Refusal.Place = 19

-- What a result stands for, by what its value does.
abbrev pub answer_of : {A : Type 0} {B : Type 0} → (A → B) → Result A Refusal → Answer B
answer_of view (Ok x) = given (view x)
answer_of view (Err refusal) = refused (number_of refusal)

-- The number of a refusal, 0 for none.
abbrev pub code_of : {A : Type 0} → Result A Refusal → ℕ
code_of (Ok x) = 0
code_of (Err refusal) = number_of refusal
