-- What of a step its line has: the operation, the fields that the operation uses, and the mark.
use Rattle.std.specs.Prelude.{ℕ, zero, suc, cond, List, eqb, get_or, set}
use Rattle.calculator_rules.specs.Definition.{operation}
use Rattle.program_forms.specs.Forms.{Form, form}
use Rattle.program_line.specs.Line.{of_operation}

-- n bytes of s from a place on, in the place of those of t
unfoldable pub copied : ℕ → ℕ → List ℕ → List ℕ → List ℕ
copied zero p s t = t
copied (suc n) p s t = copied n (suc p) s (set t p (get_or s p 0))

abbrev pub marked : ℕ → List ℕ → List ℕ
marked m t = cond (eqb m 0) t (set t 7 m)

abbrev pub fields_of : Form → List ℕ → List ℕ → List ℕ
fields_of f s t = copied f.bytes 16 s (copied f.lanes 6 s (copied f.registers f.first s t))

-- the step with all other bytes 0
unfoldable pub used : List ℕ → List ℕ
used s = marked (get_or s 7 0) (fields_of (form (operation s)) s (of_operation (operation s)))
