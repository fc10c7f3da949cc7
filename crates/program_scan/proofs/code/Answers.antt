-- `program_scan::code` meets its contract. Assumes nothing.
use Prim.Native.Nat.{ℕ, ◌+◌, ◌*◌}
use mathlib.Core.Path.{ap, ◌∙◌}
use native.Mathlib.Omega.{arith}
use Rattle.program_scan.proofs.code.Goals as goal
use Rattle.program_scan.proofs.code.Goals.{then-first-tolerance, else-first-tolerance}

pub overflow_add-result-2 : goal.overflow_add-result-2
overflow_add-result-2 c = elim c.if-first-tolerance.branch [
  | then-first-tolerance w ↦ record { fits = omega (arith, w.more-is) }
  | else-first-tolerance w ↦ record { fits = omega (arith, w.more-is) }
]

pub returns : goal.returns
returns c =
    let given = c.args in
    let sum = given.first + 65536 * given.second in
    elim c.if-first-tolerance.branch [
      | then-first-tolerance w ↦ ap (λ (k : ℕ). sum + k) w.more-is ∙ rw w.if-first-tolerance.true
      | else-first-tolerance w ↦ ap (λ (k : ℕ). sum + k) w.more-is ∙ rw w.if-first-tolerance.false
    ]
