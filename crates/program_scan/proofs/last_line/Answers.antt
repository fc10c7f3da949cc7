-- `program_scan::last_line` meets its contract. Assumes nothing.
use Prim.Native.Nat.{ℕ, ◌≤◌}
use native.Mathlib.Omega.{arith}
use borrow.Author.Rules.{rules}
use lib.ListN.{length, length-append}
use Rattle.program_digits.specs.Codes.{codes}
use Rattle.program_digits.proofs.Laws.{decimal_length}
use Rattle.program_digits.proofs.Puts.{filled}
use Rattle.program_scan.specs.Lines.{last_line}
use Rattle.program_scan.proofs.last_line.Goals as goal

last_length : (n : ℕ) → length (last_line n) ≤ 32
unfolding codes
last_length n = simp length-append (omega (arith, decimal_length n))

pub returns : goal.returns
unfolding codes
returns c = filled (last_length c.args.refused) (search rules) c.put_count.ensures
