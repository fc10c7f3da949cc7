-- `program_recordings::mend_said` meets its contract. Assumes nothing.
use borrow.Author.Rules.{rules}
use native.Mathlib.Omega.{arith}
use mathlib.Core.Path.{refl}
use Rattle.std.proofs.lemmas.List.{length-map}
use Rattle.recording_mending_place.specs.Mended.{number_of as bit_number}
use borrow.Author.Tests.{ne_eqb}
use Rattle.standard_refusal.specs.Number.{number_of}
use Rattle.standard_refusal.proofs.Numbers.{not_0}
use Rattle.recording_mending.specs.Mended.{mending_of}
use Rattle.program_digits.specs.Codes.{codes}
use Rattle.program_digits.proofs.Puts.{then, filled}
use Rattle.program_recordings.specs.Lines.{mend_said}
use Rattle.program_recordings.proofs.Lengths.{mend_said_length}
use Rattle.program_recordings.proofs.mend_said.Goals as goal

pub returns-in-Ok : goal.returns-in-Ok
unfolding mend_said codes
returns-in-Ok c =
    let m = mending_of c.args.mending in
    filled (mend_said_length m (rw c.in-Ok.is (omega (arith, length-map c.in-Ok.mending.bits bit_number)))) (search rules) (rw c.in-Ok.is (search (rules, then)))

pub returns-in-Err : goal.returns-in-Err
unfolding mend_said codes
returns-in-Err c =
    let m = mending_of c.args.mending in
    filled (mend_said_length m (rw c.in-Err.is refl)) (search rules)
    (rw c.in-Err.is (simp (ne_eqb (number_of c.in-Err.refusal) 0 (not_0 c.in-Err.refusal)) (rw (← c.from.ensures) c.put_count.ensures)))
