-- `program_recordings::record_said` meets its contract. Assumes nothing.
use borrow.Author.Rules.{rules}
use native.Mathlib.Omega.{arith}
use mathlib.Core.Path.{refl}
use Rattle.recording_rules.specs.Recorded.{recorded_of}
use Rattle.program_digits.specs.Codes.{codes}
use Rattle.program_digits.proofs.Puts.{filled}
use Rattle.program_recordings.specs.Lines.{record_said}
use Rattle.program_recordings.proofs.Lengths.{record_said_length}
use Rattle.program_recordings.proofs.record_said.Goals as goal

pub returns-in-Ok : goal.returns-in-Ok
unfolding record_said codes
returns-in-Ok c = rw c.in-Ok.is (record { count = refl; is = refl; room = omega arith; part = refl })

pub returns-in-Err : goal.returns-in-Err
returns-in-Err c = filled (record_said_length (recorded_of c.args.recorded)) (search rules) (rw c.in-Err.is c.put_error.ensures)
