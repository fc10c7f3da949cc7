-- `program_recordings::replay` meets its contract. Assumes nothing.
use borrow.Author.Rules.{rules}
use Rattle.recording_compare.specs.Verdict.{answer_of}
use Rattle.program_digits.proofs.Puts.{filled}
use Rattle.program_recordings.proofs.Lengths.{replay_length}
use Rattle.program_recordings.proofs.replay.Goals as goal

pub returns : goal.returns
returns c = filled (replay_length (answer_of c.args.answer)) (search rules) c.put_answer.ensures
