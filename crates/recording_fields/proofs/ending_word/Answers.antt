-- `recording_fields::ending_word` meets its contract. Assumes nothing.
use borrow.Author.Rules.{rules}
use Rattle.recording_fields.proofs.Words.{two_bytes}
use Rattle.recording_fields.proofs.ending_word.Goals as goal

pub returns : goal.returns
returns c = two_bytes c.args.refused c.args.kind (search rules) (search rules)
