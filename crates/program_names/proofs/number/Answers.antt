-- `program_names::number` meets its contract. Assumes nothing.
use Rattle.program_digits.specs.Codes.{codes}
use Rattle.program_words.specs.Cut.{pieces}
use Rattle.program_names.specs.Names.{names, number}
use Rattle.program_names.proofs.number.Goals as goal

pub returns : goal.returns
unfolding number names codes pieces
returns c = c.find.ensures
