-- `program_names::put_name` meets its contract. Assumes nothing.
use Rattle.program_digits.specs.Codes.{codes}
use Rattle.program_words.specs.Cut.{pieces}
use Rattle.program_names.specs.Names.{names, name}
use Rattle.program_names.proofs.put_name.Goals as goal

pub returns : goal.returns
unfolding name names codes pieces
returns c = c.put_line.ensures
