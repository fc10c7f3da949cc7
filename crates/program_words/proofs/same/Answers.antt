-- `program_words::same` meets its contract. Assumes nothing.
use mathlib.Core.Path.{sym}
use Rattle.std.proofs.lemmas.Slice.Eq.{slice_eq-Decides}
use Rattle.std.proofs.lemmas.Bool.Decides.{Decides-eqb}
use Rattle.program_words.proofs.Pieces.{sames}
use Rattle.program_words.proofs.same.Goals as goal

pub returns : goal.returns
returns c = sym (sames _ _ _ (slice_eq-Decides Decides-eqb c.args.a.now c.args.b.now _ c.eq.ensures))
