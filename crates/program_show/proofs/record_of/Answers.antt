-- `program_show::record_of` meets its contract. Assumes nothing.
use mathlib.Core.Path.{refl, ◌∙◌}
use native.Mathlib.Omega.{arith}
use lib.ListN.{replicate}
use Rattle.program_show.proofs.Records.{over}
use Rattle.program_show.proofs.record_of.Goals as goal

pub returns : goal.returns
returns c =
    c.put.ensures ∙ over (replicate 64 0) c.args.s.now _ refl
    (omega (arith, c.requires))
