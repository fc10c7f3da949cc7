-- `chain::judge` meets its contract: a loop over the links. Assumes nothing.
use mathlib.Core.Path.{◌≡◌}
use lib.ListN.{drop}
use Rattle.chain.specs.Definition.{all_legal}
use Rattle.chain.proofs.judge.Given as goal

abbrev pub invariant-loop-link : goal.invariant-loop-link
invariant-loop-link l = all_legal (drop l.link-index l.links) ≡ all_legal l.links
