-- `chain_vector::apply` meets its contract: a loop over the links. Assumes nothing.
use mathlib.Core.Path.{◌≡◌}
use lib.ListN.{drop}
use Rattle.simd.specs.Number.{number}
use Rattle.chain.specs.Definition.{chained}
use Rattle.chain_vector.proofs.apply.Given as goal

abbrev pub invariant-loop-link : goal.invariant-loop-link
invariant-loop-link l =
    chained (drop l.link-index l.links) (number l.a) (number l.b) (number l.current) ≡ chained l.links (number l.a) (number l.b) (number l.a)
