-- `chain_fold::fold` meets its contract: a loop over the links. Assumes nothing.
use lib.ListN.{take}
use Rattle.chain.proofs.Bytes.{Whole}
use Rattle.chain.proofs.Folding.{Folding}
use Rattle.chain_fold.proofs.fold.Given as goal

abbrev pub invariant-loop-k : goal.invariant-loop-k
invariant-loop-k l = record {
  folding : Folding l.links l.k l.current;
  whole : Whole (take l.k l.links);
}
