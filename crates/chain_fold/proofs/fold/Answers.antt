-- `chain_fold::fold` meets its contract: a loop over the links. Assumes nothing.
use mathlib.Core.Path.{sym, subst⁻¹}
use Rattle.chain.specs.Definition.{OneShuffle}
use Rattle.chain.proofs.Judging.{unrefused}
use Rattle.chain.proofs.Bytes.{whole_more, whole_all}
use Rattle.chain.proofs.Theorems.{folds_into}
use Rattle.chain.proofs.Folding.{starts, goes_on, ends, kept}
use borrow.Author.Rules.{rules}
use Rattle.chain_fold.proofs.fold.Goals as goal

pub returns-in_err-judge-clause-out_after : goal.returns-in_err-judge-clause-out_after
returns-in_err-judge-clause-out_after c = kept _ _ _ c.from_residual.ensures.0

pub loop-k-init : goal.loop-k-init
loop-k-init c = record {
  folding = starts _;
  whole = tt;
}

pub loop-k-preserved : goal.loop-k-preserved
loop-k-preserved c =
    let loop = c.loop-k in
    let links = c.args.links.now in
    let legal = unrefused links (sym c.in_ok-judge.ensures) in record {
      folding =
          goes_on links loop.k loop.current loop.invariant.folding _ c.linked-next.result c.loop-k-test.true legal (search rules)
          c.linked-next.ensures.value;
      whole = whole_more links loop.k _ c.loop-k-test.true c.linked-next.ensures.link_len loop.invariant.whole;
    }

pub returns : goal.returns
returns c =
    let loop = c.loop-k in
    let links = c.args.links.now in
    let judged = sym c.in_ok-judge.ensures in
    let folds = ends links loop.k loop.current loop.invariant.folding (search rules) in
    record {
      value = sym judged;
      out_after = folds;
      one_shuffle = subst⁻¹ (OneShuffle links) folds (folds_into links (whole_all links loop.k (search rules) loop.invariant.whole) judged);
    }
