-- `row_halves::combine` meets its contract: a loop over the halves. Assumes nothing.
use mathlib.Core.Path.{refl, sym}
use borrow.Author.Rules.{rules}
use Rattle.std.proofs.Common.{arith, ◌≡◌, length, slice_index_or, Fits, w64}
use Rattle.row_halves.proofs.Pairs.{fits, turned, all_turned, kept}
use Rattle.row_halves.proofs.combine.Goals as goal

pub bounds-second-i : goal.bounds-second-i
bounds-second-i g c = let same : length c.args.first.now ≡ length c.args.second.now = (fits _ _ (sym c.in_ok-judge.ensures)).0 in omega (arith, same, c.loop-i-test.true)

pub returns-in_err-judge-clause-first_after : goal.returns-in_err-judge-clause-first_after
returns-in_err-judge-clause-first_after g c = λ whole half by each. kept _ _ _ c.from_residual.ensures.0

pub loop-i-init : goal.loop-i-init
loop-i-init g c = λ half each. (search rules, (refl, (sym (fits _ _ (sym c.in_ok-judge.ensures)).0, refl)))

pub loop-i-preserved : goal.loop-i-preserved
loop-i-preserved g c =
    λ half each.
    let loop = c.loop-i in
    let fits_first : Fits w64 (slice_index_or loop.first loop.i 0) = search rules in
    let fits_second = c.type_inv.second loop.i in
    turned half _ _ loop.first loop.i c.f.result (loop.invariant half each) (search rules) fits_first fits_second c.f.type_inv
    (each _ _ _ fits_first.fits fits_second.fits c.f.ensures)

pub returns-clause-first_after : goal.returns-clause-first_after
returns-clause-first_after g c =
    λ whole half by each.
    all_turned whole half by _ _ _ c.loop-i.i (fits _ _ (sym c.in_ok-judge.ensures)).1 (search rules) (c.loop-i.invariant half each)
