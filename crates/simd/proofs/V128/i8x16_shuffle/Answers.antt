-- `simd::V128::i8x16_shuffle` meets its contract. Assumes nothing.
use mathlib.Core.Path.{sym, ap, ◌∙◌}
use Rattle.standard.specs.Lanes.{joined}
use Rattle.standard.specs.Refusal.{given}
use Rattle.standard.proofs.Rearrange.{shuffle_is}
use Rattle.simd.proofs.V128.i8x16_shuffle.Goals as goal

pub returns-then-all_legal : goal.returns-then-all_legal
returns-then-all_legal c =
    let legal-s = sym c.all_legal.ensures ∙ c.if-all_legal.true in
    rw legal-s
    (ap given
    (c.join8.ensures ∙ ap (joined 8) c.picked.ensures
    ∙ shuffle_is c.args.s _ _ legal-s c.beside.ensures
    c.lanes8.ensures c.lanes8-then-all_legal.ensures))

pub returns-else-all_legal : goal.returns-else-all_legal
returns-else-all_legal c = rw (sym c.all_legal.ensures ∙ c.if-all_legal.false)
