-- `recording_mending_place::place` meets its contract. Assumes nothing.
use Rattle.std.proofs.Common.{sym, ◌∙◌, arith}
use borrow.Author.Tests.{eq-eqb, ne_eqb}
use Rattle.recording_mending_rules.proofs.Blocks.{stays, turns, fails}
use Rattle.recording_mending_place.proofs.place.Goals as goal

pub returns-then-b-ne512 : goal.returns-then-b-ne512
returns-then-b-ne512 c = rw (ne_eqb _ _ c.if-b-ne512.true)

pub returns-then-q-eq0 : goal.returns-then-q-eq0
returns-then-q-eq0 c =
    rw (eq-eqb _ _ c.if-b-ne512.false)
    (sym (stays c.args.b.now (record { long = c.if-b-ne512.false; bytes = λ i. (c.type_inv.b i).fits }) (sym c.check-q.ensures ∙ c.if-q-eq0.true)))

pub returns-in-Some : goal.returns-in-Some
returns-in-Some c =
    rw (eq-eqb _ _ c.if-b-ne512.false)
    (sym (turns c.args.b.now (record { long = c.if-b-ne512.false; bytes = λ i. (c.type_inv.b i).fits }) c.check-q.result c.in-Some.bit.number
    c.check-q.ensures c.if-q-eq0.false c.in-Some.ensures c.in-Some.bit.in_block))

pub returns-in-None : goal.returns-in-None
returns-in-None c =
    rw (eq-eqb _ _ c.if-b-ne512.false)
    (sym (fails c.args.b.now (record { long = c.if-b-ne512.false; bytes = λ i. (c.type_inv.b i).fits }) c.check-q.result 4096
    c.check-q.ensures c.if-q-eq0.false c.in-None.ensures (omega arith)))
