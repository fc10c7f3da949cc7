-- `program_scan::carry` meets its contract. Assumes nothing.
use native.Mathlib.Omega.{arith}
use Prim.Native.Nat.{◌-◌, ◌/◌}
use mathlib.Core.Path.{◌∙◌}
use lib.ListN.{length-set}
use lib.Seq.{take-set-le}
use Rattle.program_scan.proofs.Counting.{view, tenth_small, no_carry, carried, behind}
use Rattle.program_scan.proofs.+carry.Goals as goal

pub returns-then-digit-lt57-clause-counted_on : goal.returns-then-digit-lt57-clause-counted_on
returns-then-digit-lt57-clause-counted_on t c =
    let given = c.args in
    λ pre m q nine small e r.
    no_carry given.text.now pre given.end m q (omega arith) (omega arith)
    (view given.text.now pre given.end m q (omega arith) (omega arith) nine e) small (omega arith)

pub returns-clause-text_unchanged : goal.returns-clause-text_unchanged
returns-clause-text_unchanged t c = behind c.args.text.now c.carry.new.text c.args.end (omega arith) c.carry.ensures.text_unchanged

pub returns-clause-counted_on : goal.returns-clause-counted_on
returns-clause-counted_on t c =
    let given = c.args in
    let later = c.carry in
    λ pre m q nine small e r.
    let v = view given.text.now pre given.end m q (omega arith) (omega arith) nine e in
    carried given.text.now pre given.end m q (omega arith) (omega arith) v small later.new.text (λ h. omega arith)
    (later.auto.text ∙ length-set given.text.now (given.end - 1) 48) later.ensures.text_unchanged
    (later.ensures.counted_on pre v.fewer (q / 10) nine (tenth_small given.text.now pre given.end m q (omega arith) (omega arith) v small)
    (take-set-le (given.end - 1) given.text.now (given.end - 1) 48 (omega arith) ∙ v.front) r)
