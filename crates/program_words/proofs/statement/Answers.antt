-- `program_words::statement` meets its contract: what is still to be read answers for the whole. Assumes nothing.
use borrow.Author.Rules.{rules}
use native.Mathlib.Nat.{zero-add}
use native.Mathlib.Omega.{arith}
use mathlib.Core.Path.{◌≡◌, sym, ◌∙◌}
use lib.ListN.{length}
use Rattle.program_words.proofs.Counts.{tail_is}
use Rattle.program_words.proofs.Scans.{ends, opens_here, goes_on}
use Rattle.program_words.proofs.statement.Goals as goal

pub loop-i-init : goal.loop-i-init
loop-i-init c = sym (zero-add _)

pub returns-then-opens : goal.returns-then-opens
returns-then-opens c =
    let at = c.loop-i in
    let here = rw (tail_is c.args.line.now at.i) at (sym c.opens.ensures ∙ c.if-opens.true) in
    opens_here _ at.i (search rules) here ∙ sym at.invariant

pub loop-i-preserved : goal.loop-i-preserved
loop-i-preserved c =
    let at = c.loop-i in
    let here = rw (tail_is c.args.line.now at.i) at (sym c.opens.ensures ∙ c.if-opens.false) in
    at.invariant ∙ goes_on _ at.i (search rules) here

pub returns : goal.returns
returns c =
    let at = c.loop-i in
    let all : length c.args.line.now ≡ at.i = omega arith in
    rw all (ends _ at.i (search rules) ∙ sym at.invariant)
