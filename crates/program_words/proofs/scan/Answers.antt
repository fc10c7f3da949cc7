-- `program_words::scan` meets its contract: what is still to be scanned answers for the whole. Assumes nothing.
use borrow.Author.Rules.{rules}
use native.Mathlib.Omega.{arith}
use mathlib.Core.Path.{◌≡◌, sym, ◌∙◌, ap}
use Prim.Native.Nat.{ℕ, ◌+◌, ◌≤◌}
use lib.ListN.{length, length-drop}
use Rattle.program_words.specs.Stops.{stops}
use Rattle.program_words.proofs.Counts.{tail_is}
use Rattle.program_words.proofs.Scans.{at_end, at_stop, at_other}
use Rattle.program_words.proofs.scan.Goals as goal

pub returns-then-from-text-clause-place : goal.returns-then-from-text-clause-place
returns-then-from-text-clause-place c =
    let past : length c.args.text.now ≤ c.args.from = omega arith in
    at_end (stops c.args.what) c.args.text.now c.args.from past

pub returns-then-stops-clause-place : goal.returns-then-stops-clause-place
returns-then-stops-clause-place c =
    let at = c.loop-i in
    let here = at_stop (stops c.args.what) _ at.i (search rules) (sym c.stops.ensures ∙ c.if-stops.true) ∙ sym at.invariant in
    ap (λ (n : ℕ). c.args.from + n) (rw (tail_is c.args.text.now c.args.from) at here)

pub loop-i-preserved : goal.loop-i-preserved
loop-i-preserved c =
    let at = c.loop-i in
    at.invariant ∙ at_other (stops c.args.what) _ at.i (search rules) (sym c.stops.ensures ∙ c.if-stops.false)

pub returns-clause-place : goal.returns-clause-place
returns-clause-place c =
    let at = c.loop-i in
    let tail = tail_is c.args.text.now c.args.from in
    let here = at_end (stops c.args.what) _ at.i (search rules) ∙ sym at.invariant in
    let all : length c.args.text.now ≡ c.args.from + at.i = omega (arith, ap length tail, length-drop c.args.from c.args.text.now) in
    all ∙ ap (λ (n : ℕ). c.args.from + n) (rw tail at here)
