-- `program_line::read_line` meets its contract. Assumes nothing.
use Prim.Native.Nat.{ℕ}
use native.Mathlib.Omega.{arith}
use mathlib.Core.Path.{sym, ap, ◌∙◌}
use mathlib.Core.List.{List}
use lib.ListN.{take}
use lib.Seq.{length-take-le}
use Rattle.program_words.specs.Cut.{skip}
use Rattle.program_words.proofs.Scans.{statement_short, statement_is}
use Rattle.program_line.specs.Line.{stated, line}
use Rattle.program_line.proofs.Lines.{read_as}
use Rattle.program_line.proofs.read_line.Goals as goal

pub slice_bounds-stated-end : goal.slice_bounds-stated-end
slice_bounds-stated-end c =
    let text = c.args.line.now in
    sym (length-take-le _ _ (omega (arith, statement_short text, c.statement-end.ensures)))

pub returns : goal.returns
unfolding line
returns c =
    let text = c.args.line.now in
    let is = ap (λ (n : ℕ). take n text) c.statement-end.ensures ∙ statement_is text in
    read_as (ap (λ (cs : List ℕ). stated (skip cs)) is) c.stated.ensures
