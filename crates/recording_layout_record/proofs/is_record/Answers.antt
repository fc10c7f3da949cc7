-- `recording_layout_record::is_record` meets its contract. Assumes nothing.
use mathlib.Core.Path.{sym, ap, ◌∙◌}
use mathlib.Core.Bool.{Bool, ◌&&◌}
use Prim.Native.Nat.{ℕ}
use lib.Dec.{eqb}
use borrow.Author.Tests.{ne_eqb}
use Rattle.recording_layout.specs.Definition.{record_laid}
use Rattle.recording_layout_record.proofs.is_record.Goals as goal

pub returns-then-r-ne64 : goal.returns-then-r-ne64
returns-then-r-ne64 c =
    let a = c.args in
    sym (ap (λ (t : Bool). t && record_laid a.is_last a.r.now) (ne_eqb _ _ c.if-r-ne64.true))

pub returns : goal.returns
returns c =
    let a = c.args in
    c.is_laid.ensures ∙ ap (λ (n : ℕ). eqb n 64 && record_laid a.is_last a.r.now) (sym c.if-r-ne64.false)
