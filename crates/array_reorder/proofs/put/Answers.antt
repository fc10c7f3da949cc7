-- `array_reorder::put` meets its contract: a loop that writes one byte a turn. Assumes nothing.
use borrow.Author.Rules.{rules}
use mathlib.Core.Path.{◌≡◌, ap, ◌∙◌}
use native.Mathlib.Numerals.{add-one}
use native.Mathlib.Omega.{arith}
use lib.ListN.{length}
use lib.Seq.{paste, paste-zero, paste-suc}
use Rattle.array_reorder.proofs.put.Goals as goal

pub loop-i-init : goal.loop-i-init
loop-i-init c = (search rules, paste-zero c.args.t c.args.at c.args.a)

pub loop-i-preserved : goal.loop-i-preserved
loop-i-preserved c =
    let long : length c.args.t ≡ 32 = search rules in (
      search rules,
      rw (add-one, c.loop-i.invariant.1)
          (paste-suc c.args.t c.args.at c.args.a c.loop-i.i 0 (omega arith)
          (search rules)),
    )

pub returns : goal.returns
returns c =
    let end : c.loop-i.i ≡ 16 = omega arith in
    c.loop-i.invariant.1 ∙ ap (paste c.args.t c.args.at c.args.a) end
