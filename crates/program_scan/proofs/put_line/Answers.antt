-- `program_scan::put_line` meets its contract. Assumes nothing.
use Prim.Native.Nat.{ℕ, ◌+◌}
use mathlib.Core.Path.{ap, ◌∙◌}
use mathlib.Core.List.{List}
use native.Mathlib.Omega.{arith}
use lib.ListN.{drop}
use lib.Seq.{paste}
use Rattle.program_scan.proofs.Ink.{line_put}
use Rattle.program_scan.proofs.put_line.Goals as goal

pub returns : goal.returns
returns c =
    let given = c.args in
    let pre = c.requires in
    let few = pre.digits_bound in
    let two = c.copy-2 in
    let three = c.put_word in
    let four = c.put_word-2 in
    let five = c.put_word-3 in record {
      line_put = line_put given.block.now given.text.now two.new.block three.new.block four.new.block five.new.block given.pen.used
          given.pen.digits given.pen.tail given.code few pre.in_bounds
          pre.used_in_bounds (two.ensures ∙ ap (λ (l : List ℕ). paste l (given.pen.used + given.pen.digits) (drop given.pen.digits given.text.now) 8)
          c.copy.ensures) three.ensures
          four.ensures five.ensures;
      upper_bound = omega arith;
    }
