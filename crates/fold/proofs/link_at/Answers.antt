-- `fold::link_at` meets its contract: a byte a turn. Assumes nothing.
use Prim.Native.Nat.{◌*◌}
use mathlib.Core.Path.{◌≡◌, refl, sym, ◌∙◌}
use native.Mathlib.Omega.{arith}
use lib.ListN.{length-set}
use lib.Seq.{take_all}
use Rattle.fold.proofs.Laws.{byte_more}
use borrow.Author.Rules.{rules}
use Rattle.fold.proofs.link_at.Goals as goal

pub loop-j-init : goal.loop-j-init
loop-j-init c = (search rules, (refl, refl))

pub loop-j-preserved : goal.loop-j-preserved
loop-j-preserved c =
    let at = c.loop-j in
    let args = c.args in
    (search rules, (simp length-set at.invariant.1.0, byte_more at.link args.bytes (17 * args.k) at.j (search rules) (search rules) at.invariant.1.1))

pub returns : goal.returns
returns c =
    let at = c.loop-j in
    let all : at.j ≡ 17 = omega arith in
    sym (take_all 17 at.link (omega arith)) ∙ (rw all at at.invariant.1.1)
