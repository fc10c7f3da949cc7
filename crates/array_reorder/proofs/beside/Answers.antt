-- `array_reorder::beside` meets its contract. Assumes nothing.
use borrow.Author.Rules.{rules}
use mathlib.Core.Path.{refl, ap, ◌∙◌}
use mathlib.Core.List.{List}
use Prim.Native.Nat.{ℕ}
use lib.ListN.{replicate}
use lib.Seq.{paste}
use Rattle.standard.proofs.Rearrange.{beside_is}
use Rattle.array_reorder.proofs.beside.Goals as goal

pub returns : goal.returns
returns c =
    c.put-2.ensures
    ∙ ap (λ (t : List ℕ). paste t 16 c.args.b 16) c.put.ensures
    ∙ beside_is (replicate 32 0) c.args.a c.args.b refl (search rules) (search rules)
