-- `array_reorder::swizzled` meets its contract. Assumes nothing.
use borrow.Author.Rules.{rules}
use mathlib.Core.Path.{ap, ap₂, ◌∙◌}
use mathlib.Core.List.{List, map}
use Prim.Native.Nat.{ℕ, ◌%◌}
use lib.ListN.{get_or, take}
use Rattle.standard.specs.Integer.{imin_u}
use Rattle.standard.proofs.Rearrange.{capped_indices, take_map}
use Rattle.array_reorder.proofs.swizzled.Goals as goal

pub returns : goal.returns
returns c =
    c.picked.ensures
    ∙ ap₂ (λ (t s : List ℕ). map (λ i. get_or t (i % 32) 0) s) c.beside.ensures
    (c.first.ensures ∙ ap (take 16) c.all_capped.ensures
    ∙ take_map (λ i. imin_u 8 i 16) 16 c.args.s)
    ∙ capped_indices c.args.t (search rules) (take 16 c.args.s)
