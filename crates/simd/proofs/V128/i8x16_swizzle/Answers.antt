-- `simd::V128::i8x16_swizzle` meets its contract. Assumes nothing.
use mathlib.Core.Path.{refl, sym, ap, ap₂, ◌∙◌}
use mathlib.Core.List.{List, map}
use Prim.Native.Nat.{ℕ}
use lib.ListN.{get_or, take, replicate}
use lib.Seq.{take_at}
use Rattle.std.proofs.lemmas.List.{map-id}
use Rattle.standard.specs.Lanes.{joined, lanes}
use Rattle.standard.specs.Vector.{swizzle}
use Rattle.simd.specs.Number.{number}
use Rattle.simd.proofs.V128.i8x16_swizzle.Goals as goal

pub returns : goal.returns
unfolding swizzle
returns c =
    let a = c.args in
    c.join8.ensures
    ∙ ap (joined 8)
    (c.swizzled.ensures
    ∙ ap₂ (λ (t s : List ℕ). map (λ i. get_or t i 0) (take 16 s)) c.lanes8.ensures (sym (map-id c.places.result) ∙ c.places.ensures)
    ∙ ap (map (λ i. get_or (lanes 8 (number a.self)) i 0)) (take_at (lanes 8 (number a.s)) (replicate 48 0) 16 refl))
