-- `simd::V128::format_zero` meets its contract: both halves, and zeros above. Assumes nothing.
use borrow.Author.Rules.{rules}
use mathlib.Core.Path.{refl, sym, ap, ◌∙◌}
use mathlib.Core.List.{List, [], ◌∷◌, ◌++◌, map}
use Prim.Native.Nat.{ℕ}
use Rattle.standard.specs.Lanes.{joined}
use Rattle.standard.specs.Vector.{convert_zero}
use Rattle.standard.proofs.Halves.{lanes_64, joined_64, joined_halves}
use Rattle.simd.proofs.V128.format_zero.Goals as goal

pub returns : goal.returns
unfolding convert_zero
returns g c = λ h e.
    let lo : ℕ = c.args.self.lo in
    let hi : ℕ = c.args.self.hi in
    joined_64 _ _ (c.zero-a.ensures h e)
    ∙ sym (joined_halves 32 2 refl (map h (lo ∷ hi ∷ [])) (0 ∷ 0 ∷ []) refl)
    ∙ ap (λ (ds : List ℕ). joined 32 (map h ds ++ 0 ∷ 0 ∷ [])) (sym (lanes_64 lo hi (search rules) (search rules)))
