-- `simd::V128::narrow` meets its contract. Assumes nothing.
use Prim.Native.Nat.{ℕ}
use mathlib.Core.Path.{◌≡◌, subst}
use mathlib.Core.List.{map}
use Rattle.standard.specs.Lanes.{joined, lanes}
use Rattle.standard.proofs.Widths.{narrow_halves}
use Rattle.simd.specs.Number.{number}
use Rattle.simd.proofs.V128.narrow.Goals as goal

pub returns : goal.returns
returns g c = λ sx lt k.
    let w = g.M.Lane.width in
    narrow_halves w _ c.requires.halves.0 c.requires.halves.2 sx _ _
    (subst (λ (v : ℕ). c.narrowed.result ≡ joined w (map (sx v w) (lanes v (number c.args.self)))) c.requires.double (c.narrowed.ensures (sx _ _) lt k))
    (subst (λ (v : ℕ). c.narrowed-2.result ≡ joined w (map (sx v w) (lanes v (number c.args.high)))) c.requires.double (c.narrowed-2.ensures (sx _ _) lt k))
