-- `finder::apart` meets its contract. Assumes nothing.
use Prim.Native.Nat.{ℕ, ◌-◌}
use mathlib.Core.Path.{sym, ap, ◌∙◌}
use mathlib.Core.List.{List}
use native.Mathlib.Omega.{arith}
use Rattle.finder_windows.specs.Definition.{marker_bits, distance}
use Rattle.finder_windows.proofs.Bits.{binary_window}
use Rattle.finder.proofs.apart.Goals as goal

pub returns : goal.returns
returns c =
    let given = c.args in
    c.apart.ensures ∙ sym (ap (λ (l : List ℕ). distance l (marker_bits given.marker))
    (binary_window 64 given.k (32 - given.k) given.word (omega arith)))
