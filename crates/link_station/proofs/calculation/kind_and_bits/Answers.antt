-- `link_station::calculation::kind_and_bits` meets its contract: the number of the kind, and the bits. Assumes nothing.
use mathlib.Core.Path.{ap, ap₂, ◌∙◌}
use Prim.Native.Nat.{ℕ}
use Rattle.standard.specs.Instruction.{kind_number}
use Rattle.link_station.proofs.calculation.kind_and_bits.Goals as goal

pub returns : goal.returns
returns c =
    ap₂ (λ (k b : ℕ). (k, b)) (c.number.ensures ∙ ap kind_number c.kind.ensures) c.bits.ensures
