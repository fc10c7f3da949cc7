-- `link_station::calculation::f32_of` meets its contract: the bits of what `from_bits` makes. Assumes nothing.
use Prim.Native.Nat.{ℕ}
use mathlib.Core.Path.{ap}
use Rattle.standard.specs.Instruction.{f32}
use Rattle.link_station.proofs.calculation.f32_of.Goals as goal

pub returns : goal.returns
returns c = ap (λ (n : ℕ). (f32, n)) c.from_bits.ensures
