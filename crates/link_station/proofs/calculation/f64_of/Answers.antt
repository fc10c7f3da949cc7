-- `link_station::calculation::f64_of` meets its contract: the bits of what `from_bits` makes. Assumes nothing.
use Prim.Native.Nat.{ℕ}
use mathlib.Core.Path.{ap}
use Rattle.standard.specs.Instruction.{f64}
use Rattle.link_station.proofs.calculation.f64_of.Goals as goal

pub returns : goal.returns
returns c = ap (λ (n : ℕ). (f64, n)) c.from_bits.ensures
