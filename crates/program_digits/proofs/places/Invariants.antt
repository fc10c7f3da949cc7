-- `program_digits::places` meets its contract: what was counted, with what is still to be counted, is the whole. Assumes nothing.
use Prim.Native.Nat.{suc, ◌+◌, ◌-◌, ◌^◌, ◌≤◌, ◌<◌}
use mathlib.Core.Path.{◌≡◌}
use Rattle.program_digits.specs.Digits.{places}
use Rattle.program_digits.proofs.places.Given as goal

abbrev pub invariant-loop-rest : goal.invariant-loop-rest
invariant-loop-rest l = (1 ≤ l.k) × (l.k ≤ 20) × (l.rest < 10 ^ (21 - l.k)) × (suc (places 19 l.n) ≡ l.k + places (20 - l.k) l.rest)

abbrev pub decreases-loop-rest : goal.decreases-loop-rest
decreases-loop-rest l = l.rest
