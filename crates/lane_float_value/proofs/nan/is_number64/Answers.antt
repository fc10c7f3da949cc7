-- `lane_float_value::nan::is_number64` meets its contract. Assumes nothing.
use mathlib.Core.Path.{◌≡◌, refl, ap, ◌∙◌}
use mathlib.Core.Bool.{Bool, true, false, cond, not}
use Prim.Native.Nat.{ℕ}
use lib.Dec.{eqb}
use lib.Ieee.{binary64, nan_bits}
use Rattle.lane_float_value.proofs.nan.is_number64.Goals as goal

none : (n : Bool) → eqb (cond n 1 0) 0 ≡ not n
none true = refl
none false = refl

pub returns : goal.returns
returns c = c.clear64.ensures ∙ ap (λ (x : ℕ). eqb x 0) c.carry64.ensures ∙ none (nan_bits binary64 c.args.bits)
