-- `lane_float_value::nan::ordered64` meets its contract. Assumes nothing.
use mathlib.Core.Path.{◌≡◌, refl, ap, ap₂, ◌∙◌}
use mathlib.Core.Bool.{Bool, true, false, cond, not, ◌||◌}
use Prim.Native.Nat.{ℕ}
use lib.Bits.{bit_or, or_shr}
use lib.Dec.{eqb}
use lib.Ieee.{binary64, nan_bits}
use Rattle.lane_float_value.proofs.nan.ordered64.Goals as goal

neither : (s t : Bool) → eqb (bit_or (cond s 1 0) (cond t 1 0)) 0 ≡ not (s || t)
neither true true = refl
neither true false = refl
neither false true = refl
neither false false = refl

pub returns : goal.returns
returns c =
    c.clear64.ensures
    ∙ ap (λ (x : ℕ). eqb x 0) (or_shr c.carry64.result c.carry_signed64.result 63
    ∙ ap₂ bit_or c.carry64.ensures c.carry_signed64.ensures)
    ∙ neither (nan_bits binary64 c.args.a) (nan_bits binary64 c.args.b)
