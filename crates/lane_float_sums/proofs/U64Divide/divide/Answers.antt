-- `u64::divide` meets the contract of `lane_float_sums::Divide`. Assumes nothing.
use mathlib.Core.Path.{ap, ap₂, ◌∙◌}
use lib.Ieee.{binary64, div, to_bits}
use Rattle.lane_float_sums.proofs.Quotient.{first, second, quotient}
use Rattle.lane_float_sums.proofs.U64Divide.divide.Goals as goal

pub number-requires : goal.number-requires
number-requires c = first binary64 c.args.self c.args.other c.ordered-numbers.ensures c.pick-x.ensures

pub number-requires-2 : goal.number-requires-2
number-requires-2 c = second binary64 c.args.self c.args.other c.ordered-numbers.ensures c.pick-y.ensures

pub returns : goal.returns
returns c =
    c.of.ensures ∙ ap (to_bits binary64) (ap₂ (div binary64) c.number.ensures c.number-2.ensures)
    ∙ quotient binary64 c.args.self c.args.other c.ordered-numbers.ensures c.pick-x.ensures c.pick-y.ensures
