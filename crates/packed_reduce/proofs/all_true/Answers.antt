-- `packed_reduce::all_true` meets its contract: no top bit stands for a lane that is 0. Assumes nothing.
use mathlib.Core.Path.{sym, ◌∙◌}
use Rattle.packed_half.specs.Half.{half_unary, half_all_true}
use Rattle.packed_half.proofs.Zero.{all_true_is, flags}
use Rattle.packed_reduce.proofs.all_true.Goals as goal

pub returns : goal.returns
unfolding half_unary half_all_true
returns g c = all_true_is g.L.Lanes.LOW_BITS _ c.args.a _ (c.zeros.ensures ∙ sym (flags g.L.Lanes.LOW_BITS _ _))
