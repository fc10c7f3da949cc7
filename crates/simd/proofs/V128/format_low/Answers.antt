-- `simd::V128::format_low` meets its contract: the low lanes, a half for each. Assumes nothing.
use mathlib.Core.Path.{ap, ◌∙◌}
use mathlib.Core.List.{map}
use Rattle.standard.specs.Lanes.{low_half}
use Rattle.standard.specs.Vector.{convert_low}
use Rattle.standard.proofs.Halves.{joined_64}
use Rattle.simd.proofs.V128.format_low.Goals as goal

pub returns : goal.returns
unfolding convert_low
returns g c = λ h e. joined_64 _ _ (c.low-a.ensures h e ∙ ap (map h) (ap low_half c.lanes32.ensures))
