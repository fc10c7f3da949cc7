-- `check_rows::differs` is safe and ends. Assumes nothing.
use Rattle.std.proofs.Common.{arith, length-take}
use Rattle.check_rows.proofs.differs.Goals as goal

pub slice_bounds-over_rows-end : goal.slice_bounds-over_rows-end
slice_bounds-over_rows-end c = omega (
  arith,
  length-take c.at_most_80-n.result
      c.row-was.result,
  c.row-was.type_inv,
  c.at_most_80-n.ensures,
)

pub slice_bounds-over_rows-end-2 : goal.slice_bounds-over_rows-end-2
slice_bounds-over_rows-end-2 c = omega (
  arith,
  length-take c.at_most_80-m.result
      c.row-second.result,
  c.row-second.type_inv,
  c.at_most_80-m.ensures,
)
