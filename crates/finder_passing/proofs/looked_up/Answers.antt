-- `finder_passing::looked_up` meets its contract. Assumes nothing.
use Rattle.std.proofs.Common.{refl, arith}
use Rattle.finder_passing.proofs.looked_up.Goals as goal

pub overflow_cast-result : goal.overflow_cast-result
overflow_cast-result c = omega (arith, c.type_inv.buffer c.args.i)

pub overflow_add-result : goal.overflow_add-result
overflow_add-result c = record { fits = omega (arith, c.type_inv.buffer c.args.i) }

pub offset_bounds-table-from : goal.offset_bounds-table-from
offset_bounds-table-from c = record { fits = omega (arith, c.type_inv.buffer c.args.i) }

pub bounds-table-from : goal.bounds-table-from
bounds-table-from c = omega (arith, c.type_inv.buffer c.args.i)

pub returns : goal.returns
returns c = (omega (arith, c.type_inv.buffer c.args.i), refl)
