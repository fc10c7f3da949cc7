-- `recording_layout_judge::count_records` meets its contract. Assumes nothing.
use native.Mathlib.Omega.{arith}
use Rattle.recording_layout_judge.proofs.count_records.Goals as goal

pub overflow_cast-result : goal.overflow_cast-result
overflow_cast-result c = omega (arith, c.type_inv.file 2)

pub overflow_add-result : goal.overflow_add-result
overflow_add-result c = omega (arith, c.type_inv.file 2)
