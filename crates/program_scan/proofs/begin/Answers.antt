-- `program_scan::begin` meets its contract. Assumes nothing.
use mathlib.Core.Path.{refl}
use Rattle.program_scan.proofs.begin.Goals as goal

pub returns : goal.returns
returns c = record {
  ready = c.lay-digits.ensures.spelt _ refl;
  used_value = refl;
}
