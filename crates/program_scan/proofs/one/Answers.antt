-- `program_scan::one` meets its contract. Assumes nothing.
use mathlib.Core.Path.{refl}
use native.Mathlib.Omega.{arith}
use Rattle.capture_meetings.specs.Meetings.{met}
use Rattle.program_digits.proofs.Puts.{said_as}
use Rattle.program_scan.proofs.Ink.{one_line}
use Rattle.program_scan.proofs.one.Goals as goal

pub returns : goal.returns
returns c =
    let given = c.args in
    let small = c.requires.first_bound in
    let begun = c.begin-pen in
    let put = c.put_line-used in
    let again = c.begin in
    let wrote = rw begun.ensures.used_value at (put.ensures.line_put given.number given.first given.second begun.ensures.ready small.0 small.1 refl) in record {
      ready = again.ensures.ready;
      wrote = rw again.ensures.used_value (said_as (one_line (met given.number given.first given.second)) wrote);
      used_bound = omega
          (arith, again.ensures.used_value, put.ensures.upper_bound, begun.ensures.used_value);
    }
