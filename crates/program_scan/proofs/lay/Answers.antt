-- `program_scan::lay` meets its contract. Assumes nothing.
use Prim.Native.Nat.{◌-◌}
use mathlib.Core.Path.{◌≡◌, refl}
use native.Mathlib.Omega.{arith}
use lib.ListN.{length, length-append}
use Rattle.program_digits.specs.Codes.{codes}
use Rattle.program_digits.specs.Digits.{decimal}
use Rattle.program_digits.proofs.Laws.{decimal_length}
use Rattle.program_scan.proofs.Numbers.{decimal_count}
use Rattle.program_scan.proofs.Ink.{laid, whole}
use Rattle.program_scan.proofs.lay.Goals as goal

pub overflow_sub-result : goal.overflow_sub-result
unfolding codes
overflow_sub-result c =
    let number = c.args.number in
    let put = whole (omega (arith, length-append (codes "position ") (decimal number), decimal_length number)) c.put_number-end.ensures in
    omega (arith, put.0, length-append (codes "position ") (decimal number))

pub returns : goal.returns
unfolding codes
returns c =
    let given = c.args in
    let call = c.put_number-end in
    let few = decimal_length given.number in
    let size = length-append (codes "position ") (decimal given.number) in
    let put = whole (omega arith) call.ensures in
    let digits : call.result - 9 ≡ length (decimal given.number) = omega (arith, put.0) in
    let count = decimal_count given.number (omega arith) in record {
      spelt = λ w e. rw digits (record {
        long = omega (arith, call.auto.out);
        count = count;
        head = laid call.new.out (codes "position ") _ (length (decimal given.number)) given.number refl count put.1;
        tail = e;
      });
      upper_bound = omega arith;
    }
