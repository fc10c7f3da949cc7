-- `program_scan::is_shut` meets its contract. Assumes nothing.
use Prim.Native.Nat.{◌+◌, ◌*◌}
use mathlib.Core.Bool.{true≢false}
use native.Mathlib.Omega.{arith}
use borrow.Author.Tests.{ltb-true, ltb-false}
use Rattle.program_scan.proofs.is_shut.Goals as goal

pub returns-then-frame-lt64 : goal.returns-then-frame-lt64
returns-then-frame-lt64 c = record {
  filled_bound = λ e a b w few. absurd (omega arith);
  le_frame = λ e. absurd (true≢false e);
}

pub returns-then-tolerance-gt8 : goal.returns-then-tolerance-gt8
returns-then-tolerance-gt8 c = record {
  filled_bound = λ e a b w few. absurd (omega arith);
  le_frame = λ e. absurd (true≢false e);
}

pub returns-then-room-filled : goal.returns-then-room-filled
returns-then-room-filled c = record {
  filled_bound = λ e a b w few. absurd (omega arith);
  le_frame = λ e. absurd (true≢false e);
}

pub returns-then-from-gt-CAPTURE : goal.returns-then-from-gt-CAPTURE
returns-then-from-gt-CAPTURE c = record {
  filled_bound = λ e a b w few. absurd (omega arith);
  le_frame = λ e. absurd (true≢false e);
}

pub returns-then-before-from : goal.returns-then-before-from
returns-then-before-from c = record {
  filled_bound = λ e a b w few. absurd (omega arith);
  le_frame = λ e. absurd (true≢false e);
}

pub returns-then-filled-from : goal.returns-then-filled-from
returns-then-filled-from c = record {
  filled_bound = λ e a b w few. absurd (omega arith);
  le_frame = λ e. absurd (true≢false e);
}

pub returns : goal.returns
returns c =
    let given = c.args in record {
      filled_bound = λ e a b w few. ltb-true (8 * given.scan.filled) (given.frame + 31) e;
      le_frame = λ e. (omega arith, omega arith, omega arith, omega arith, ltb-false (8 * given.scan.filled) (given.frame + 31) e);
    }
