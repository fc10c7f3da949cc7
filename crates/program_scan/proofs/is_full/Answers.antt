-- `program_scan::is_full` meets its contract. Assumes nothing.
use mathlib.Core.Path.{sym}
use mathlib.Core.Bool.{true≢false}
use native.Mathlib.Omega.{arith}
use borrow.Author.Tests.{ltb-true}
use Rattle.program_scan.proofs.is_full.Goals as goal

pub returns-then-room-lt-ONE : goal.returns-then-room-lt-ONE
returns-then-room-lt-ONE c = record {
  room_bound = λ e. (omega arith, λ z. omega arith);
  le_room = λ e. absurd (true≢false e);
}

pub returns-then-used-eq0 : goal.returns-then-used-eq0
returns-then-used-eq0 c = record {
  room_bound = λ e. absurd (true≢false (sym e));
  le_room = λ e. omega arith;
}

pub returns : goal.returns
returns c = record {
  room_bound = λ e. (ltb-true _ _ e, λ z. absurd (omega arith));
  le_room = λ e. omega arith;
}
