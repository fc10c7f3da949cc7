-- `program_scan::step` meets its contract. Assumes nothing.
use Prim.Native.Nat.{◌+◌, ◌-◌, ◌/◌, ◌%◌, ◌<◌}
use mathlib.Core.Path.{◌≡◌, refl}
use native.Mathlib.Omega.{arith}
use Rattle.program_digits.specs.Codes.{codes}
use Rattle.program_scan.proofs.Ink.{next_digit, next_ten, tenth_below}
use Rattle.program_scan.proofs.step.Goals as goal

pub returns-then-tail-ne57 : goal.returns-then-tail-ne57
returns-then-tail-ne57 c =
    let given = c.args in
    let ready = c.requires.ready in
    let tail = ready.tail in
    let less : given.number % 10 < 9 = omega arith in
    let same : (given.number + 1) / 10 ≡ given.number / 10 = omega arith in record {
      next_ready = record {
        long = ready.long;
        count = next_digit given.pen.digits given.number ready.count less;
        head = rw same ready.head;
        tail = omega arith;
      };
      used_value = refl;
    }

pub returns-then-carry : goal.returns-then-carry
unfolding codes
returns-then-carry c =
    let given = c.args in
    let ready = c.requires.ready in
    let tail = ready.tail in
    let nine : given.number % 10 ≡ 9 = omega arith in
    let more : given.number / 10 + 1 ≡ (given.number + 1) / 10 = omega arith in
    let call = c.carry in
    let carried = call.ensures.counted_on (codes "position ") (given.pen.digits - 1) (given.number / 10) refl
    (tenth_below given.pen.digits given.number ready.count) ready.head c.if-carry.true in record {
      next_ready = record {
        long = omega (arith, call.auto.text, ready.long);
        count = next_ten given.pen.digits given.number ready.count nine carried.0;
        head = rw more at carried.1;
        tail = omega arith;
      };
      used_value = refl;
    }

pub returns : goal.returns
returns c =
    let given = c.args in
    let tail = c.requires.ready.tail in record {
      next_ready = c.lay-digits.ensures.spelt 7953766455951237168 (omega arith);
      used_value = refl;
    }
