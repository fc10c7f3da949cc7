-- `program_scan::walk` meets its contract. Assumes nothing.
use Prim.Native.Nat.{◌+◌, ◌*◌, ◌-◌, ◌<◌, ◌≤◌}
use mathlib.Core.Path.{◌≡◌, refl, sym, ◌∙◌}
use mathlib.Core.Bool.{true≢false, ◌&&◌}
use native.Mathlib.Omega.{arith}
use lib.Dec.{leb}
use lib.ListN.{length}
use Rattle.finder_windows.specs.Definition.{bits, marker_bits}
use Rattle.std.specs.Prelude.{Some}
use Rattle.program_scan.specs.Pen.{Within}
use Rattle.program_scan.proofs.Search.{both, exact, begun_exact, more, one_more, none_more, begun}
use borrow.Author.Tests.{leb-true}
use Rattle.program_scan.proofs.walk.Goals as goal

pub loop-at-init : goal.loop-at-init
loop-at-init c =
    let given = c.args in
    let pre = c.requires in
    let start : given.pen.used ≡ 0 = pre.used_value in (
      omega arith,
      omega arith,
      refl,
      pre.text_len,
      pre.distances_len.0,
      pre.distances_len.1,
      omega (arith, start),
      λ e. absurd (true≢false (sym e)),
      λ made. (
        rw start
            (begun (bits given.buffer.now) (marker_bits given.marker) given.tolerance given.frame given.base given.block.now given.from),
        begun_exact (bits given.buffer.now) (marker_bits given.marker) given.tolerance given.frame given.base given.from ∙ sym start,
      ),
    )

pub returns-then-is_full : goal.returns-then-is_full
returns-then-is_full c =
    let given = c.args in
    let loop = c.loop-at in
    let inv = loop.invariant in
    let full = c.is_full.ensures.room_bound c.if-is_full.true in record {
      from_le_at = (inv.0, inv.1, inv.6);
      put_to = λ made. record {
        forward = inv.0;
        inside = inv.1;
        wrote = (inv.8 made).0;
        exact = (inv.8 made).1;
        fits = inv.6;
        full = λ h. (
          omega (arith, full.0, inv.2),
          λ z. omega (arith, full.1 z, inv.2),
        );
      };
    }

pub many-pen-requires : goal.many-pen-requires
many-pen-requires c =
    let given = c.args in
    let pre = c.requires in
    let loop = c.loop-at in
    let inv = loop.invariant in
    let taken = both _ _ c.if-dense-room.true in
    let outer = both _ _ taken.0 in
    let room : 11265 ≤ length loop.block - loop.pen.used = leb-true _ _ outer.1 in
    let left : 288 ≤ given.end - loop.at = leb-true _ _ taken.1 in
    let high : given.end + given.frame + 31 ≤ 8 * length given.buffer.now = pre.frame_bound in
    let below : given.base + 8 * length given.buffer.now ≤ 9223372036854775808 = pre.buffer_bound in
    let number : given.base + loop.at + 256 < 9223372036854775808 = omega (arith, room, left, high, below) in
    let space : loop.pen.used + 11264 ≤ length loop.block = omega (arith, room) in
    let inside : loop.at + given.frame + 296 ≤ 8 * length given.buffer.now = omega (arith, left, high) in
    let small : 8 * length given.buffer.now < 18446744073709551616 = omega (arith, below) in record {
      ready = inv.7 outer.0;
      number_bound = number;
      used_in_bounds = space;
      distances_len = (inv.4, inv.5);
      frame_bound = inside;
      buffer_bound = small;
      tolerance_bound = pre.tolerance_bound;
    }

pub overflow_add-at : goal.overflow_add-at
overflow_add-at c =
    let given = c.args in
    let pre = c.requires in
    let loop = c.loop-at in
    let taken = both (loop.dense && leb 11265 (length loop.block - loop.pen.used)) (leb 288 (given.end - loop.at)) c.if-dense-room.true in
    let left : 288 ≤ given.end - loop.at = leb-true _ _ taken.1 in
    let high : given.end + given.frame + 31 ≤ 8 * length given.buffer.now = pre.frame_bound in
    let below : given.base + 8 * length given.buffer.now ≤ 9223372036854775808 = pre.buffer_bound in
    record { fits = omega (arith, left, high, below) }

pub loop-at-preserved-then-dense-room : goal.loop-at-preserved-then-dense-room
loop-at-preserved-then-dense-room c =
    let given = c.args in
    let loop = c.loop-at in
    let inv = loop.invariant in
    let many = c.many-pen in
    let taken = both _ _ c.if-dense-room.true in
    let room : 11265 ≤ length loop.block - loop.pen.used = leb-true _ _ (both loop.dense _ taken.0).1 in
    let left : 288 ≤ given.end - loop.at = leb-true _ _ taken.1 in
    let next : given.base + loop.at + 256 ≡ given.base + (loop.at + 256) = omega arith in
    let size : length loop.block ≡ length given.block.now = inv.2 in
    let used : many.result.used ≤ loop.pen.used + 11264 = many.ensures.used_bound in (
      omega (arith, inv.0),
      omega (arith, left),
      many.auto.block ∙ inv.2,
      many.auto.text ∙ inv.3,
      many.ensures.distances_len_kept.0,
      many.ensures.distances_len_kept.1,
      omega (arith, used, room, size),
      λ e. rw next at many.ensures.next_ready,
      λ made. let put = more (bits given.buffer.now) (marker_bits given.marker) given.tolerance given.frame given.base given.from loop.at
          inv.0 (inv.8 made).0 256 (many.ensures.meetings_put given.base refl) in (put, exact put (omega (arith, used, room, size))),
    )

pub returns-in_default : goal.returns-in_default
returns-in_default c =
    let given = c.args in
    let loop = c.loop-at in
    let inv = loop.invariant in
    let room : 45 ≤ length loop.block - loop.pen.used = c.is_full.ensures.le_room c.if-is_full.false in
    let size : length loop.block ≡ length given.block.now = inv.2 in record {
      from_le_at = (omega (arith, inv.0, inv.1), omega arith, inv.6);
      put_to = λ made. let put = none_more (bits given.buffer.now) (marker_bits given.marker) given.tolerance given.frame given.base given.from
          loop.at given.end inv.0 inv.1 (rw c.in_default.is at (c.sought.ensures.sought made)) (inv.8 made).0 in record {
            forward = omega (arith, inv.0, inv.1);
            inside = omega arith;
            wrote = put;
            exact = exact put (omega (arith, room, size));
            fits = inv.6;
            full = λ h. absurd (omega arith);
          };
    }

pub overflow_add-base-else-dense-room : goal.overflow_add-base-else-dense-room
overflow_add-base-else-dense-room c =
    let given = c.args in
    let within : Within c.loop-at.at given.end
    (Some c.in-Some.found) = rw c.in-Some.is at
    c.sought.ensures.within in
    let high : given.end + given.frame + 31 ≤ 8 * length
    given.buffer.now = c.requires.frame_bound in
    let below : given.base + 8 * length given.buffer.now ≤ 9223372036854775808 = c.requires.buffer_bound in
    record { fits = omega (arith, within.1, high, below) }

pub one-pen-requires : goal.one-pen-requires
one-pen-requires c =
    let given = c.args in
    let loop = c.loop-at in
    let inv = loop.invariant in
    let within : Within loop.at given.end
    (Some c.in-Some.found) = rw c.in-Some.is at
    c.sought.ensures.within in
    let high : given.end + given.frame + 31 ≤ 8 * length
    given.buffer.now = c.requires.frame_bound in
    let below : given.base + 8 * length given.buffer.now ≤ 9223372036854775808 = c.requires.buffer_bound in
    let number : given.base + c.in-Some.found.position < 9223372036854775808 = omega (arith, within.1, high, below) in
    let room : 45 ≤ length loop.block - loop.pen.used = c.is_full.ensures.le_room c.if-is_full.false in
    let space : loop.pen.used + 44 ≤ length loop.block = omega (arith, room) in record {
      in_bounds = omega (arith, inv.3);
      number_bound = number;
      used_in_bounds = space;
      first_bound = (within.2, within.3);
    }

pub overflow_sub-dense : goal.overflow_sub-dense
overflow_sub-dense c =
    let given = c.args in
    let loop = c.loop-at in
    let within : Within loop.at given.end
    (Some c.in-Some.found) = rw
    c.in-Some.is at
    c.sought.ensures.within in
    within.0

pub overflow_add-at-else-dense-room : goal.overflow_add-at-else-dense-room
overflow_add-at-else-dense-room c =
    let given = c.args in
    let loop = c.loop-at in
    let within : Within loop.at given.end
    (Some c.in-Some.found) = rw
    c.in-Some.is at
    c.sought.ensures.within in
    let high : given.end + given.frame + 31 ≤ 8 * length given.buffer.now = c.requires.frame_bound in
    let below : given.base + 8 * length given.buffer.now ≤ 9223372036854775808 = c.requires.buffer_bound in
    record { fits = omega (arith, within.1, high, below) }

pub loop-at-smaller : goal.loop-at-smaller
loop-at-smaller c =
    let given = c.args in
    let loop = c.loop-at in
    let within : Within loop.at given.end
    (Some c.in-Some.found) = rw
    c.in-Some.is at
    c.sought.ensures.within in
    omega (arith, within.0, within.1)

pub loop-at-preserved : goal.loop-at-preserved
loop-at-preserved c =
    let given = c.args in
    let loop = c.loop-at in
    let within : Within loop.at given.end
    (Some c.in-Some.found) = rw
    c.in-Some.is at
    c.sought.ensures.within in
    let inv = loop.invariant in
    let one = c.one-pen in
    let p = c.in-Some.found.position in
    let next : given.base + p + 1 ≡ given.base + (p + 1) = omega arith in
    let room : 45 ≤ length loop.block - loop.pen.used = c.is_full.ensures.le_room c.if-is_full.false in
    let size : length loop.block ≡ length given.block.now = inv.2 in
    let used : one.result.used ≤ loop.pen.used + 44 = one.ensures.used_bound in (
      omega (arith, inv.0, within.0),
      omega (arith, within.1),
      one.auto.block ∙ inv.2,
      one.auto.text ∙ inv.3,
      inv.4,
      inv.5,
      omega (arith, used, room, size),
      λ e. rw next at one.ensures.ready,
      λ made. let put = one_more (bits given.buffer.now) (marker_bits given.marker) given.tolerance given.frame given.base given.from
          loop.at
          inv.0 (inv.8 made).0 p _ _ within.0
          (rw c.in-Some.is at
          (c.sought.ensures.sought made)) one.ensures.wrote in
          (put, exact put (omega (arith, used, room, size))),
    )

pub returns : goal.returns
returns c =
    let given = c.args in
    let loop = c.loop-at in
    let inv = loop.invariant in
    let all : loop.at ≡ given.end = omega (arith, inv.1) in record {
      from_le_at = (omega (arith, inv.0), omega arith, inv.6);
      put_to = λ made. record {
        forward = omega (arith, inv.0, inv.1);
        inside = omega arith;
        wrote = rw all at (inv.8 made).0;
        exact = rw all at
            (inv.8 made).1;
        fits = inv.6;
        full = λ h. absurd (omega arith);
      };
    }
