-- `capture_feeding::feed` meets its contract. Assumes nothing.
use Prim.Native.Nat.{◌+◌, ◌-◌, zero-le}
use mathlib.Core.Path.{◌≡◌}
use mathlib.Core.Logic.{⊎_elim}
use native.Mathlib.Omega.{arith}
use Rattle.capture_history.proofs.Standing.{fed, written_over}
use Rattle.capture_feeding.proofs.feed.Goals as goal

pub returns-then-window-filled : goal.returns-then-window-filled
returns-then-window-filled c =
    record { used_in_bounds = zero-le; taken = λ L X s. let kept = c.with_room-kept.ensures.kept L X s in absurd (omega (arith, kept.stands.inside)) }

pub returns : goal.returns
returns c =
    let given = c.args in
    let with-room = c.with_room-kept in
    let left = c.left in
    let used = c.min-used in record {
      used_in_bounds = omega (arith, used.ensures);
      taken = λ L X s.
          let kept = with-room.ensures.kept L X s in
          let size : with-room.result.filled + used.result - with-room.result.filled ≡ used.result = omega arith in
          let most = left.ensures (omega (arith, kept.stands.all, kept.stands.few)) in
          record {
            stands =
                fed L X _ _ _ kept.stands given.piece.now used.result (omega arith) (omega arith) (omega (arith, most))
                (rw (size, c.copy_from_slice.ensures.after) (written_over with-room.new.window given.piece.now with-room.result.filled used.result));
            same = kept.same;
            on = λ none wide few some.
                ⊎_elim (λ fits. omega (arith, most, kept.stands.all))
                (λ low. omega (arith, most, kept.stands.all, kept.same)) (with-room.ensures.room_or_in_first_byte L X s);
          };
    }
