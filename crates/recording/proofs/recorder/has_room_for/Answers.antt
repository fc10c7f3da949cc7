-- `recording::recorder::has_room_for` meets its contract. Assumes nothing.
use mathlib.Core.Path.{◌≡◌, sym, ap, ◌∙◌}
use mathlib.Core.Bool.{true}
use Prim.Native.Nat.{ℕ, ◌*◌}
use native.Mathlib.Omega.{arith}
use lib.ListN.{length}
use Rattle.recording_packing.specs.Definition.{fits}
use Rattle.recording_packing.proofs.Blocks.{fitting}
use Rattle.recording_rules.proofs.Theorems.{whole, room_for_all}
use Rattle.recording.proofs.recorder.has_room_for.Goals as goal

pub overflow_mul-list : goal.overflow_mul-list
overflow_mul-list c = let w = whole (length c.args.list.now) c.requires in omega arith

pub returns-then-has_room : goal.returns-then-has_room
returns-then-has_room c =
    let list = c.args.list.now in
    let f : fits (2 * length list) c.args.room ≡ true = sym c.has_room.ensures ∙ c.if-has_room.true in
    let h = (fitting (2 * length list) c.args.room f).least in
    sym (room_for_all list c.requires (λ z. omega arith) c.args.room f)

pub count-requires : goal.count-requires
count-requires c = (whole _ c.requires).1

pub returns : goal.returns
returns c = c.has_room-2.ensures ∙ ap (λ (n : ℕ). fits n c.args.room) c.count.ensures.1
