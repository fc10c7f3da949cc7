-- `record::write_recording` meets its contract: what was written has room in the buffer. Assumes nothing.
use mathlib.Core.Path.{◌≡◌, sym, ap, ◌∙◌}
use mathlib.Core.List.{List}
use Prim.Native.Nat.{ℕ, ◌≤◌}
use native.Mathlib.Omega.{arith}
use lib.ListN.{length}
use lib.Seq.{length-take-le}
use Rattle.recording_rules.specs.Definition as definition
use Rattle.recording_rules.specs.Definition.{recorded}
use Rattle.recording_rules.proofs.Theorems.{in_room}
use Rattle.recording_rules.specs.Recorded.{recorded_of}
use Rattle.std.specs.Prelude.{Result, Ok}
use Rattle.recording_rules.specs.declared.RecordError.{RecordError}
use Rattle.record.proofs.write_recording.Goals as goal

room : (list out after : List ℕ) (r : Result ℕ RecordError) (n : ℕ) → (recorded_of r, after) ≡ recorded list out → r ≡ Ok n → length after ≡ length out
    → n ≤ length after
room list out after r n e t k =
    let h = in_room list out n (sym (ap (λ (p : definition.Recorded × List ℕ). p.0) e) ∙ ap recorded_of t) in
    omega arith

pub slice_bounds-out-end : goal.slice_bounds-out-end
slice_bounds-out-end c = room _ _ _ c.record-recorded.result _ c.record-recorded.ensures c.in-Ok.is c.record-recorded.auto.out

pub slice_bounds-write_all-end : goal.slice_bounds-write_all-end
slice_bounds-write_all-end c =
    sym (length-take-le _ _ (room _ _ _ c.record-recorded.result _ c.record-recorded.ensures c.in-Ok.is c.record-recorded.auto.out))
