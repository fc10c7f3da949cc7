-- `mend::write_mended` meets its contract: what was written has room in the buffer. Assumes nothing.
use mathlib.Core.Path.{◌≡◌, sym, ap, ◌∙◌}
use Rattle.std.specs.Prelude.{Result, Ok}
use Rattle.standard_refusal.specs.declared.Refusal.{Refusal}
use mathlib.Core.List.{List}
use Prim.Native.Nat.{ℕ, ◌*◌, ◌≤◌}
use native.Mathlib.Omega.{arith}
use lib.ListN.{length}
use lib.Seq.{length-take-le}
use Rattle.recording_mending_rules.specs.Definition as definition
use Rattle.recording_mending_rules.specs.Definition.{mending}
use Rattle.recording_mending.specs.Mended.{mending_of}
use Rattle.recording_mending.specs.declared.Mending.{Mending}
use Rattle.recording_mending_rules.proofs.Files.{in_room}
use Rattle.mend.proofs.write_mended.Goals as goal

room : (file out after : List ℕ) (r : Result Mending Refusal) (m : Mending) → r ≡ Ok m → (mending_of r, after) ≡ mending file out
    → length after ≡ length out → 512 * m.written ≤ length after
room file out after r m q e k =
    let h = in_room file out in
    let w : m.written ≡ (mending file out).0.blocks =
    ap (λ (r : Result Mending Refusal). (mending_of r).blocks) (sym q) ∙ ap (λ (p : definition.Mending × List ℕ). p.0.blocks) e in
    omega arith

pub overflow_mul-n : goal.overflow_mul-n
overflow_mul-n c =
    let k : length c.mend-mended.new.out ≡ 18944 = c.mend-mended.auto.out in
    omega (arith, room _ _ _ _ c.in-Ok.mending c.in-Ok.is c.mend-mended.ensures c.mend-mended.auto.out)

pub slice_bounds-out-end : goal.slice_bounds-out-end
slice_bounds-out-end c = room _ _ _ _ c.in-Ok.mending c.in-Ok.is c.mend-mended.ensures c.mend-mended.auto.out

pub slice_bounds-write_all-end : goal.slice_bounds-write_all-end
slice_bounds-write_all-end c = sym (length-take-le _ _ (room _ _ _ _ c.in-Ok.mending c.in-Ok.is c.mend-mended.ensures c.mend-mended.auto.out))
