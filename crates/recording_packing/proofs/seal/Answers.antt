-- `recording_packing::seal` meets its contract. Assumes nothing.
use mathlib.Core.Path.{sym, ◌∙◌}
use Prim.Native.Nat.{◌*◌}
use native.Mathlib.Omega.{arith}
use borrow.Author.Tests.{lt-leb}
use Rattle.recording_packing.proofs.Blocks.{fitting}
use Rattle.recording_packing.proofs.seal.Goals as goal

pub returns-then-n-gt256 : goal.returns-then-n-gt256
returns-then-n-gt256 c = rw (lt-leb (64 * c.args.n) 16384 (omega arith))

pub returns-then-not-has_room : goal.returns-then-not-has_room
returns-then-not-has_room c = rw (sym c.has_room.ensures ∙ c.if-not-has_room.true)

pub returns : goal.returns
returns c = rw (sym c.has_room.ensures ∙ c.if-not-has_room.false) c.seal_blocks.ensures

pub overflow_mul-n : goal.overflow_mul-n
overflow_mul-n c = omega arith

pub seal_blocks-requires : goal.seal_blocks-requires
seal_blocks-requires c = record { n_bound = omega arith; n_in_bounds = (fitting _ _ (sym c.has_room.ensures ∙ c.if-not-has_room.false)).enough }
