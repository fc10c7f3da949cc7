-- `recording_mending_place::next` meets its contract. Assumes nothing.
use mathlib.Core.Path.{◌≡◌, sym, ap}
use Prim.Native.Nat.{ℕ, ◌*◌, ◌/◌, ◌%◌, ◌<◌}
use lib.Bits.{bit_xor}
use lib.Pow.{shr_mod}
use borrow.Author.Rules.{rules}
use Rattle.recording_crc16.specs.Remainder.{◌⊕◌, shift}
use Rattle.recording_mending_place.proofs.next.Goals as goal

moved : (r : ℕ) → r < 65536 → bit_xor (r / 32768 * 4129) (r * 2 % 65536) ≡ shift r
unfolding shift ◌⊕◌
moved r h = ap (λ (t : ℕ). bit_xor (t * 4129) (r * 2 % 65536)) (sym (shr_mod 1 15 h))

pub returns : goal.returns
returns c = moved c.args.r (search rules)
