-- `recording_crc16::feed` meets its contract: a byte at once is eight bits one by one. Assumes nothing.
use mathlib.Core.Path.{◌≡◌, sym, ap₂, ◌∙◌}
use Prim.Native.Nat.{ℕ, ◌+◌, ◌*◌, ◌/◌, ◌%◌, ◌<◌}
use native.Mathlib.Nat.{add-zero, mul-mod_left}
use native.Mathlib.Omega.{arith}
use lib.Bits.{bit_xor, xor_lt}
use lib.Pow.{mod-pow-add, shl-shr}
use borrow.Author.Rules.{rules}
use Rattle.recording_crc16.specs.Remainder.{◌⊕◌, run, bits}
use Rattle.recording_crc16.specs.Powers.{times}
use Rattle.recording_crc16.proofs.Bytes.{run_top}
use Rattle.recording_crc16.proofs.feed.Goals as goal

index : (r x : ℕ) → r < 65536 → x < 256 → bit_xor (r / 256) x < 256
index r x hr hx = xor_lt 8 (r / 256) x (omega arith) hx

pub overflow_cast-n-2 : goal.overflow_cast-n-2
overflow_cast-n-2 c = omega (arith, index c.args.r c.args.x (search rules) (search rules))

by_top : (r x e : ℕ) → r < 65536 → x < 256 → e ≡ times 8 (bit_xor (r / 256) x * 256) → bit_xor e (r * 256 % 65536) ≡ run r (bits 8 x)
unfolding ◌⊕◌
by_top r x e hr hx p =
    let up : r * 256 % 65536 ≡ r % 256 * 256 =
    mod-pow-add (r * 256) 8 8 ∙ ap₂ (λ (a b : ℕ). a % 256 * 256 + b) (shl-shr r 8) (mul-mod_left r 256) ∙ add-zero (r % 256 * 256) in
    ap₂ bit_xor p up ∙ sym (run_top r x hr hx)

pub returns : goal.returns
returns c = by_top c.args.r c.args.x c.eight.result (search rules) (search rules) c.eight.ensures
