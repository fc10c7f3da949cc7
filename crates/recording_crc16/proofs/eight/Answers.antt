-- `recording_crc16::eight` meets its contract: one test at each of the 256 bytes, which antt computes. Assumes nothing.
use mathlib.Core.Path.{◌≡◌}
use mathlib.Core.Bool.{Bool, true, false, ◌&&◌}
use Prim.Native.Nat.{ℕ, zero, suc, ◌*◌, ◌/◌, ◌%◌, ◌<◌}
use native.Mathlib.Nat.{not-suc-le-zero}
use native.Mathlib.Decide.{ℕ_discrete}
use native.Mathlib.Omega.{arith}
use lib.Bits.{bit_xor, xor_lt}
use lib.Dec.{T, eqb, eqb→eq}
use borrow.Author.Rules.{rules}
use Rattle.recording_crc16.specs.Remainder.{◌⊕◌, shift}
use Rattle.recording_crc16.specs.Powers.{times}
use Rattle.recording_crc16.proofs.eight.Goals as goal

-- the test of each number below n
each : ℕ → (ℕ → Bool) → Bool
each zero f = true
each (suc n) f = f n && each n f

left : (a b : Bool) → T (a && b) → T a
left true b t = tt
left false b t = t

right : (a b : Bool) → T (a && b) → T b
right true b t = t
right false b t = absurd t

at : (n : ℕ) (f : ℕ → Bool) → T (each n f) → (k : ℕ) → k < n → T (f k)
unfolding each
at zero f t k h = absurd (not-suc-le-zero h)
at (suc n) f t k h = of (ℕ_discrete k n) (at n f (right (f n) (each n f) t) k)
  where
    of : Dec (k ≡ n) → (k < n → T (f k)) → T (f k)
    of (yes e) go = rw e (left (f n) (each n f) t)
    of (no e) go = go (omega arith)

made : ℕ → ℕ
made n =
    let x : ℕ = bit_xor n (n / 16) in
    bit_xor (bit_xor (x * 4096 % 65536) (x * 32 % 65536)) x

is_right : ℕ → Bool
is_right n = eqb (made n) (times 8 (n * 256))

all_right : T (each 256 is_right)
unfolding each is_right made times shift ◌⊕◌
all_right = tt

pub returns : goal.returns
unfolding is_right made
returns c = eqb→eq (made c.args.n) (times 8 (c.args.n * 256)) (at 256 is_right all_right c.args.n (search rules))

pub overflow_cast-x : goal.overflow_cast-x
overflow_cast-x c = omega (arith, xor_lt 8 c.args.n (c.args.n / 16) (search rules) (omega arith))
