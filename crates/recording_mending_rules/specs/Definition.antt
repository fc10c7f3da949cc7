-- Mending recordings (document 02, order 10).
use Rattle.std.specs.Prelude.{ℕ, zero, suc, ◌+◌, ◌-◌, ◌*◌, ◌/◌, ◌%◌, ◌^◌, Bool, true, false, cond, List, [], ◌∷◌, ◌++◌, ltb, leb, length, get_or, set, drop, replicate}
use Rattle.recording_crc16.specs.Remainder.{◌⊕◌}
use Rattle.recording_crc16.specs.Block.{right}
use Rattle.recording_layout.specs.Definition.{whole_blocks, blocks, block}

-- A block with bit k the other: "bit 0 is the top bit of byte 0".
unfoldable pub flipped : ℕ → List ℕ → List ℕ
flipped k b = set b (k / 8) (get_or b (k / 8) 0 ⊕ (2 ^ (7 - k % 8)))

-- The first of n bits, from bit k on, whose flip brings a block to a right check; the bit behind them where there is none.
unfoldable pub bit_from : ℕ → ℕ → List ℕ → ℕ
bit_from zero k b = k
bit_from (suc n) k b = cond (right (flipped k b)) k (bit_from n (k + 1) b)

-- What becomes of a block: "One whose check holds is kept. One that a single flipped bit brings to a right check gets that bit put back." Or it is neither.
pub data Mended : Type 0 where
  kept : Mended
  put_back : ℕ → Mended
  beyond : Mended

abbrev pub found : ℕ → Mended
found k = cond (ltb k 4096) (put_back k) beyond

unfoldable pub mended : List ℕ → Mended
mended b = cond (right b) kept (found (bit_from 4096 0 b))

-- The block that is written, the bit that was put back (4,096, which is no bit, for none), and whether there is a block to write.
abbrev pub block_of : List ℕ → Mended → List ℕ
block_of b kept = b
block_of b (put_back k) = flipped k b
block_of b beyond = b

abbrev pub bit_of : Mended → ℕ
bit_of kept = 4096
bit_of (put_back k) = k
bit_of beyond = 4096

abbrev pub is_mended : Mended → Bool
is_mended kept = true
is_mended (put_back k) = true
is_mended beyond = false

-- "The tool writes the blocks up to the first that is neither": how many of n, from block k on.
unfoldable pub written : ℕ → ℕ → List ℕ → ℕ
written zero k file = 0
written (suc n) k file = cond (is_mended (mended (block file k))) (suc (written n (k + 1) file)) 0

-- Those blocks, and their bits.
unfoldable pub blocks_from : ℕ → ℕ → List ℕ → List ℕ
blocks_from zero k file = []
blocks_from (suc n) k file = block_of (block file k) (mended (block file k)) ++ blocks_from n (k + 1) file

unfoldable pub bits_from : ℕ → ℕ → List ℕ → List ℕ
bits_from zero k file = []
bits_from (suc n) k file = bit_of (mended (block file k)) ∷ bits_from n (k + 1) file

-- What the tool answers: the number of a refusal, or 0; how many blocks were written; whether the block after them could not be mended; and of each of
-- at most 37 blocks the bit put back.
pub record Mending : Type 0 where
  pub refusal : ℕ
  pub blocks : ℕ
  pub stopped : Bool
  pub bits : List ℕ

abbrev pub refused : ℕ → Mending
refused n = record { refusal = n; blocks = 0; stopped = false; bits = replicate 37 4096 }

abbrev pub told : ℕ → List ℕ → Mending
told n file = record { refusal = 0; blocks = n; stopped = ltb n (blocks file); bits = bits_from n 0 file ++ replicate (37 - n) 4096 }

-- with every byte of the output: "The output past the blocks written stays as it was."
abbrev pub written_over : ℕ → List ℕ → List ℕ → Mending × List ℕ
written_over n file out = (told n file, blocks_from n 0 file ++ drop (512 * n) out)

unfoldable pub done : List ℕ → List ℕ → Mending × List ℕ
done file out = written_over (written (blocks file) 0 file) file out

-- "Refusals: 13 as above; 16 output buffer shorter than the input, tested after 13, nothing written."
unfoldable pub mending : List ℕ → List ℕ → Mending × List ℕ
mending file out = cond (whole_blocks (length file)) (cond (leb (length file) (length out)) (done file out) (refused 16, out)) (refused 13, out)
