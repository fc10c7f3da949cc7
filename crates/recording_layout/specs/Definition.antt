-- The layout of a field recording (document 02, order 8), over the list of the file's bytes.
use Rattle.std.specs.Prelude.{ℕ, zero, suc, ◌+◌, ◌-◌, ◌*◌, ◌/◌, ◌%◌, Bool, true, cond, ◌&&◌, ◌||◌, List, [], ◌∷◌, length, get_or, take, drop, leb, eqb}
use Rattle.recording_crc16.specs.Block.{right}
use Rattle.recording_fields.specs.Definition.{wide}

-- The bytes from a place up to another.
abbrev pub part : ℕ → ℕ → List ℕ → List ℕ
part from to bytes = take (to - from) (drop from bytes)

unfoldable pub all_zero : List ℕ → Bool
all_zero [] = true
all_zero (x ∷ xs) = eqb x 0 && all_zero xs

-- f holds of each number below n.
unfoldable pub each_below : ℕ → (ℕ → Bool) → Bool
each_below zero f = true
each_below (suc n) f = each_below n f && f n

-- "The file is blocks of 512 bytes".
abbrev pub blocks : List ℕ → ℕ
blocks file = length file / 512

abbrev pub block : List ℕ → ℕ → List ℕ
block file k = part (512 * k) (512 * k + 512) file

-- 13: "length zero, no multiple of 512 or above 37 blocks"
abbrev pub whole_blocks : ℕ → Bool
whole_blocks n = eqb (n % 512) 0 && leb 1 (n / 512) && leb (n / 512) 37

-- 14: "a check fails"
abbrev pub right_block : List ℕ → ℕ → Bool
right_block file k = right (block file k)

-- A record is 64 bytes: "the 32-byte step, the 16-byte vector written .., refusal number, scalar kind after it (0 i32, 1 i64, 2 f32, 3 f64, no other), six
-- zeros, scalar bits in 8 bytes. A 32-bit scalar fills the low four of the 8 bytes and the rest are zero. A refusal number other than 0 may stand only in
-- the last record of the file".
unfoldable pub record_laid : Bool → List ℕ → Bool
record_laid is_last r =
    (is_last || eqb (get_or r 48 0) 0) && leb (get_or r 49 0) 3 && all_zero (part 50 56 r) && (wide (get_or r 49 0) || all_zero (part 60 64 r))

-- "2 record count"; "records of 64 bytes from byte 4"
abbrev pub count : List ℕ → ℕ
count b = get_or b 2 0

abbrev pub record_in : List ℕ → ℕ → List ℕ
record_in b i = part (4 + 64 * i) (4 + 64 * i + 64) b

-- "at most seven"; "All blocks but the last hold seven records, the last one to seven, the file at most 256."
abbrev pub count_laid : ℕ → ℕ → ℕ → Bool
count_laid n k c = leb (7 * k + c) 256 && cond (eqb (k + 1) n) (leb 1 c && leb c 7) (eqb c 7)

abbrev pub record_at_laid : ℕ → ℕ → List ℕ → ℕ → Bool
record_at_laid n k b i = record_laid (eqb (k + 1) n && eqb (i + 1) (count b)) (record_in b i)

-- Block k of n: "0..1 block number from 0; 2 record count; 3 zero; records of 64 bytes from byte 4, at most seven; zeros to byte 509". "Block number ..
-- little-endian."
unfoldable pub block_laid : ℕ → ℕ → List ℕ → Bool
block_laid n k b =
    eqb (get_or b 0 0 + 256 * get_or b 1 0) k && count_laid n k (count b) && eqb (get_or b 3 0) 0
    && all_zero (part (4 + 64 * count b) 510 b) && each_below (count b) (record_at_laid n k b)

-- 15: "any other rule of the layout"
abbrev pub laid_block : List ℕ → ℕ → Bool
laid_block file k = block_laid (blocks file) k (block file k)

abbrev pub unless : Bool → ℕ → ℕ → ℕ
unless ok n later = cond ok later n

-- "in that order": the number of the first refusal that the file meets; 0 for none.
unfoldable pub refusal : List ℕ → ℕ
refusal file =
    unless (whole_blocks (length file)) 13
    (unless (each_below (blocks file) (right_block file)) 14
    (unless (each_below (blocks file) (laid_block file)) 15 0))

-- How many records a file has: seven in each block but the last.
abbrev pub records : List ℕ → ℕ
records file = 7 * (blocks file - 1) + count (block file (blocks file - 1))

-- A file that is a recording, with the number of its records; or the number of its refusal.
pub data Judged : Type 0 where
  recording : ℕ → Judged
  refused : ℕ → Judged

abbrev pub judged : List ℕ → Judged
judged file = cond (eqb (refusal file) 0) (recording (records file)) (refused (refusal file))

-- The record at a place among those of the file, counted from 0: seven to a block.
abbrev pub record_at : List ℕ → ℕ → List ℕ
record_at file i = record_in (block file (i / 7)) (i % 7)
