-- How records become a file (document 02, order 8).
use Rattle.std.specs.Prelude.{ℕ, zero, suc, ◌+◌, ◌-◌, ◌*◌, ◌/◌, ◌%◌, Bool, cond, ◌&&◌, List, [], ◌∷◌, ◌++◌, length, take, drop, replicate, leb, eqb}
use Rattle.standard.specs.Lanes.{digits}
use Rattle.recording_crc16.specs.Remainder.{check}
use Rattle.recording_layout.specs.Definition.{record_at}

-- "0..1 block number from 0; 2 record count; 3 zero; records of 64 bytes from byte 4 ..; zeros to byte 509": of the bytes of the records.
abbrev pub body : ℕ → List ℕ → List ℕ
body k rs = digits 8 2 k ++ (length rs / 64 ∷ 0 ∷ rs) ++ replicate (506 - length rs) 0

-- "510..511 the CRC-16 .. stored high byte first, over bytes 0..509"
abbrev pub sealed : List ℕ → List ℕ
sealed b = b ++ (check b / 256 ∷ check b % 256 ∷ [])

unfoldable pub packed_block : ℕ → List ℕ → List ℕ
packed_block k rs = sealed (body k rs)

-- "All blocks but the last hold seven records": n blocks from block k on.
unfoldable pub packed_from : ℕ → ℕ → List ℕ → List ℕ
packed_from zero k rs = []
packed_from (suc n) k rs = packed_block k (take 448 rs) ++ packed_from n (k + 1) (drop 448 rs)

-- The blocks that so many bytes of records take.
abbrev pub blocks_for : ℕ → ℕ
blocks_for n = (n + 447) / 448

unfoldable pub packed : List ℕ → List ℕ
packed rs = packed_from (blocks_for (length rs)) 0 rs

-- Whether so many bytes are one to 256 records, and as many as a buffer has room for.
abbrev pub whole_records : ℕ → Bool
whole_records n = leb n 16384 && eqb (n % 64) 0 && leb 64 n

abbrev pub fits : ℕ → ℕ → Bool
fits n room = whole_records n && leb (512 * blocks_for n) room

-- The first n records that stand in the blocks of a buffer, one after the other.
unfoldable pub standing : ℕ → List ℕ → List ℕ
standing zero out = []
standing (suc n) out = standing n out ++ record_at out n

-- A buffer whose first n records have become a file at its start, or as it was.
abbrev pub sealed_into : ℕ → List ℕ → List ℕ
sealed_into n out = cond (fits (64 * n) (length out)) (packed (standing n out) ++ drop (512 * blocks_for (64 * n)) out) out
