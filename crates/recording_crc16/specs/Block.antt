-- A block and its check (document 02, order 8): "blocks of 512 bytes"; "510..511 the CRC-16 .. stored high byte first, over bytes 0..509".
use Rattle.std.specs.Prelude.{Bool, ◌&&◌, List, ℕ, ◌+◌, ◌*◌, eqb, length, take, get_or}
use Rattle.recording_crc16.specs.Remainder.{check}

unfoldable pub right : List ℕ → Bool
right b = eqb (length b) 512 && eqb (check (take 510 b)) (get_or b 510 0 * 256 + get_or b 511 0)
