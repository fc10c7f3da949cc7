-- `recording_crc16::check` meets its contract. The loop's invariant: the register is that after the bytes passed. Assumes nothing.
use mathlib.Core.Path.{◌≡◌}
use lib.ListN.{take}
use Rattle.recording_crc16.specs.Remainder.{run, spread}
use Rattle.recording_crc16.proofs.check.Given as goal

abbrev pub invariant-loop-byte : goal.invariant-loop-byte
invariant-loop-byte l = l.r ≡ run 65535 (spread (take l.byte-index l.bytes))
