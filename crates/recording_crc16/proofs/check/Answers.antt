-- `recording_crc16::check` meets its contract. The loop's invariant: the register is that after the bytes passed. Assumes nothing.
use mathlib.Core.Path.{◌≡◌, refl, sym, ap, ◌∙◌}
use mathlib.Core.List.{List}
use Prim.Native.Nat.{ℕ, ◌+◌, ◌<◌}
use native.Mathlib.Numerals.{add-one}
use native.Mathlib.Omega.{arith}
use lib.ListN.{length, take, get_or}
use lib.Seq.{take_all}
use Rattle.recording_crc16.specs.Remainder.{run, bits, spread, check}
use Rattle.recording_crc16.proofs.Bytes.{run_next}
use Rattle.recording_crc16.proofs.check.Goals as goal

pub loop-byte-init : goal.loop-byte-init
unfolding run spread
loop-byte-init c = refl

next : (s : List ℕ) (i r q : ℕ) → i < length s → r ≡ run 65535 (spread (take i s)) → q ≡ run r (bits 8 (get_or s i 0))
    → q ≡ run 65535 (spread (take (i + 1) s))
next s i r q h e f =
    f ∙ ap (λ (x : ℕ). run x (bits 8 (get_or s i 0))) e ∙ sym (run_next s i 65535 h) ∙ ap (λ (n : ℕ). run 65535 (spread (take n s))) (sym (add-one i))

pub loop-byte-preserved : goal.loop-byte-preserved
loop-byte-preserved c =
    next c.args.bytes.now c.loop-byte.byte-index c.loop-byte.r
    c.feed-r.result (omega arith) c.loop-byte.invariant c.feed-r.ensures

pub returns : goal.returns
unfolding check
returns c =
    c.loop-byte.invariant
    ∙ ap (λ (l : List ℕ). run 65535 (spread l)) (take_all c.loop-byte.byte-index c.args.bytes.now (omega arith))
