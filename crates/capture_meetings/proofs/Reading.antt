-- What a run on one segment reads: the segment's bytes and those that L + 31 bits take beyond them. Assumes nothing.
use mathlib.Core.Path.{◌≡◌, refl, sym, ap, ◌∙◌}
use mathlib.Core.Bool.{Bool, true, false}
use mathlib.Core.List.{List, Memᴰ}
use Prim.Native.Nat.{ℕ, ◌+◌, ◌-◌, ◌*◌, ◌/◌, ◌<◌, ◌≤◌}
use native.Mathlib.Nat.{add-zero}
use native.Mathlib.Omega.{arith}
use borrow.Author.Tests.{ltb-true, ltb-false}
use lib.Dec.{ltb}
use lib.ListN.{length, take, drop, take-append-drop}
use lib.Seq.{take_all, take_at, length-take-le}
use Rattle.finder_windows.specs.Definition.{bits}
use Rattle.finder_windows.proofs.Bits.{bits_append, length_bits, bits_from}
use Rattle.capture_meetings.specs.Meetings.{met, meetings, shift, segment}
use Rattle.capture_meetings.proofs.Members.{segment_member, member_segment}

bits_take : (xs : List ℕ) (n : ℕ) → bits (take n xs) ≡ take (8 * n) (bits xs)
bits_take xs n = by (ltb (length xs) n) refl
  where
    by : (b : Bool) → ltb (length xs) n ≡ b → bits (take n xs) ≡ take (8 * n) (bits xs)
    by true e =
        let short = ltb-true (length xs) n e in
        ap bits (take_all n xs (omega arith)) ∙ sym (take_all (8 * n) (bits xs) (omega (arith, length_bits xs)))
    by false e =
        let long = ltb-false (length xs) n e in
        sym (ap (take (8 * n)) (ap bits (sym (take-append-drop n xs)) ∙ bits_append (take n xs) (drop n xs))
        ∙ take_at (bits (take n xs)) (bits (drop n xs)) (8 * n) (omega (arith, length_bits (take n xs), length-take-le n xs long)))

module _ (m : List ℕ) (t L : ℕ) (X : List ℕ) (from count : ℕ) (inside : from ≤ length X) where
  pub read_is_segment : shift (8 * from) (meetings (bits (take (count + (L + 38) / 8) (drop from X))) m t L)
      ≡ segment (bits X) m t L (8 * from) (8 * (count + (L + 38) / 8) - (L + 31))
  unfolding segment
  read_is_segment =
      let all : 8 * (count + (L + 38) / 8) ≡ 8 * (count + (L + 38) / 8) - (L + 31) + (L + 31) = omega arith in
      let start = ap (λ (k : ℕ). drop k (bits X)) (sym (add-zero (8 * from))) ∙ bits_from X from 0 inside in
      ap (λ (z : List ℕ). shift (8 * from) (meetings z m t L))
      (bits_take (drop from X) (count + (L + 38) / 8) ∙ ap (take (8 * (count + (L + 38) / 8))) (sym start)
      ∙ ap (λ (n : ℕ). take n (drop (8 * from) (bits X))) all)

  -- A meeting in them that begins in the segment's bytes is one of the segment, and each of the segment's is there.
  pub read_member : (p d e : ℕ) → Memᴰ (met p d e) (shift (8 * from) (meetings (bits (take (count + (L + 38) / 8) (drop from X))) m t L))
      → p < 8 * from + 8 * count → Memᴰ (met p d e) (segment (bits X) m t L (8 * from) (8 * count))
  read_member p d e h own =
      let there = segment_member (bits X) m t L (8 * from) _ p d e (rw read_is_segment at h) in
      member_segment (bits X) m t L (8 * from) (8 * count) p d e there.0 there.1 own

  pub member_read : (p d e : ℕ) → Memᴰ (met p d e) (segment (bits X) m t L (8 * from) (8 * count))
      → Memᴰ (met p d e) (shift (8 * from) (meetings (bits (take (count + (L + 38) / 8) (drop from X))) m t L))
  member_read p d e h =
      let there = segment_member (bits X) m t L (8 * from) (8 * count) p d e h in
      rw read_is_segment (member_segment (bits X) m t L (8 * from) _ p d e there.0 there.1 (omega (arith, there.2)))
