-- What holds of a file that is a recording. Assumes nothing.
use mathlib.Core.Path.{◌≡◌, refl}
use mathlib.Core.Bool.{Bool, true, false, cond, ◌&&◌}
use mathlib.Core.List.{List}
use Prim.Native.Nat.{ℕ, suc, ◌+◌, ◌-◌, ◌*◌, ◌/◌, ◌%◌, ◌≤◌}
use native.Mathlib.Omega.{arith}
use borrow.Author.Tests.{leb-true, eqb-true}
use lib.Dec.{leb, eqb}
use lib.ListN.{length, get_or}
use Rattle.recording_layout.specs.Definition.{part, all_zero, each_below, record_at_laid, unless, whole_blocks, blocks, block, right_block, count}
use Rattle.recording_layout.specs.Definition.{count_laid, block_laid, laid_block, refusal, records, recording, refused, judged}
use Rattle.recording_layout.proofs.Below.{both, at}

-- a count that is laid
pub seven : (n k c : ℕ) → count_laid n k c ≡ true → c ≤ 7
seven n k c e = go (eqb (k + 1) n) (both (leb (7 * k + c) 256) (cond (eqb (k + 1) n) (leb 1 c && leb c 7) (eqb c 7)) e).1
  where
    go : (t : Bool) → cond t (leb 1 c && leb c 7) (eqb c 7) ≡ true → c ≤ 7
    go true p = leb-true c 7 (both (leb 1 c) (leb c 7) p).1
    go false p = omega (arith, eqb-true c 7 p)

-- a length that is whole blocks
pub record Whole (n : ℕ) : Type 0 where
  pub even : n % 512 ≡ 0
  pub least : 1 ≤ n / 512
  pub most : n / 512 ≤ 37

pub whole : (n : ℕ) → whole_blocks n ≡ true → Whole n
whole n e =
    let p = both (eqb (n % 512) 0 && leb 1 (n / 512)) (leb (n / 512) 37) e in
    let q = both (eqb (n % 512) 0) (leb 1 (n / 512)) p.0 in
    record { even = eqb-true (n % 512) 0 q.0; least = leb-true 1 (n / 512) q.1; most = leb-true (n / 512) 37 p.1 }

-- ---- a file that is a recording

record Recording (file : List ℕ) (n : ℕ) : Type 0 where
  accepted : refusal file ≡ 0
  counts : n ≡ records file

is_recording : (file : List ℕ) (n : ℕ) → judged file ≡ recording n → Recording file n
is_recording file n e = of (eqb (refusal file) 0) refl e
  where
    of : (t : Bool) → eqb (refusal file) 0 ≡ t → cond t (recording (records file)) (refused (refusal file)) ≡ recording n → Recording file n
    of true f g = record { accepted = eqb-true (refusal file) 0 f; counts = (let q : n ≡ records file = cc in q) }
    of false f g = let z : ◌≡◌ {A = ℕ} 0 1 = cc in absurd (omega arith)

passed : (ok : Bool) (n later : ℕ) → unless ok (suc n) later ≡ 0 → (ok ≡ true) × (later ≡ 0)
passed true n later e = (refl, e)
passed false n later e = absurd (let z : ◌≡◌ {A = ℕ} (suc n) 0 = e in omega arith)

laid_count : (n k : ℕ) (b : List ℕ) → block_laid n k b ≡ true → count_laid n k (count b) ≡ true
unfolding block_laid
laid_count n k b e = of (eqb (get_or b 0 0 + 256 * get_or b 1 0) k) (count_laid n k (count b)) (eqb (get_or b 3 0) 0) (all_zero (part (4 + 64 * count b) 510 b))
    (each_below (count b) (record_at_laid n k b)) e
  where
    of : (t u v w x : Bool) → (t && u && v && w && x) ≡ true → u ≡ true
    of t u v w x f = (both t u (both (t && u) v (both (t && u && v) w (both (t && u && v && w) x f).0).0).0).1

-- a recording has at most 256 records, and at most seven to a block
pub counted : (file : List ℕ) (n : ℕ) → judged file ≡ recording n → (n ≤ 256) × (n ≤ 7 * blocks file)
unfolding refusal
counted file n e =
    let r = is_recording file n e in
    let a = passed (whole_blocks (length file)) 12 _ r.accepted in
    let b = passed (each_below (blocks file) (right_block file)) 13 _ a.1 in
    let c = passed (each_below (blocks file) (laid_block file)) 14 _ b.1 in
    let w = whole (length file) a.0 in
    let l = w.least in
    let k = length file / 512 - 1 in
    let laid = laid_count (blocks file) k (block file k) (at (blocks file) (laid_block file) c.0 k (omega arith)) in
    let most = leb-true (7 * k + count (block file k)) 256
    (both (leb (7 * k + count (block file k)) 256)
    (cond (eqb (k + 1) (blocks file)) (leb 1 (count (block file k)) && leb (count (block file k)) 7) (eqb (count (block file k)) 7)) laid).0 in
    let few = seven (blocks file) k (count (block file k)) laid in
    let q : n ≡ 7 * k + count (block file k) = r.counts in
    (omega arith, omega arith)
