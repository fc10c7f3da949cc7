-- A block of bytes: its check and its bits, and what the place that a check tells makes of it. Assumes nothing.
use mathlib.Core.Path.{◌≡◌, refl, sym, ap, ap₂, ◌∙◌, subst}
use mathlib.Core.Bool.{Bool, true, false, cond}
use mathlib.Core.List.{List}
use Prim.Native.Nat.{ℕ, zero, suc, ◌+◌, ◌-◌, ◌*◌, ◌/◌, ◌%◌, ◌^◌, ◌<◌, ◌≤◌}
use native.Mathlib.Nat.{add-zero}
use native.Mathlib.Decide.{ℕ_discrete}
use native.Mathlib.Omega.{arith}
use borrow.Author.Tests.{eqb-true, eq-eqb, lt-ltb}
use lib.Dec.{eqb, lit<}
use lib.Pow.{pow-lt}
use lib.ListN.{length, take, get_or, set, length-set}
use lib.Seq.{take_all, set-set, get_or-set_same, get_or-set_other, set-get_or}
use Rattle.recording_crc16.specs.Remainder.{◌⊕◌, run, bits, spread, check}
use Rattle.recording_crc16.specs.Powers.{times}
use Rattle.recording_crc16.specs.Block.{right}
use Rattle.recording_crc16.proofs.Xor.{⊕-assoc, ⊕-lt, ⊕-self, ⊕-0, ⊕-same, ⊕-shifted}
use Rattle.recording_crc16.proofs.Shift.{times-⊕, times_add, times_0, times_small, times_kernel}
use Rattle.recording_crc16.proofs.Chunk.{run_lt}
use Rattle.recording_crc16.proofs.Bytes.{run_byte, run_next}
use Rattle.recording_layout.proofs.Below.{both}
use Rattle.recording_mending_rules.specs.Definition.{flipped, bit_from, kept, put_back, beyond, mended, block_of}
use Rattle.recording_mending_rules.specs.Place.{Place}
use Rattle.recording_mending_rules.proofs.Bits.{Right, flip}
use Rattle.recording_mending_rules.proofs.Apart.{apart}
use Rattle.recording_mending_rules.proofs.Flip.{run_flip}
use Rattle.recording_mending_rules.proofs.Spread.{spread_set, length_spread}
use Rattle.recording_mending_rules.proofs.Theorems.{one_flip, two_flips}

-- 512 bytes
pub record Block (b : List ℕ) : Type 0 where
  pub long : length b ≡ 512
  pub bytes : (i : ℕ) → get_or b i 0 < 256

-- two bytes more
two_bytes : (r hi lo : ℕ) → hi < 256 → lo < 256 → run (run r (bits 8 hi)) (bits 8 lo) ≡ times 16 (r ⊕ (hi * 256 + lo))
two_bytes r hi lo hh hl =
    run_byte (run r (bits 8 hi)) lo hl
    ∙ ap₂ (λ (x y : ℕ). times 8 (x ⊕ y)) (run_byte r hi hh) (sym (times_small 8 lo (omega arith)))
    ∙ ap (times 8) (sym (times-⊕ 8 (r ⊕ (hi * 256)) lo))
    ∙ times_add 8 8 ((r ⊕ (hi * 256)) ⊕ lo)
    ∙ ap (times 16) (⊕-assoc r (hi * 256) lo ∙ ap (λ (x : ℕ). r ⊕ x) (⊕-shifted hi 8 lo hl))

module _ (s : List ℕ) (block : Block s) where
  long : length s ≡ 512
  long = block.long

  whole : run 65535 (spread s) ≡ times 16 (run 65535 (spread (take 510 s)) ⊕ (get_or s 510 0 * 256 + get_or s 511 0))
  whole =
      let l = long in
      ap (λ (l : List ℕ). run 65535 (spread l)) (sym (take_all 512 s (omega arith)))
      ∙ run_next s 511 65535 (omega arith)
      ∙ ap (λ (x : ℕ). run x (bits 8 (get_or s 511 0))) (run_next s 510 65535 (omega arith))
      ∙ two_bytes (run 65535 (spread (take 510 s))) (get_or s 510 0) (get_or s 511 0) (block.bytes 510) (block.bytes 511)

  -- the check stands in the last two bytes just where nothing is left after all of them
  pub right_zero : right s ≡ true → check s ≡ 0
  unfolding right check
  right_zero e =
      let f = (both (eqb (length s) 512) (eqb (run 65535 (spread (take 510 s))) (get_or s 510 0 * 256 + get_or s 511 0)) e).1 in
      whole ∙ ap (λ (x : ℕ). times 16 (x ⊕ given)) (eqb-true _ _ f) ∙ ap (times 16) (⊕-self given) ∙ times_0 16
    where
      given : ℕ
      given = get_or s 510 0 * 256 + get_or s 511 0

  pub zero_right : check s ≡ 0 → right s ≡ true
  unfolding right check
  zero_right e =
      rw (eq-eqb _ _ long) (eq-eqb _ _ (⊕-same found given
      (times_kernel 16 (found ⊕ given) (⊕-lt 16 found given (run_lt (spread (take 510 s)) 65535 (lit< tt)) small) (sym whole ∙ e))))
    where
      found : ℕ
      found = run 65535 (spread (take 510 s))

      given : ℕ
      given = get_or s 510 0 * 256 + get_or s 511 0

      small : get_or s 510 0 * 256 + get_or s 511 0 < 65536
      small = omega (arith, block.bytes 510, block.bytes 511)

  pub not_zero : (check s ≡ 0 → ⊥) → right s ≡ false
  not_zero ne = of (right s) refl
    where
      of : (t : Bool) → right s ≡ t → right s ≡ false
      of true e = absurd (ne (right_zero e))
      of false e = e

  -- ---- a bit of the block

  place : (k : ℕ) → k < 4096 → k / 8 < length s
  place k h = let l = long in omega arith

  spread_long : length (spread s) ≡ 4096
  spread_long = let l = long in omega (arith, length_spread s)

  pub spread_flipped : (k : ℕ) → k < 4096 → spread (flipped k s) ≡ flip k (spread s)
  unfolding flipped
  spread_flipped k h = spread_set s (k / 8) (k % 8) k (omega arith) (place k h) (omega arith)

  -- the register of a block with a bit flipped
  pub bent : (k : ℕ) → k < 4096 → check (flipped k s) ≡ check s ⊕ times (4096 - k) 32768
  unfolding check
  bent k h =
      ap (run 65535) (spread_flipped k h)
      ∙ run_flip k (spread s) 65535 (let l = spread_long in omega arith)
      ∙ ap (λ (n : ℕ). run 65535 (spread s) ⊕ times (n - k) 32768) spread_long

  pub flipped_twice : (k : ℕ) → k < 4096 → flipped k (flipped k s) ≡ s
  unfolding flipped
  flipped_twice k h =
      set-set s i v (get_or (set s i v) i 0 ⊕ p)
      ∙ ap (set s i) (ap (λ (x : ℕ). x ⊕ p) (get_or-set_same s i v 0 (place k h)) ∙ ⊕-assoc (get_or s i 0) p p
      ∙ ap (λ (x : ℕ). get_or s i 0 ⊕ x) (⊕-self p) ∙ ⊕-0 (get_or s i 0))
      ∙ set-get_or s i 0
    where
      i : ℕ
      i = k / 8

      p : ℕ
      p = 2 ^ (7 - k % 8)

      v : ℕ
      v = get_or s i 0 ⊕ p

  -- a block with a bit flipped is a block
  pub still_block : (k : ℕ) → k < 4096 → Block (flipped k s)
  unfolding flipped
  still_block k h =
      record {
        long = length-set s (k / 8) (get_or s (k / 8) 0 ⊕ (2 ^ (7 - k % 8))) ∙ long;
        bytes = λ i. go i (ℕ_discrete i (k / 8));
      }
    where
      v : ℕ
      v = get_or s (k / 8) 0 ⊕ (2 ^ (7 - k % 8))

      hv : get_or s (k / 8) 0 ⊕ (2 ^ (7 - k % 8)) < 256
      hv = ⊕-lt 8 (get_or s (k / 8) 0) (2 ^ (7 - k % 8)) (block.bytes (k / 8)) (pow-lt {j = 8} (omega arith))

      go : (i : ℕ) → Dec (i ≡ k / 8) → get_or (set s (k / 8) v) i 0 < 256
      go i (yes e) = subst (λ (x : ℕ). x < 256) (sym (ap (λ (j : ℕ). get_or (set s (k / 8) v) j 0) e ∙ get_or-set_same s (k / 8) v 0 (place k h))) hv
      go i (no n) = subst (λ (x : ℕ). x < 256) (sym (get_or-set_other s (k / 8) i v 0 n)) (block.bytes i)

-- ---- which flips make a block right

module _ (s : List ℕ) (block : Block s) (k : ℕ) (h : k < 4096) where
  pub right_flip : times (4096 - k) 32768 ≡ check s → right (flipped k s) ≡ true
  right_flip e =
      zero_right (flipped k s) (still_block s block k h) (bent s block k h ∙ ap (λ (x : ℕ). check s ⊕ x) e ∙ ⊕-self (check s))

  pub flip_right : right (flipped k s) ≡ true → times (4096 - k) 32768 ≡ check s
  flip_right e =
      sym (⊕-same (check s) (times (4096 - k) 32768) (sym (bent s block k h) ∙ right_zero (flipped k s) (still_block s block k h) e))

-- ---- the first right flip is the one that the check tells

module _ (s : List ℕ) (block : Block s) where
  other : (q k j : ℕ) → q ≡ check s → Place q k → k < 4096 → j < 4096 → (j ≡ k → ⊥) → right (flipped j s) ≡ false
  other q k j e p hk hj ne = of (right (flipped j s)) refl
    where
      of : (t : Bool) → right (flipped j s) ≡ t → right (flipped j s) ≡ false
      of true f =
          let same : 4096 - j ≡ 4096 - k = apart (4096 - j) (4096 - k) (omega arith) (omega arith) (flip_right s block j hj f ∙ sym e ∙ sym (p.found hk)) in
          absurd (ne (omega arith))
      of false f = f

  none_right : (q k j : ℕ) → q ≡ check s → Place q k → 4096 ≤ k → j < 4096 → right (flipped j s) ≡ false
  none_right q k j e p hk hj = of (right (flipped j s)) refl
    where
      of : (t : Bool) → right (flipped j s) ≡ t → right (flipped j s) ≡ false
      of true f = absurd (p.none hk j hj (flip_right s block j hj f ∙ sym e))
      of false f = f

  -- a walk that passes only flips that are not right
  passing : (n j : ℕ) → ((i : ℕ) → j ≤ i → i < j + n → right (flipped i s) ≡ false) → bit_from n j s ≡ j + n
  unfolding bit_from
  passing zero j f = sym (add-zero j)
  passing (suc n) j f =
      rw (f j (omega arith) (omega arith)) (passing n (j + 1) (λ i a b. f i (omega arith) (omega arith)) ∙ (let e : j + 1 + n ≡ j + suc n = omega arith in e))

  reaching : (n j k : ℕ) → j ≤ k → k < j + n → right (flipped k s) ≡ true → ((i : ℕ) → i < k → right (flipped i s) ≡ false) → bit_from n j s ≡ k
  unfolding bit_from
  reaching zero j k a b r f = absurd (omega arith)
  reaching (suc n) j k a b r f = of (ℕ_discrete j k) (λ c. reaching n (j + 1) k c (omega arith) r f)
    where
      of : Dec (j ≡ k) → (j + 1 ≤ k → bit_from n (j + 1) s ≡ k) → cond (right (flipped j s)) j (bit_from n (j + 1) s) ≡ k
      of (yes e) go = rw (ap (λ (i : ℕ). right (flipped i s)) e ∙ r) e
      of (no e) go = rw (f j (omega arith)) (go (omega arith))

  -- what becomes of the block, by what its check tells
  pub stays : check s ≡ 0 → mended s ≡ kept
  unfolding mended
  stays e = rw (zero_right s block e)

  module _ (q k : ℕ) (e : q ≡ check s) (ne : q ≡ 0 → ⊥) (p : Place q k) where
    wrong : right s ≡ false
    wrong = not_zero s block (λ z. ne (e ∙ z))

    pub turns : k < 4096 → mended s ≡ put_back k
    unfolding mended
    turns h =
        let b : bit_from 4096 0 s ≡ k = reaching 4096 0 k (omega arith) (omega arith) (right_flip s block k h (p.found h ∙ e))
        (λ i l. other q k i e p h (omega arith) (omega arith)) in
        rw (wrong, b, lt-ltb k 4096 h)

    pub fails : 4096 ≤ k → mended s ≡ beyond
    unfolding mended
    fails h =
        let b : bit_from 4096 0 s ≡ 4096 = passing 4096 0 (λ i a l. none_right q k i e p h (omega arith)) in
        rw (wrong, b)

-- ---- the two theorems, on bytes

sent : (b : List ℕ) (block : Block b) → right b ≡ true → Right (spread b)
unfolding Right check
sent b block e = right_zero b block e

refuted : (x : Bool) → (x ≡ true → ⊥) → x ≡ false
refuted true f = absurd (f refl)
refuted false f = refl

module _ (b : List ℕ) (block : Block b) (e : right b ≡ true) where
  -- a flip of a block that is right shows in its bits
  shown : (k : ℕ) (s : List ℕ) (h : Block s) → k < 4096 → right (flipped k s) ≡ true → Right (flip k (spread s))
  shown k s h l r = subst Right (spread_flipped s h k l) (sent (flipped k s) (still_block s h k l) r)

  shown_again : (j k : ℕ) → j < 4096 → k < 4096 → right (flipped k (flipped j b)) ≡ true → Right (flip k (flip j (spread b)))
  shown_again j k hj hk r = subst (λ (l : List Bool). Right (flip k l)) (spread_flipped b block j hj) (shown k (flipped j b) (still_block b block j hj) hk r)

  -- one bit flipped, anywhere in the 4,096: that bit is put back, and the block comes out as it was sent
  pub one_bit : (j : ℕ) → j < 4096 → mended (flipped j b) ≡ put_back j
  unfolding mended
  one_bit j h =
      let bits_of = one_flip (spread b) (spread_long b block) (sent b block e) j h in
      let not_right = refuted (right (flipped j b)) (λ r. bits_of.0 (shown j b block h r)) in
      let first : bit_from 4096 0 (flipped j b) ≡ j =
      reaching (flipped j b) (still_block b block j h) 4096 0 j (omega arith) (omega arith) (ap right (flipped_twice b block j h) ∙ e)
      (λ i l. refuted (right (flipped i (flipped j b))) (λ r. let same = bits_of.2 i (omega arith) (shown_again j i h (omega arith) r) in omega arith)) in
      rw (not_right, first, lt-ltb j 4096 h)

  pub as_sent : (j : ℕ) → j < 4096 → block_of (flipped j b) (mended (flipped j b)) ≡ b
  as_sent j h = ap (block_of (flipped j b)) (one_bit j h) ∙ flipped_twice b block j h

  -- two bits flipped: the block is never altered, it is neither kept as right nor changed
  pub two_bits : (i j : ℕ) → i < 4096 → j < 4096 → (i ≡ j → ⊥) → mended (flipped j (flipped i b)) ≡ beyond
  unfolding mended
  two_bits i j hi hj ne =
      let bits_of = two_flips (spread b) (spread_long b block) (sent b block e) i j hi hj ne in
      let s = flipped j (flipped i b) in
      let h = still_block b block i hi in
      let not_right = refuted (right s) (λ r. bits_of.0 (shown_again i j hi hj r)) in
      let none : bit_from 4096 0 s ≡ 4096 =
      passing s (still_block (flipped i b) h j hj) 4096 0
      (λ k a l. refuted (right (flipped k s)) (λ r. bits_of.1 k (omega arith)
      (subst (λ (l : List Bool). Right (flip k (flip j l))) (spread_flipped b block i hi)
      (subst (λ (l : List Bool). Right (flip k l)) (spread_flipped (flipped i b) h j hj) (shown k s (still_block (flipped i b) h j hj) (omega arith) r))))) in
      rw (not_right, none)
