-- Blocks mended one after the other. Assumes nothing.
use mathlib.Core.Path.{◌≡◌, refl, sym, ap, ap₂, ◌∙◌, subst}
use mathlib.Core.Bool.{Bool, true, false, cond}
use mathlib.Core.List.{List, [], ◌∷◌, ◌++◌, append_assoc, append-nil}
use Prim.Native.Nat.{ℕ, zero, suc, ◌+◌, ◌-◌, ◌*◌, ◌/◌, ◌%◌, ◌^◌, ◌<◌, ◌≤◌}
use native.Mathlib.Nat.{add-zero, zero-add, suc-add, sub-zero, not-suc-le-zero, le_of_suc-le-suc}
use native.Mathlib.Numerals.{add-one}
use native.Mathlib.Decide.{dec_le}
use native.Mathlib.Omega.{arith}
use borrow.Author.Tests.{ltb-true, leb-true, lt-ltb}
use borrow.Rule.Slice.PartMut.{put_mid, Post-is}
use lib.Dec.{ltb, leb}
use lib.ListN.{length, get_or, set, take, drop, replicate, length-append, length-take, length-drop, length-set}
use lib.Seq.{take_at, drop_at, drop-drop, set_at, append_snoc}
use Rattle.recording_crc16.specs.Remainder.{◌⊕◌}
use Rattle.recording_crc16.specs.Block.{right}
use Rattle.recording_layout.specs.Definition.{whole_blocks, blocks, block}
use Rattle.recording_mending_rules.specs.Definition.{flipped, bit_from, Mended, kept, put_back, beyond, mended, block_of, bit_of, is_mended, written}
use Rattle.recording_mending_rules.specs.Definition.{blocks_from, bits_from, Mending, refused, written_over, done, mending}

-- ---- lists of blocks and of bits

-- what is written of block k, and the bit put back in it
abbrev pub block_out : List ℕ → ℕ → List ℕ
block_out file k = block_of (block file k) (mended (block file k))

abbrev pub bit_out : List ℕ → ℕ → ℕ
bit_out file k = bit_of (mended (block file k))

module _ (file : List ℕ) where
  blocks_apart : (n m k : ℕ) → blocks_from (n + m) k file ≡ blocks_from n k file ++ blocks_from m (k + n) file
  unfolding blocks_from
  blocks_apart zero m k = ap₂ (λ (i j : ℕ). blocks_from i j file) (zero-add m) (sym (add-zero k))
  blocks_apart (suc n) m k =
      ap (λ (i : ℕ). blocks_from i k file) (suc-add n m)
      ∙ ap (λ (t : List ℕ). block_out file k ++ t)
      (blocks_apart n m (k + 1) ∙ ap (λ (i : ℕ). blocks_from n (k + 1) file ++ blocks_from m i file) (let e : k + 1 + n ≡ k + suc n = omega arith in e))
      ∙ sym (append_assoc (block_out file k) (blocks_from n (k + 1) file) (blocks_from m (k + suc n) file))

  blocks_more : (n k : ℕ) → blocks_from (n + 1) k file ≡ blocks_from n k file ++ block_out file (k + n)
  unfolding blocks_from
  blocks_more n k = blocks_apart n 1 k ∙ ap (λ (t : List ℕ). blocks_from n k file ++ t) (append-nil (block_out file (k + n)))

  bits_more : (n k : ℕ) → bits_from (suc n) k file ≡ bits_from n k file ++ (bit_out file (k + n) ∷ [])
  unfolding bits_from
  bits_more zero k = ap (λ (i : ℕ). bit_out file i ∷ []) (sym (add-zero k))
  bits_more (suc n) k =
      ap (λ (t : List ℕ). bit_out file k ∷ t)
      (bits_more n (k + 1) ∙ ap (λ (i : ℕ). bits_from n (k + 1) file ++ (bit_out file i ∷ [])) (let e : k + 1 + n ≡ k + suc n = omega arith in e))

  length_bits : (n k : ℕ) → length (bits_from n k file) ≡ n
  unfolding bits_from
  length_bits zero k = refl
  length_bits (suc n) k = ap suc (length_bits n (k + 1))

  length_block : (k : ℕ) → 512 * (k + 1) ≤ length file → length (block file k) ≡ 512
  length_block k h = rw (length-take, length-drop) (omega arith)

  length_mended : (b : List ℕ) (m : Mended) → length (block_of b m) ≡ length b
  unfolding flipped
  length_mended b kept = refl
  length_mended b (put_back k) = length-set b (k / 8) (get_or b (k / 8) 0 ⊕ (2 ^ (7 - k % 8)))
  length_mended b beyond = refl

  length_out : (k : ℕ) → 512 * (k + 1) ≤ length file → length (block_out file k) ≡ 512
  length_out k h = length_mended (block file k) (mended (block file k)) ∙ length_block k h

  length_blocks : (n k : ℕ) → 512 * (k + n) ≤ length file → length (blocks_from n k file) ≡ 512 * n
  unfolding blocks_from
  length_blocks zero k h = refl
  length_blocks (suc n) k h =
      length-append (block_out file k) (blocks_from n (k + 1) file)
      ∙ ap₂ ◌+◌ (length_out k (omega arith)) (length_blocks n (k + 1) (omega arith))
      ∙ (let e : 512 + 512 * n ≡ 512 * suc n = omega arith in e)

  -- block k and bit k of n, whatever stands behind them
  pub block_at : (n k : ℕ) (rest : List ℕ) → k < n → 512 * n ≤ length file → block (blocks_from n 0 file ++ rest) k ≡ block_out file k
  unfolding blocks_from
  block_at n k rest h l =
      let before = blocks_from k 0 file in
      let after = blocks_from (n - (k + 1)) (k + 1) file in
      let split : blocks_from n 0 file ≡ before ++ (block_out file k ++ after) =
      ap (λ (i : ℕ). blocks_from i 0 file) (let e : n ≡ k + suc (n - (k + 1)) = omega arith in e)
      ∙ blocks_apart k (suc (n - (k + 1))) 0 ∙ ap (λ (i : ℕ). before ++ blocks_from (suc (n - (k + 1))) i file) (zero-add k) in
      let split_all : blocks_from n 0 file ++ rest ≡ before ++ (block_out file k ++ (after ++ rest)) =
      ap (λ (t : List ℕ). t ++ rest) split ∙ append_assoc before (block_out file k ++ after) rest
      ∙ ap (λ (t : List ℕ). before ++ t) (append_assoc (block_out file k) after rest) in
      ap₂ (λ (i : ℕ) (t : List ℕ). take i (drop (512 * k) t)) (let e : 512 * k + 512 - 512 * k ≡ 512 = omega arith in e) split_all
      ∙ ap (take 512) (drop_at before (block_out file k ++ (after ++ rest)) (512 * k) (length_blocks k 0 (let z = zero-add k in omega arith)))
      ∙ take_at (block_out file k) (after ++ rest) 512 (length_out k (omega arith))

  pub bit_at : (n k i : ℕ) (rest : List ℕ) (d : ℕ) → i < n → get_or (bits_from n k file ++ rest) i d ≡ bit_out file (k + i)
  unfolding bits_from
  bit_at zero k i rest d h = absurd (not-suc-le-zero h)
  bit_at (suc n) k zero rest d h = ap (bit_out file) (sym (add-zero k))
  bit_at (suc n) k (suc i) rest d h =
      bit_at n (k + 1) i rest d (le_of_suc-le-suc h) ∙ ap (bit_out file) (let e : k + 1 + i ≡ k + suc i = omega arith in e)

  -- behind n blocks the output is as it was
  pub behind : (n k : ℕ) (out : List ℕ) → n ≤ k → 512 * n ≤ length file → drop (512 * k) (blocks_from n 0 file ++ drop (512 * n) out) ≡ drop (512 * k) out
  behind n k out h l =
      let further : 512 * k ≡ 512 * n + 512 * (k - n) = omega arith in
      let written-blocks = blocks_from n 0 file in
      rw further
      (sym (drop-drop (512 * (k - n)) (512 * n) (written-blocks ++ drop (512 * n) out))
      ∙ ap (drop (512 * (k - n))) (drop_at written-blocks (drop (512 * n) out) (512 * n) (length_blocks n 0 (let z = zero-add n in omega arith)))
      ∙ drop-drop (512 * (k - n)) (512 * n) out)

  -- one block more in the output
  module _ (k : ℕ) (h : 512 * (k + 1) ≤ length file) (out out₀ y : List ℕ) (e : out ≡ blocks_from k 0 file ++ drop (512 * k) out₀)
      (p : y ≡ block_out file k) where
    pub block_put : put_mid (512 * k) (512 * k + 512 - 512 * k) out y ≡ blocks_from (k + 1) 0 file ++ drop (512 * (k + 1)) out₀
    block_put =
        let l = length_blocks k 0 (let z = zero-add k in omega arith) in
        let front : take (512 * k) out ≡ blocks_from k 0 file = ap (take (512 * k)) e ∙ take_at (blocks_from k 0 file) (drop (512 * k) out₀) (512 * k) l in
        let back : drop (512 * k + 512) out ≡ drop (512 * (k + 1)) out₀ =
        sym (drop-drop 512 (512 * k) out) ∙ ap (drop 512) (ap (drop (512 * k)) e ∙ drop_at (blocks_from k 0 file) (drop (512 * k) out₀) (512 * k) l)
        ∙ drop-drop 512 (512 * k) out₀ ∙ ap (λ (i : ℕ). drop i out₀) (let q : 512 * k + 512 ≡ 512 * (k + 1) = omega arith in q) in
        ap₂ (λ (a b : List ℕ). a ++ (y ++ b)) front (Post-is (512 * k) (512 * k + 512) out (omega arith) ∙ back)
        ∙ sym (append_assoc (blocks_from k 0 file) y (drop (512 * (k + 1)) out₀))
        ∙ ap (λ (t : List ℕ). blocks_from k 0 file ++ t ++ drop (512 * (k + 1)) out₀) (p ∙ ap (block_out file) (sym (zero-add k)))
        ∙ ap (λ (t : List ℕ). t ++ drop (512 * (k + 1)) out₀) (sym (blocks_more k 0))

  -- one bit more in the answer
  pub bit_put : (k : ℕ) (bits : List ℕ) {r : ℕ} → k < 37 → bits ≡ bits_from k 0 file ++ replicate (37 - k) 4096 → bit_out file k ≡ r
      → set bits k r ≡ bits_from (k + 1) 0 file ++ replicate (37 - (k + 1)) 4096
  bit_put k bits {r} h e f =
      let left : 37 - k ≡ suc (37 - (k + 1)) = omega arith in
      ap (λ (t : List ℕ). set t k r) (e ∙ ap (λ (n : ℕ). bits_from k 0 file ++ replicate n 4096) left)
      ∙ set_at (bits_from k 0 file) 4096 (replicate (37 - (k + 1)) 4096) r k (length_bits k 0)
      ∙ sym (append_snoc (bits_from k 0 file) r (replicate (37 - (k + 1)) 4096))
      ∙ ap (λ (t : List ℕ). t ++ replicate (37 - (k + 1)) 4096)
      (ap (λ (x : ℕ). bits_from k 0 file ++ (x ∷ [])) (sym f ∙ ap (bit_out file) (sym (zero-add k))) ∙ sym (bits_more k 0)
      ∙ ap (λ (i : ℕ). bits_from i 0 file) (sym (add-one k)))

  -- ---- how many blocks are written

  module _ (n k : ℕ) (h : k < n) where
    pub one_more : is_mended (mended (block file k)) ≡ true → k + written (n - k) k file ≡ k + 1 + written (n - (k + 1)) (k + 1) file
    unfolding written
    one_more e =
        let left : n - k ≡ suc (n - (k + 1)) = omega arith in
        rw (left, e) (omega arith)

    pub no_more : is_mended (mended (block file k)) ≡ false → k + written (n - k) k file ≡ k
    unfolding written
    no_more e =
        let left : n - k ≡ suc (n - (k + 1)) = omega arith in
        rw (left, e) (add-zero k)

  pub none_left : (n k : ℕ) → n ≤ k → k + written (n - k) k file ≡ k
  unfolding written
  none_left n k h = let left : n - k ≡ 0 = omega arith in rw left (add-zero k)

  -- the answer where the walk ends
  pub ended : (k : ℕ) (stopped : Bool) (bits out out₀ : List ℕ) → k ≡ written (blocks file) 0 file → stopped ≡ ltb k (blocks file) → bits
      ≡ bits_from k 0 file ++ replicate (37 - k) 4096
      → out ≡ blocks_from k 0 file ++ drop (512 * k) out₀
      → ◌≡◌ {A = Mending × List ℕ} (record { refusal = 0; blocks = k; stopped = stopped; bits = bits }, out) (done file out₀)
  unfolding done
  ended k stopped bits out out₀ e s b o = rw (s, b, o, ← e)

-- ---- what is written has room

pub written_le : (n k : ℕ) (file : List ℕ) → written n k file ≤ n
unfolding written
written_le zero k file = omega arith
written_le (suc n) k file = of (is_mended (mended (block file k))) (written_le n (k + 1) file)
  where
    of : (t : Bool) → written n (k + 1) file ≤ n → cond t (suc (written n (k + 1) file)) 0 ≤ suc n
    of true h = omega arith
    of false h = omega arith

pub in_room : (file out : List ℕ) → 512 * (mending file out).0.blocks ≤ length out
unfolding mending done
in_room file out = of (whole_blocks (length file)) (leb (length file) (length out)) refl
  where
    of : (t u : Bool) → leb (length file) (length out) ≡ u
        → 512 * (cond {A = Mending × List ℕ} t (cond u (written_over (written (blocks file) 0 file) file out) (refused 16, out))
        (refused 13, out)).0.blocks ≤ length out
    of true true e = let l = leb-true (length file) (length out) e in let h = written_le (blocks file) 0 file in omega arith
    of true false e = omega arith
    of false u e = omega arith

-- ---- a block of n that the walk comes to

module _ (file : List ℕ) (n : ℕ) where
  come_to : (k : ℕ) → k ≤ written n 0 file → written n 0 file ≡ k + written (n - k) k file
  come_to zero h = rw sub-zero (sym (zero-add _))
  come_to (suc k) h = of (is_mended (mended (block file k))) refl (come_to k (omega arith))
    where
      less : k < n
      less = omega (arith, written_le n 0 file)

      of : (t : Bool) → is_mended (mended (block file k)) ≡ t → written n 0 file ≡ k + written (n - k) k file → written n 0 file
          ≡ suc k + written (n - suc k) (suc k) file
      of true e w = w ∙ one_more file n k less e ∙ ap (λ (i : ℕ). i + written (n - i) i file) (add-one k)
      of false e w = absurd (omega (arith, no_more file n k less e))

  module _ (k : ℕ) (h : k < n) where
    pub goes_on : is_mended (mended (block file k)) ≡ true → k ≤ written n 0 file → k < written n 0 file
    goes_on e w = omega (arith, come_to k w, one_more file n k h e)

    pub stops : is_mended (mended (block file k)) ≡ false → k ≤ written n 0 file → written n 0 file ≡ k
    stops e w = come_to k w ∙ no_more file n k h e

    pub never_past : is_mended (mended (block file k)) ≡ false → written n 0 file ≤ k
    never_past e = of (dec_le (written n 0 file) k)
      where
        of : Dec (written n 0 file ≤ k) → written n 0 file ≤ k
        of (yes w) = w
        of (no w) = let last = stops e (omega arith) in omega arith
