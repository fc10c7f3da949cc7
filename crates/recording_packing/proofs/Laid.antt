-- Packed records are a recording: of one to 256 records that the rules allow, the file is judged to have them all, and each is found at its place. Assumes
-- nothing.
use mathlib.Core.Path.{◌≡◌, sym, ap, ap₂, ◌∙◌}
use mathlib.Core.Bool.{true, cond, ◌&&◌}
use mathlib.Core.List.{List}
use Prim.Native.Nat.{ℕ, ◌+◌, ◌-◌, ◌*◌, ◌/◌, ◌%◌, ◌≤◌, ◌<◌, min}
use native.Mathlib.Nat.{zero-add}
use native.Mathlib.Decide.{ℕ_discrete}
use native.Mathlib.Omega.{arith}
use borrow.Author.Tests.{eq-eqb, ne_eqb, le-leb}
use lib.Dec.{leb, eqb}
use lib.ListN.{length, get_or, take, drop, length-take, length-drop}
use lib.Seq.{drop-drop}
use Rattle.recording_layout.specs.Definition.{whole_blocks, blocks, block, right_block, all_zero, part, record_laid, record_in, record_at_laid, count}
use Rattle.recording_layout.specs.Definition.{count_laid, block_laid, laid_block, each_below, refusal, records, recording, judged, record_at}
use Rattle.recording_layout.proofs.Below.{all}
use Rattle.recording_packing.specs.Definition.{packed_block, blocks_for, packed}
use Rattle.recording_packing.proofs.Blocks.{length_packed}
use Rattle.recording_packing.proofs.Standing.{inner}
use Rattle.recording_packing.proofs.Parts.{opened, right_packed, zeros_packed, record_packed, block_packed}

-- The record at a place of a list of records.
abbrev pub nth : List ℕ → ℕ → List ℕ
nth rs i = take 64 (drop (64 * i) rs)

-- One to 256 records, each by the rules of the layout.
pub record Lawful (N : ℕ) (rs : List ℕ) : Type 0 where
  pub long : length rs ≡ 64 * N
  pub least : 1 ≤ N
  pub most : N ≤ 256
  pub each : (i : ℕ) → i < N → record_laid (eqb (i + 1) N) (nth rs i) ≡ true

-- two tests that pass together
alike : (a b c d : ℕ) → (a ≡ b → c ≡ d) → (c ≡ d → a ≡ b) → eqb a b ≡ eqb c d
alike a b c d f g = go (ℕ_discrete a b)
  where
    go : Dec (a ≡ b) → eqb a b ≡ eqb c d
    go (yes e) = eq-eqb a b e ∙ sym (eq-eqb c d (f e))
    go (no e) = ne_eqb a b e ∙ sym (ne_eqb c d (λ p. e (g p)))

module _ (N : ℕ) (rs : List ℕ) (lawful : Lawful N rs) where
  n : ℕ
  n = blocks_for (length rs)

  file : List ℕ
  file = packed rs

  -- the records of block k
  inside : ℕ → List ℕ
  inside k = take 448 (drop (448 * k) rs)

  held : ℕ → ℕ
  held k = min 7 (N - 7 * k)

  ceiling : (7 * (n - 1) < N) × (N ≤ 7 * n) × (1 ≤ n) × (n ≤ 37)
  unfolding n
  ceiling = let e = lawful.long in let l = lawful.least in let m = lawful.most in (omega arith, omega arith, omega arith, omega arith)

  length_inside : (k : ℕ) → length (inside k) ≡ 64 * held k
  unfolding inside held
  length_inside k = let e = lawful.long in length-take 448 (drop (448 * k) rs) ∙ rw (length-drop (448 * k) rs) (omega arith)

  long : length file ≡ 512 * n
  unfolding file n packed
  long = length_packed (blocks_for (length rs)) 0 rs

  count_blocks : blocks file ≡ n
  count_blocks = let e = long in omega arith

  is_block : (k : ℕ) → k < n → block file k ≡ packed_block k (inside k)
  unfolding file n inside packed
  is_block k h = block_packed (blocks_for (length rs)) 0 rs k h ∙ ap (λ (i : ℕ). packed_block i (take 448 (drop (448 * k) rs))) (zero-add k)

  short : (k : ℕ) → length (inside k) ≤ 448
  unfolding held
  short k = omega (arith, length_inside k)

  module _ (k : ℕ) (h : k < n) where
    b : List ℕ
    b = packed_block k (inside k)

    numbered : get_or b 0 0 + 256 * get_or b 1 0 ≡ k
    unfolding b
    numbered =
        ap₂ (λ (x y : ℕ). x + 256 * y) (ap (λ (t : List ℕ). get_or t 0 0) (opened k (inside k) (short k)))
        (ap (λ (t : List ℕ). get_or t 1 0) (opened k (inside k) (short k)))
        ∙ (let c = ceiling in let e : k % 256 + 256 * (k / 256 % 256) ≡ k = omega arith in e)

    counted : count b ≡ held k
    unfolding b
    counted =
        ap (λ (t : List ℕ). get_or t 2 0) (opened k (inside k) (short k))
        ∙ (let e : length (inside k) / 64 ≡ held k = omega (arith, length_inside k) in e)

    third : get_or b 3 0 ≡ 0
    unfolding b
    third = ap (λ (t : List ℕ). get_or t 3 0) (opened k (inside k) (short k))

    count_is_laid : count_laid n k (held k) ≡ true
    unfolding held
    count_is_laid = let c = ceiling in let m = lawful.most in rw (le-leb (7 * k + min 7 (N - 7 * k)) 256 (omega arith)) (go (ℕ_discrete (k + 1) n))
      where
        go : Dec (k + 1 ≡ n) → cond (eqb (k + 1) n) (leb 1 (min 7 (N - 7 * k)) && leb (min 7 (N - 7 * k)) 7) (eqb (min 7 (N - 7 * k)) 7) ≡ true
        go (yes e) = let c = ceiling in rw (eq-eqb _ _ e, le-leb 1 (min 7 (N - 7 * k)) (omega arith)) (le-leb (min 7 (N - 7 * k)) 7 (omega arith))
        go (no e) = let c = ceiling in rw (ne_eqb _ _ e) (eq-eqb (min 7 (N - 7 * k)) 7 (omega arith))

    module _ (i : ℕ) (less : i < held k) where
      place : 7 * k + i < N
      unfolding held
      place = omega arith

      is_nth : record_in b i ≡ nth rs (7 * k + i)
      unfolding b inside held
      is_nth =
          record_packed k (inside k) (short k) i (omega (arith, length_inside k))
          ∙ inner (64 * i) 448 64 (drop (448 * k) rs) (omega arith)
          ∙ ap (take 64) (drop-drop (64 * i) (448 * k) rs ∙ ap (λ (j : ℕ). drop j rs) (let e : 448 * k + 64 * i ≡ 64 * (7 * k + i) = omega arith in e))

      is_last : (eqb (k + 1) n && eqb (i + 1) (held k)) ≡ eqb (7 * k + i + 1) N
      unfolding held
      is_last = go (ℕ_discrete (k + 1) n)
        where
          go : Dec (k + 1 ≡ n) → (eqb (k + 1) n && eqb (i + 1) (min 7 (N - 7 * k))) ≡ eqb (7 * k + i + 1) N
          go (yes e) = let c = ceiling in rw (eq-eqb _ _ e) (alike (i + 1) (min 7 (N - 7 * k)) (7 * k + i + 1) N (λ p. omega arith) (λ p. omega arith))
          go (no e) = let c = ceiling in rw (ne_eqb _ _ e) (sym (ne_eqb (7 * k + i + 1) N (λ p. omega arith)))

      allowed : record_laid (eqb (k + 1) n && eqb (i + 1) (held k)) (record_in b i) ≡ true
      allowed = ap₂ record_laid is_last is_nth ∙ lawful.each (7 * k + i) place

    all_allowed : each_below (count b) (record_at_laid n k b) ≡ true
    all_allowed =
        all (count b) (record_at_laid n k b)
        (λ i l. ap (λ (c : ℕ). record_laid (eqb (k + 1) n && eqb (i + 1) c) (record_in b i)) counted ∙ allowed i (let c = counted in omega arith))

    laid : block_laid n k b ≡ true
    unfolding block_laid b
    laid =
        rw (
          eq-eqb _ _ numbered,
          ap (count_laid n k) counted ∙ count_is_laid,
          eq-eqb _ _ third,
          ap (λ (c : ℕ). all_zero (part (4 + 64 * c) 510 b)) counted ∙ zeros_packed k (inside k) (short k) (held k) (sym (length_inside k)),
        ) all_allowed

  whole : whole_blocks (length file) ≡ true
  whole =
      let c = ceiling in let e = long in
      rw (eq-eqb (length file % 512) 0 (omega arith), le-leb 1 (length file / 512) (omega arith)) (le-leb (length file / 512) 37 (omega arith))

  no_refusal : refusal file ≡ 0
  unfolding refusal b
  no_refusal =
      rw (
        whole,
        all (blocks file) (right_block file) (λ k h. let h' : k < n = (rw count_blocks at h) in rw (is_block k h') (right_packed k (inside k) (short k))),
        all (blocks file) (laid_block file) (λ k h. let h' : k < n = (rw count_blocks at h) in rw (count_blocks, is_block k h') (laid k h')),
      )

  count_records : records file ≡ N
  unfolding held b
  count_records =
      let c = ceiling in
      let h : n - 1 < n = omega arith in
      rw (count_blocks, is_block (n - 1) h) (ap (λ (x : ℕ). 7 * (n - 1) + x) (counted (n - 1) h)
      ∙ (let e : 7 * (n - 1) + min 7 (N - 7 * (n - 1)) ≡ N = omega arith in e))

  pub judged_packed : judged (packed rs) ≡ recording N
  unfolding file
  judged_packed = rw no_refusal (ap recording count_records)

  pub found : (i : ℕ) → i < N → record_at (packed rs) i ≡ nth rs i
  unfolding file held b
  found i h =
      let c = ceiling in
      let k : i / 7 < n = omega arith in
      ap (λ (b : List ℕ). record_in b (i % 7)) (is_block (i / 7) k) ∙ is_nth (i / 7) k (i % 7) (omega arith)
      ∙ ap (nth rs) (let e : 7 * (i / 7) + i % 7 ≡ i = omega arith in e)
