-- A file of packed records, block by block and record by record. Assumes nothing.
use mathlib.Core.Path.{◌≡◌, refl, sym, ap, ap₂, ◌∙◌}
use mathlib.Core.Bool.{true}
use mathlib.Core.List.{List, [], ◌∷◌, ◌++◌, append_assoc}
use Prim.Native.Nat.{ℕ, zero, suc, ◌+◌, ◌-◌, ◌*◌, ◌/◌, ◌%◌, ◌≤◌, ◌<◌}
use native.Mathlib.Nat.{not-suc-le-zero, le_of_suc-le-suc, add-zero}
use native.Mathlib.Omega.{arith}
use borrow.Author.Tests.{eq-eqb}
use lib.ListN.{length, get_or, take, drop, replicate, length-append, length-drop, length-replicate}
use lib.Seq.{take_at, take-append-le, drop_at, drop-append-le, drop-drop, get_or_at, append_snoc}
use Rattle.recording_crc16.specs.Remainder.{check}
use Rattle.recording_crc16.specs.Block.{right}
use Rattle.recording_layout.specs.Definition.{part, all_zero, block, record_in}
use Rattle.recording_packing.specs.Definition.{body, sealed, packed_block, packed_from}
use Rattle.recording_packing.proofs.Blocks.{length_body, length_block, few}

-- ---- a block

past_four : (a b c d x : ℕ) (t : List ℕ) → drop (4 + x) (a ∷ b ∷ c ∷ d ∷ t) ≡ drop x t
past_four a b c d x t = ap (λ (n : ℕ). drop n (a ∷ b ∷ c ∷ d ∷ t)) (let e : 4 + x ≡ suc (suc (suc (suc x))) = omega arith in e)

filled : (n : ℕ) → all_zero (replicate n 0) ≡ true
unfolding all_zero
filled zero = refl
filled (suc n) = filled n

module _ (k : ℕ) (ps : List ℕ) (at_most : length ps ≤ 448) where
  pub right_packed : right (packed_block k ps) ≡ true
  unfolding right packed_block
  right_packed =
      let b = body k ps in
      let l = length_body k ps at_most in
      let front : take 510 (sealed b) ≡ b = take_at b (check b / 256 ∷ check b % 256 ∷ []) 510 l in
      let first : get_or (sealed b) 510 0 ≡ check b / 256 = get_or_at b (check b / 256) (check b % 256 ∷ []) 0 510 l in
      let second : get_or (sealed b) 511 0 ≡ check b % 256 =
      ap (λ (t : List ℕ). get_or t 511 0) (sym (append_snoc b (check b / 256) (check b % 256 ∷ [])))
      ∙ get_or_at (b ++ (check b / 256 ∷ [])) (check b % 256) [] 0 511 (length-append b (check b / 256 ∷ []) ∙ ap (λ (n : ℕ). n + 1) l) in
      let long : length (sealed b) ≡ 512 = length-append b (check b / 256 ∷ check b % 256 ∷ []) ∙ ap (λ (n : ℕ). n + 2) l in
      rw (eq-eqb _ _ long) (eq-eqb _ _ (ap check front ∙ (let e : check b ≡ check b / 256 * 256 + check b % 256 = omega arith in e)
      ∙ sym (ap₂ (λ (x y : ℕ). x * 256 + y) first second)))

  -- behind the four bytes that begin it: the records, the zeros and the check
  abbrev tail : List ℕ
  tail = replicate (506 - length ps) 0 ++ (check (body k ps) / 256 ∷ check (body k ps) % 256 ∷ [])

  pub opened : packed_block k ps ≡ k % 256 ∷ k / 256 % 256 ∷ length ps / 64 ∷ 0 ∷ (ps ++ tail)
  unfolding packed_block
  opened = ap (λ (t : List ℕ). k % 256 ∷ k / 256 % 256 ∷ length ps / 64 ∷ 0 ∷ t)
      (append_assoc ps (replicate (506 - length ps) 0) (check (body k ps) / 256 ∷ check (body k ps) % 256 ∷ []))

  behind : (x : ℕ) → drop (4 + x) (packed_block k ps) ≡ drop x (ps ++ tail)
  behind x = ap (drop (4 + x)) opened ∙ past_four (k % 256) (k / 256 % 256) (length ps / 64) 0 x (ps ++ tail)

  pub zeros_packed : (c : ℕ) → 64 * c ≡ length ps → all_zero (part (4 + 64 * c) 510 (packed_block k ps)) ≡ true
  zeros_packed c e =
      let n : 510 - (4 + 64 * c) ≡ 506 - length ps = omega arith in
      ap all_zero
      (ap₂ take n (behind (64 * c) ∙ drop_at ps tail (64 * c) (sym e))
      ∙ take_at (replicate (506 - length ps) 0) (check (body k ps) / 256 ∷ check (body k ps) % 256 ∷ []) (506 - length ps)
      (length-replicate (506 - length ps) 0))
      ∙ filled (506 - length ps)

  pub record_packed : (i : ℕ) → 64 * i + 64 ≤ length ps → record_in (packed_block k ps) i ≡ take 64 (drop (64 * i) ps)
  record_packed i h =
      let n : 4 + 64 * i + 64 - (4 + 64 * i) ≡ 64 = omega arith in
      ap₂ take n (behind (64 * i) ∙ drop-append-le (64 * i) ps tail (omega arith)) ∙ take-append-le 64 (drop (64 * i) ps) tail (simp length-drop (omega arith))

-- ---- the blocks of a file

at : (n j : ℕ) (rs : List ℕ) (k : ℕ) → k < n → take 512 (drop (512 * k) (packed_from n j rs)) ≡ packed_block (j + k) (take 448 (drop (448 * k) rs))
unfolding packed_from
at zero j rs k h = absurd (not-suc-le-zero h)
at (suc n) j rs zero h =
    take_at (packed_block j (take 448 rs)) (packed_from n (j + 1) (drop 448 rs)) 512 (length_block j (take 448 rs) (few rs))
    ∙ ap (λ (i : ℕ). packed_block i (take 448 rs)) (sym (add-zero j))
at (suc n) j rs (suc k) h =
    let b = packed_block j (take 448 rs) in
    let rest = packed_from n (j + 1) (drop 448 rs) in
    let over : drop (512 * suc k) (b ++ rest) ≡ drop (512 * k) rest =
    ap (λ (i : ℕ). drop i (b ++ rest)) (let e : 512 * suc k ≡ 512 + 512 * k = omega arith in e)
    ∙ sym (drop-drop (512 * k) 512 (b ++ rest)) ∙ ap (drop (512 * k)) (drop_at b rest 512 (length_block j (take 448 rs) (few rs))) in
    let past : drop (448 * k) (drop 448 rs) ≡ drop (448 * suc k) rs =
    drop-drop (448 * k) 448 rs ∙ ap (λ (i : ℕ). drop i rs) (let e : 448 + 448 * k ≡ 448 * suc k = omega arith in e) in
    ap (take 512) over ∙ at n (j + 1) (drop 448 rs) k (le_of_suc-le-suc h)
    ∙ ap₂ (λ (i : ℕ) (t : List ℕ). packed_block i (take 448 t)) (let e : j + 1 + k ≡ j + suc k = omega arith in e) past

pub block_packed : (n j : ℕ) (rs : List ℕ) (k : ℕ) → k < n → block (packed_from n j rs) k ≡ packed_block (j + k) (take 448 (drop (448 * k) rs))
block_packed n j rs k h =
    ap (λ (i : ℕ). take i (drop (512 * k) (packed_from n j rs))) (let e : 512 * k + 512 - 512 * k ≡ 512 = omega arith in e) ∙ at n j rs k h
