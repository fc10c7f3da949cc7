-- The records that stand in the blocks of a buffer. Assumes nothing.
use mathlib.Core.Path.{◌≡◌, refl, sym, ap, ap₂, ◌∙◌}
use mathlib.Core.List.{List, [], ◌∷◌, ◌++◌, append_assoc, append-nil}
use Prim.Native.Nat.{ℕ, zero, suc, ◌+◌, ◌-◌, ◌*◌, ◌/◌, ◌%◌, ◌≤◌, ◌<◌, min}
use native.Mathlib.Nat.{add-zero}
use native.Mathlib.Numerals.{add-one}
use native.Mathlib.Decide.{dec_lt}
use native.Mathlib.Omega.{arith}
use lib.ListN.{length, take, drop, length-append, length-take, length-drop}
use lib.Seq.{take_all, take_at, drop_at, take-take, take-add, drop-drop, length-take-le}
use borrow.Rule.Slice.PartMut.{put_mid, take_put, drop_put}
use Rattle.recording_layout.specs.Definition.{record_at}
use Rattle.recording_packing.specs.Definition.{blocks_for, packed_from, standing}
use Rattle.recording_packing.proofs.Blocks.{length_packed}

-- a part of a part
pub inner : (m n j : ℕ) (l : List ℕ) → m + j ≤ n → take j (drop m (take n l)) ≡ take j (drop m l)
inner zero n j l h = take-take j n l (omega arith)
inner (suc m) zero j l h = absurd (omega arith)
inner (suc m) (suc n) j [] h = refl
inner (suc m) (suc n) j (x ∷ l) h = inner m n j l (omega arith)

-- the byte at which record n begins
abbrev pub place : ℕ → ℕ
place n = 512 * (n / 7) + 64 * (n % 7) + 4

record_is : (out : List ℕ) (n : ℕ) → record_at out n ≡ take 64 (drop (place n) out)
record_is out n =
    let from = 4 + 64 * (n % 7) in
    let start = 512 * (n / 7) in
    ap₂ (λ (i j : ℕ). take i (drop from (take j (drop start out)))) (let e : from + 64 - from ≡ 64 = omega arith in e)
    (let e : start + 512 - start ≡ 512 = omega arith in e)
    ∙ inner from 512 64 (drop start out) (omega arith)
    ∙ ap (take 64) (drop-drop from start out ∙ ap (λ (i : ℕ). drop i out) (let e : start + from ≡ place n = omega arith in e))

further : (n : ℕ) → place n + 64 ≤ place (suc n)
further n = omega arith

-- ---- a record more

-- bytes behind the first n records are none of theirs
kept : (n : ℕ) (out after : List ℕ) → take (place n) after ≡ take (place n) out → standing n after ≡ standing n out
unfolding standing
kept zero out after e = refl
kept (suc n) out after e =
    let h = further n in
    let before : take (place n) after ≡ take (place n) out =
    sym (take-take (place n) (place (suc n)) after (omega arith)) ∙ ap (take (place n)) e ∙ take-take (place n) (place (suc n)) out (omega arith) in
    ap₂ ◌++◌ (kept n out after before)
    (record_is after n ∙ sym (inner (place n) (place (suc n)) 64 after h) ∙ ap (λ (l : List ℕ). take 64 (drop (place n) l)) e
    ∙ inner (place n) (place (suc n)) 64 out h ∙ sym (record_is out n))

farther : (a b : ℕ) (x y : List ℕ) → a ≤ b → drop a x ≡ drop a y → drop b x ≡ drop b y
farther a b x y h e =
    let s : a + (b - a) ≡ b = omega arith in
    ap (λ (i : ℕ). drop i x) (sym s) ∙ sym (drop-drop (b - a) a x) ∙ ap (drop (b - a)) e ∙ drop-drop (b - a) a y ∙ ap (λ (i : ℕ). drop i y) s

module _ (n : ℕ) (out y : List ℕ) (room : place n + 64 ≤ length out) (long : length y ≡ 64) where
  after : List ℕ
  after = put_mid (place n) (place n + 64 - place n) out y

  pub one_put : standing (n + 1) (put_mid (place n) (place n + 64 - place n) out y) ≡ standing n out ++ y
  unfolding standing after
  one_put =
      let rest = drop (place n + 64 - place n) (drop (place n) out) in
      ap (λ (i : ℕ). standing i after) (add-one n)
      ∙ ap₂ ◌++◌ (kept n out after (take_put (place n) (place n + 64 - place n) out y (omega arith)))
      (record_is after n ∙ ap (take 64) (drop_at (take (place n) out) (y ++ rest) (place n) (length-take-le (place n) out (omega arith)))
      ∙ take_at y rest 64 long)

  -- the bytes behind the blocks of the records are as they were
  pub none_behind : (out₀ : List ℕ) → drop (512 * blocks_for (64 * n)) out ≡ drop (512 * blocks_for (64 * n)) out₀
      → drop (512 * blocks_for (64 * (n + 1))) (put_mid (place n) (place n + 64 - place n) out y) ≡ drop (512 * blocks_for (64 * (n + 1))) out₀
  unfolding after
  none_behind out₀ e =
      farther (place n + 64) (512 * blocks_for (64 * (n + 1))) after out (omega arith)
      (drop_put (place n) (place n + 64) out y (omega arith) room (long ∙ (let q : 64 ≡ place n + 64 - place n = omega arith in q)))
      ∙ farther (512 * blocks_for (64 * n)) (512 * blocks_for (64 * (n + 1))) out out₀ (omega arith) e

-- ---- the records of a block

pub length_standing : (n : ℕ) (out : List ℕ) → 512 * blocks_for (64 * n) ≤ length out → length (standing n out) ≡ 64 * n
unfolding standing
length_standing zero out h = refl
length_standing (suc n) out h =
    let last : length (record_at out n) ≡ 64 = ap length (record_is out n) ∙ length-take-le 64 (drop (place n) out) (simp length-drop (omega arith)) in
    length-append (standing n out) (record_at out n) ∙ ap₂ ◌+◌ (length_standing n out (omega arith)) last
    ∙ (let e : 64 * n + 64 ≡ 64 * suc n = omega arith in e)

-- the first records of block k, behind those of the blocks before it
opened : (k j : ℕ) (out : List ℕ) → j ≤ 7 → standing (7 * k + j) out ≡ standing (7 * k) out ++ take (64 * j) (drop (512 * k + 4) out)
unfolding standing
opened k zero out h = ap (λ (i : ℕ). standing i out) (add-zero (7 * k)) ∙ sym (append-nil (standing (7 * k) out))
opened k (suc j) out h =
    let bytes = drop (512 * k + 4) out in
    let there : place (7 * k + j) ≡ 512 * k + 4 + 64 * j = omega arith in
    ap (λ (i : ℕ). standing i out) (let e : 7 * k + suc j ≡ suc (7 * k + j) = omega arith in e)
    ∙ ap₂ ◌++◌ (opened k j out (omega arith))
    (record_is out (7 * k + j) ∙ ap (take 64) (ap (λ (i : ℕ). drop i out) there ∙ sym (drop-drop (64 * j) (512 * k + 4) out)))
    ∙ append_assoc (standing (7 * k) out) (take (64 * j) bytes) (take 64 (drop (64 * j) bytes))
    ∙ ap (λ (t : List ℕ). standing (7 * k) out ++ t)
    (sym (take-add (64 * j) 64 bytes) ∙ ap (λ (i : ℕ). take i bytes) (let e : 64 * j + 64 ≡ 64 * suc j = omega arith in e))

-- those of the blocks behind it
later : ℕ → ℕ → List ℕ → List ℕ
later n zero out = []
later n (suc d) out = later n d out ++ record_at out (n + d)

split : (n d : ℕ) (out : List ℕ) → standing (n + d) out ≡ standing n out ++ later n d out
unfolding standing later
split n zero out = ap (λ (i : ℕ). standing i out) (add-zero n) ∙ sym (append-nil (standing n out))
split n (suc d) out =
    ap (λ (i : ℕ). standing i out) (let e : n + suc d ≡ suc (n + d) = omega arith in e)
    ∙ ap (λ (t : List ℕ). t ++ record_at out (n + d)) (split n d out) ∙ append_assoc (standing n out) (later n d out) (record_at out (n + d))

module _ (n k : ℕ) (out : List ℕ) (some : 7 * k < n) (room : 512 * blocks_for (64 * n) ≤ length out) where
  bytes : List ℕ
  bytes = drop (512 * k + 4) out

  before : length (standing (7 * k) out) ≡ 448 * k
  before = length_standing (7 * k) out (omega arith) ∙ (let e : 64 * (7 * k) ≡ 448 * k = omega arith in e)

  in_block : take 448 (drop (448 * k) (standing n out)) ≡ take (64 * min 7 (n - 7 * k)) (drop (512 * k + 4) out)
  unfolding bytes
  in_block = go (dec_lt n (7 * k + 8))
    where
      go : Dec (n < 7 * k + 8) → take 448 (drop (448 * k) (standing n out)) ≡ take (64 * min 7 (n - 7 * k)) bytes
      go (yes h) =
          let c = n - 7 * k in
          let all : standing n out ≡ standing (7 * k) out ++ take (64 * c) bytes =
          ap (λ (i : ℕ). standing i out) (let e : n ≡ 7 * k + c = omega arith in e) ∙ opened k c out (omega arith) in
          ap (take 448) (ap (drop (448 * k)) all ∙ drop_at (standing (7 * k) out) (take (64 * c) bytes) (448 * k) before)
          ∙ take_all 448 (take (64 * c) bytes) (rw length-take (omega arith)) ∙ ap (λ (i : ℕ). take (64 * i) bytes) (let e : c ≡ min 7 c = omega arith in e)
      go (no h) =
          let d = n - (7 * k + 7) in
          let rest = later (7 * k + 7) d out in
          let all : standing n out ≡ standing (7 * k) out ++ (take 448 bytes ++ rest) =
          ap (λ (i : ℕ). standing i out) (let e : n ≡ 7 * k + 7 + d = omega arith in e) ∙ split (7 * k + 7) d out
          ∙ ap (λ (t : List ℕ). t ++ rest) (opened k 7 out (omega arith)) ∙ append_assoc (standing (7 * k) out) (take 448 bytes) rest in
          ap (take 448) (ap (drop (448 * k)) all ∙ drop_at (standing (7 * k) out) (take 448 bytes ++ rest) (448 * k) before)
          ∙ take_at (take 448 bytes) rest 448 (length-take-le 448 bytes (simp length-drop (omega arith)))
          ∙ ap (λ (i : ℕ). take (64 * i) bytes) (let e : 7 ≡ min 7 (n - 7 * k) = omega arith in e)

  -- where the blocks before it are sealed
  pub block_records : (rs after : List ℕ) {c : ℕ} → after ≡ packed_from k 0 rs ++ drop (512 * k) out → c ≡ min 7 (n - 7 * k)
      → take (64 * c) (drop 4 (take (512 * k + 512 - 512 * k) (drop (512 * k) after))) ≡ take 448 (drop (448 * k) (standing n out))
  block_records rs after {c} e f =
      let here : drop (512 * k) after ≡ drop (512 * k) out = ap (drop (512 * k)) e
      ∙ drop_at (packed_from k 0 rs) (drop (512 * k) out) (512 * k) (length_packed k 0 rs) in
      ap₂ (λ (i : ℕ) (l : List ℕ). take (64 * c) (drop 4 (take i l))) (let q : 512 * k + 512 - 512 * k ≡ 512 = omega arith in q) here
      ∙ inner 4 512 (64 * c) (drop (512 * k) out) (omega arith) ∙ ap₂ (λ (i : ℕ) (l : List ℕ). take (64 * i) l) f (drop-drop 4 (512 * k) out) ∙ sym in_block
