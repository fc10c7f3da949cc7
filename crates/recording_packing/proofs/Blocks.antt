-- Blocks, one after the other. Assumes nothing.
use mathlib.Core.Path.{◌≡◌, refl, sym, ap, ap₂, ◌∙◌}
use mathlib.Core.Bool.{true, cond, ◌&&◌}
use mathlib.Core.List.{List, [], ◌∷◌, ◌++◌, append_assoc, append-nil}
use Prim.Native.Nat.{ℕ, zero, suc, ◌+◌, ◌-◌, ◌*◌, ◌/◌, ◌%◌, ◌≤◌, ◌<◌}
use native.Mathlib.Nat.{add-zero, zero-add}
use native.Mathlib.Numerals.{add-one}
use native.Mathlib.Decide.{dec_lt}
use native.Mathlib.Omega.{arith}
use borrow.Author.Tests.{leb-true, eqb-true, lt-ltb, le-ltb}
use lib.Dec.{leb, ltb, eqb}
use lib.ListN.{length, get_or, set, take, drop, replicate, length-append, length-replicate, length-take, length-drop, drop_of_length-le}
use lib.Seq.{take_all, take_at, drop_at, drop-cons, drop-drop, set_at, set-get_or, append_snoc, length-take-le, paste, paste-suc}
use borrow.Rule.Slice.PartMut.{put_mid, Post-is}
use Rattle.recording_crc16.specs.Remainder.{check}
use Rattle.recording_layout.proofs.Below.{both}
use Rattle.recording_packing.specs.Definition.{body, sealed, packed_block, packed_from, blocks_for, whole_records, fits}

pub length_body : (k : ℕ) (rs : List ℕ) → length rs ≤ 448 → length (body k rs) ≡ 510
length_body k rs h = simp (length-append, length-replicate) (omega arith)

pub length_block : (k : ℕ) (rs : List ℕ) → length rs ≤ 448 → length (packed_block k rs) ≡ 512
unfolding packed_block
length_block k rs h = length-append (body k rs) (check (body k rs) / 256 ∷ check (body k rs) % 256 ∷ []) ∙ ap (λ (n : ℕ). n + 2) (length_body k rs h)

-- what stands before the records, written over the first four bytes
headed : (k c : ℕ) (b : List ℕ) → 4 ≤ length b → set (set (set (set b 0 k) 1 0) 2 c) 3 0 ≡ k ∷ 0 ∷ c ∷ 0 ∷ drop 4 b
headed k c [] h = absurd (omega arith)
headed k c (x ∷ []) h = absurd (omega arith)
headed k c (x ∷ y ∷ []) h = absurd (omega arith)
headed k c (x ∷ y ∷ z ∷ []) h = absurd (omega arith)
headed k c (x ∷ y ∷ z ∷ w ∷ t) h = refl

zero_at : (n i : ℕ) → ◌≡◌ {A = ℕ} (get_or (replicate n 0) i 0) 0
zero_at zero i = refl
zero_at (suc n) zero = refl
zero_at (suc n) (suc i) = zero_at n i

-- zeros written one after the other
zero_written : (b out : List ℕ) (a n i : ℕ) → a ≤ i → i < a + n → a + n ≤ length b → out ≡ paste b a (replicate n 0) (i - a) → set out i 0
    ≡ paste b a (replicate n 0) (i + 1 - a)
zero_written b out a n i h k l e =
    let zs = replicate {A = ℕ} n 0 in
    ap (λ (t : List ℕ). set t i 0) e
    ∙ ap₂ (λ (j v : ℕ). set (paste b a zs (i - a)) j v) (let q : i ≡ a + (i - a) = omega arith in q) (sym (zero_at n (i - a)))
    ∙ paste-suc b a zs (i - a) 0 (omega arith) (rw length-replicate (omega arith)) ∙ ap (paste b a zs) (let q : suc (i - a) ≡ i + 1 - a = omega arith in q)

-- bytes as they stand up to a place, and then zeros
pub kept_written : (b out : List ℕ) (a n i : ℕ) {v : ℕ} → i < a + n → a + n ≤ length b → out ≡ paste b a (replicate n 0) (i - a) → v
    ≡ cond (ltb i a) (get_or out i 0) 0
    → set out i v ≡ paste b a (replicate n 0) (i + 1 - a)
kept_written b out a n i {v} k l e p = go (dec_lt i a)
  where
    go : Dec (i < a) → set out i v ≡ paste b a (replicate n 0) (i + 1 - a)
    go (yes h) = ap (set out i) (p ∙ rw (lt-ltb i a h)) ∙ set-get_or out i 0 ∙ e ∙ ap (paste b a (replicate n 0)) (let q : i - a ≡ i + 1 - a = omega arith in q)
    go (no h) = let m : a ≤ i = omega arith in ap (set out i) (p ∙ rw (le-ltb i a m)) ∙ zero_written b out a n i m k l e

-- both, around the records that stand in a block
pub body_written : (k c : ℕ) (b out : List ℕ) → k < 37 → c ≤ 7 → length b ≡ 512
    → out ≡ paste (set (set (set (set b 0 k) 1 0) 2 c) 3 0) (4 + 64 * c) (replicate (510 - (4 + 64 * c)) 0) (510 - (4 + 64 * c)) → out
    ≡ body k (take (64 * c) (drop 4 b)) ++ drop 510 b
body_written k c b out hk hc l e =
    let rs = take (64 * c) (drop 4 b) in
    let m = 510 - (4 + 64 * c) in
    let begun = headed k c b (omega arith) in
    let long : length rs ≡ 64 * c = length-take-le (64 * c) (drop 4 b) (simp length-drop (omega arith)) in
    let front : take (4 + 64 * c) (set (set (set (set b 0 k) 1 0) 2 c) 3 0) ≡ k ∷ 0 ∷ c ∷ 0 ∷ rs =
    ap (take (4 + 64 * c)) begun ∙ ap (λ (n : ℕ). take {A = ℕ} n (k ∷ 0 ∷ c ∷ 0 ∷ drop 4 b))
    (let q : 4 + 64 * c ≡ suc (suc (suc (suc (64 * c)))) = omega arith in q) in
    let zeros : take m (replicate {A = ℕ} m 0) ≡ replicate (506 - length rs) 0 =
    take_all m (replicate m 0) (rw length-replicate (omega arith)) ∙ ap (λ (n : ℕ). replicate {A = ℕ} n 0) (let q : m ≡ 506 - length rs = omega arith in q) in
    let back : drop (4 + 64 * c + m) (set (set (set (set b 0 k) 1 0) 2 c) 3 0) ≡ drop 510 b =
    ap₂ drop (let q : 4 + 64 * c + m ≡ 510 = omega arith in q) begun ∙ drop-drop 506 4 b in
    e ∙ ap₂ ◌++◌ (ap₂ ◌++◌ front zeros) back
    ∙ ap₂ (λ (x y : ℕ). (x ∷ y ∷ c ∷ 0 ∷ rs) ++ replicate (506 - length rs) 0 ++ drop 510 b) (let q : k ≡ k % 256 = omega arith in q)
    (let q : 0 ≡ k / 256 % 256 = omega arith in q)
    ∙ ap (λ (x : ℕ). (k % 256 ∷ k / 256 % 256 ∷ x ∷ 0 ∷ rs) ++ replicate (506 - length rs) 0 ++ drop 510 b) (let q : c ≡ length rs / 64 = omega arith in q)

-- the check's two bytes, written behind the body
pub seal_written : (b rest out : List ℕ) (q : ℕ) → length b ≡ 510 → length rest ≡ 512 → out ≡ b ++ drop 510 rest → q ≡ check b
    → set (set out 510 (q / 256)) 511 (q % 256) ≡ sealed b
seal_written b rest out q h l e p =
    let two : drop 510 rest ≡ get_or rest 510 0 ∷ get_or rest 511 0 ∷ [] =
    drop-cons rest 510 0 (omega arith)
    ∙ ap (λ (t : List ℕ). get_or rest 510 0 ∷ t)
    (drop-cons rest 511 0 (omega arith) ∙ ap (λ (t : List ℕ). get_or rest 511 0 ∷ t) (drop_of_length-le rest {i = 512} (omega arith))) in
    ap (λ (t : List ℕ). set (set t 510 (q / 256)) 511 (q % 256)) (e ∙ ap (λ (t : List ℕ). b ++ t) two)
    ∙ ap (λ (t : List ℕ). set t 511 (q % 256))
    (set_at b (get_or rest 510 0) (get_or rest 511 0 ∷ []) (q / 256) 510 h ∙ sym (append_snoc b (q / 256) (get_or rest 511 0 ∷ [])))
    ∙ set_at (b ++ (q / 256 ∷ [])) (get_or rest 511 0) [] (q % 256) 511 (length-append b (q / 256 ∷ []) ∙ ap (λ (n : ℕ). n + 1) h)
    ∙ append_snoc b (q / 256) (q % 256 ∷ [])
    ∙ ap (λ (c : ℕ). b ++ (c / 256 ∷ c % 256 ∷ [])) p

pub few : (rs : List ℕ) → length (take 448 rs) ≤ 448
few rs = rw length-take (omega arith)

pub length_packed : (n k : ℕ) (rs : List ℕ) → length (packed_from n k rs) ≡ 512 * n
unfolding packed_from
length_packed zero k rs = refl
length_packed (suc n) k rs =
    length-append (packed_block k (take 448 rs)) (packed_from n (k + 1) (drop 448 rs))
    ∙ omega (arith, length_block k (take 448 rs) (few rs), length_packed n (k + 1) (drop 448 rs))

-- one block more
pub packed_more : (n k : ℕ) (rs : List ℕ) → packed_from (suc n) k rs ≡ packed_from n k rs ++ packed_block (k + n) (take 448 (drop (448 * n) rs))
unfolding packed_from
packed_more zero k rs = append-nil (packed_block k (take 448 rs)) ∙ ap (λ (i : ℕ). packed_block i (take 448 rs)) (sym (add-zero k))
packed_more (suc n) k rs =
    let further : k + 1 + n ≡ k + suc n = omega arith in
    let past : drop (448 * n) (drop 448 rs) ≡ drop (448 * suc n) rs = drop-drop (448 * n) 448 rs
    ∙ ap (λ (i : ℕ). drop i rs) (let e : 448 + 448 * n ≡ 448 * suc n = omega arith in e) in
    ap (λ (t : List ℕ). packed_block k (take 448 rs) ++ t)
    (packed_more n (k + 1) (drop 448 rs) ∙ ap₂ (λ (i : ℕ) (t : List ℕ). packed_from n (k + 1) (drop 448 rs) ++ packed_block i (take 448 t)) further past)
    ∙ sym (append_assoc (packed_block k (take 448 rs)) (packed_from n (k + 1) (drop 448 rs)) (packed_block (k + suc n) (take 448 (drop (448 * suc n) rs))))

-- a block put behind those before it
pub block_put : (k : ℕ) (rs out out₀ y : List ℕ) → out ≡ packed_from k 0 rs ++ drop (512 * k) out₀ → y ≡ packed_block k (take 448 (drop (448 * k) rs))
    → put_mid (512 * k) (512 * k + 512 - 512 * k) out y ≡ packed_from (k + 1) 0 rs ++ drop (512 * (k + 1)) out₀
block_put k rs out out₀ y e g =
    let l = length_packed k 0 rs in
    let front : take (512 * k) out ≡ packed_from k 0 rs = ap (take (512 * k)) e ∙ take_at (packed_from k 0 rs) (drop (512 * k) out₀) (512 * k) l in
    let back : drop (512 * k + 512) out ≡ drop (512 * (k + 1)) out₀ =
    sym (drop-drop 512 (512 * k) out) ∙ ap (drop 512) (ap (drop (512 * k)) e ∙ drop_at (packed_from k 0 rs) (drop (512 * k) out₀) (512 * k) l)
    ∙ drop-drop 512 (512 * k) out₀ ∙ ap (λ (i : ℕ). drop i out₀) (let p : 512 * k + 512 ≡ 512 * (k + 1) = omega arith in p) in
    let block : y ≡ packed_block (0 + k) (take 448 (drop (448 * k) rs)) = g ∙ rw (zero-add k) in
    ap₂ (λ (p q : List ℕ). p ++ (y ++ q)) front (Post-is (512 * k) (512 * k + 512) out (omega arith) ∙ back)
    ∙ sym (append_assoc (packed_from k 0 rs) y (drop (512 * (k + 1)) out₀))
    ∙ ap (λ (t : List ℕ). packed_from k 0 rs ++ t ++ drop (512 * (k + 1)) out₀) block
    ∙ ap (λ (t : List ℕ). t ++ drop (512 * (k + 1)) out₀) (sym (packed_more k 0 rs) ∙ ap (λ (n : ℕ). packed_from n 0 rs) (sym (add-one k)))

-- what holds where records fit
pub record Fits (n room : ℕ) : Type 0 where
  pub most : n ≤ 16384
  pub even : n % 64 ≡ 0
  pub least : 64 ≤ n
  pub enough : 512 * blocks_for n ≤ room

pub fitting : (n room : ℕ) → fits n room ≡ true → Fits n room
fitting n room e =
    let p = both (whole_records n) (leb (512 * blocks_for n) room) e in
    let q = both (leb n 16384 && eqb (n % 64) 0) (leb 64 n) p.0 in
    let r = both (leb n 16384) (eqb (n % 64) 0) q.0 in
    record {
      most = leb-true n 16384 r.0;
      even = eqb-true (n % 64) 0 r.1;
      least = leb-true 64 n q.1;
      enough = leb-true (512 * blocks_for n) room
          p.1;
    }
