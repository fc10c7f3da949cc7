-- `recording_layout_judge::are_records` meets its contract. Assumes nothing.
use Rattle.std.proofs.Common.{◌≡◌, refl, sym, ap, ◌∙◌, arith, rules, ℕ, ◌<◌, ◌≤◌, ◌+◌, ◌*◌, ◌-◌, ◌/◌, List, [], length, get_or, take, drop, Bool, ◌&&◌, eqb}
use Rattle.std.proofs.lemmas.List.{length-drop, length-take-le, drop-drop, drop-take, take-take}
use Rattle.std.specs.Simd.{first_chunks}
use Rattle.recording_layout.specs.Definition.{count, part, record_in, record_laid, each_below, record_at_laid}
use Rattle.recording_layout.proofs.Below.{fails, passes}
use Rattle.recording_layout.proofs.Chunks.{piece, counted, nth_piece}
use Rattle.recording_layout_judge.proofs.are_records.Goals as goal

-- a record among the pieces of the block's bytes from 4 on, of which there are whole records
module _ (b : List ℕ) (c i : ℕ) (long : length b ≡ 512) (few : c ≤ 7) (rs : List (List ℕ)) where
  abbrev bytes : List ℕ
  bytes = part 4 (4 + 64 * c) b

  length_bytes : length bytes ≡ 64 * c
  length_bytes = length-take-le (4 + 64 * c - 4) (drop 4 b) (rw length-drop (omega arith)) ∙ (let e : 4 + 64 * c - 4 ≡ 64 * c = omega arith in e)

  here : i < c → piece 64 bytes i ≡ record_in b i
  here h =
      let e : 64 * i + 64 - 64 * i ≡ 64 = omega arith in
      let f : 4 + 64 * c - 4 ≡ 64 * i + (64 * c - 64 * i) = omega arith in
      let g : 4 + 64 * i + 64 - (4 + 64 * i) ≡ 64 = omega arith in
      let k : 64 ≤ 64 * c - 64 * i = omega arith in
      rw (e, f, drop-take (64 * i) (64 * c - 64 * i) (drop 4 b), take-take 64 (64 * c - 64 * i) (drop (64 * i) (drop 4 b)) k, drop-drop (64 * i) 4 b, g)

  module _ (e : rs ≡ first_chunks 64 (length bytes / 64) bytes) (h : i < length rs) where
    below : i < c
    below = let n : length rs ≡ length bytes / 64 = rw e (counted 64 (length bytes / 64) bytes) in omega (arith, length_bytes)

    among : get_or rs i [] ≡ record_in b i
    among = rw e (nth_piece 64 (length bytes / 64) bytes i [] (omega (arith, below, length_bytes)) ∙ here below)

    tested : (is_last : Bool) → (eqb (length (get_or rs i [])) 64 && record_laid is_last (get_or rs i [])) ≡ record_laid is_last (record_in b i)
    tested is_last =
        let g : 4 + 64 * i + 64 - (4 + 64 * i) ≡ 64 = omega arith in
        let n : length (record_in b i) ≡ 64 =
        length-take-le (4 + 64 * i + 64 - (4 + 64 * i)) (drop (4 + 64 * i) b) (rw length-drop (omega (arith, below))) ∙ g in
        ap (λ (r : List ℕ). eqb (length r) 64 && record_laid is_last r) among ∙ ap (λ (n : ℕ). eqb n 64 && record_laid is_last (record_in b i)) n

pub loop-i-init : goal.loop-i-init
unfolding each_below
loop-i-init c = refl

pub returns-then-not-is_record : goal.returns-then-not-is_record
returns-then-not-is_record c =
    let a = c.args in
    sym (fails (count a.b.now) (record_at_laid a.n a.k a.b.now) c.loop-i.i (omega arith)
    (sym (tested a.b.now (count a.b.now) c.loop-i.i (search rules) (omega arith) _ c.as_chunks.ensures.front c.loop-i-test.true _) ∙ sym c.is_record.ensures ∙ c.if-not-is_record.true))

pub loop-i-preserved : goal.loop-i-preserved
loop-i-preserved c =
    let a = c.args in
    passes c.loop-i.i (record_at_laid a.n a.k a.b.now) c.loop-i.invariant
    (sym (tested a.b.now (count a.b.now) c.loop-i.i (search rules) (omega arith) _ c.as_chunks.ensures.front c.loop-i-test.true _) ∙ sym c.is_record.ensures ∙ c.if-not-is_record.false)
