-- `recording_compare::compare` meets its contract. Assumes nothing.
use mathlib.Core.Path.{◌≡◌, ap, ◌∙◌}
use mathlib.Core.Bool.{◌&&◌}
use Prim.Native.Nat.{ℕ, ◌<◌, ◌+◌, ◌*◌, ◌^◌}
use native.Mathlib.Omega.{arith}
use lib.Dec.{eqb}
use mathlib.Core.List.{List, ◌∷◌}
use lib.ListN.{length, take, drop, replicate}
use Rattle.standard.specs.Lanes.{digits}
use Rattle.recording_fields.specs.Definition.{trace, same, scalar_bytes}
use Rattle.recording_fields.proofs.Words.{trace_words, same_words, not_long}
use Rattle.recording_compare.proofs.compare.Goals as goal

pub returns-then-bytes-ne64 : goal.returns-then-bytes-ne64
returns-then-bytes-ne64 c =
    let a = c.args in
    c.not_the_same.ensures ∙ rw (not_long a.bytes.now (a.lo + 2 ^ 64 * a.hi) a.refused a.kind a.bits c.if-bytes-ne64.true)

-- the words that were read tell whether the trace is the definition's
module _ (r : List ℕ) (lo hi n k x : ℕ) (a b c d m s : ℕ) where
  told : length r ≡ 64 → a < 2 ^ 64 → b < 2 ^ 64 → c < 2 ^ 64 → d < 2 ^ 64 → lo < 2 ^ 64 → hi < 2 ^ 64 → m < 2 ^ 64 → s < 2 ^ 64
      → digits 8 8 m ≡ n ∷ k ∷ replicate 6 0 → digits 8 8 s ≡ scalar_bytes k x
      → digits 8 8 a ≡ take 8 (drop 32 r) → digits 8 8 b ≡ take 8 (drop 40 r) → digits 8 8 c ≡ take 8 (drop 48 r) → digits 8 8 d ≡ take 8 (drop 56 r)
      → same (drop 32 r) (trace (lo + 2 ^ 64 * hi) n k x) ≡ (eqb a lo && eqb b hi && eqb c m && eqb d s)
  told long ha hb hc hd hp hq hs ht em es ea eb ec ed =
      ap (same (drop 32 r)) (trace_words lo hi n k x m s hp em es) ∙ same_words r long a b c d lo hi m s ha hb hc hd hp hq hs ht ea eb ec ed

pub returns-then-a-lo : goal.returns-then-a-lo
returns-then-a-lo c =
    let a = c.args in
    rw (told a.bytes.now a.lo a.hi a.refused a.kind a.bits c.word-a.result c.word-b.result c.word-c.result c.word-d.result
    c.ending_word-wanted.result c.scalar_word-scalar.result c.if-bytes-ne64.false
    (omega arith) (omega arith) (omega arith) (omega arith) (omega arith) (omega arith) (omega arith) (omega arith)
    c.ending_word-wanted.ensures c.scalar_word-scalar.ensures c.word-a.ensures c.word-b.ensures c.word-c.ensures c.word-d.ensures
    ∙ c.if-a-lo.true)

pub returns : goal.returns
returns c =
    let a = c.args in
    c.not_the_same-2.ensures ∙ rw (told a.bytes.now a.lo a.hi a.refused a.kind a.bits c.word-a.result c.word-b.result c.word-c.result c.word-d.result
    c.ending_word-wanted.result c.scalar_word-scalar.result c.if-bytes-ne64.false
    (omega arith) (omega arith) (omega arith) (omega arith) (omega arith) (omega arith) (omega arith) (omega arith)
    c.ending_word-wanted.ensures c.scalar_word-scalar.ensures c.word-a.ensures c.word-b.ensures c.word-c.ensures c.word-d.ensures
    ∙ c.if-a-lo.false)
