-- `recording_fields::put` meets its contract. Assumes nothing.
use mathlib.Core.Path.{◌≡◌, sym, ap, ◌∙◌}
use mathlib.Core.List.{List, [], ◌++◌, append_assoc, append-nil}
use Prim.Native.Nat.{ℕ, ◌+◌}
use native.Mathlib.Omega.{arith}
use lib.ListN.{length, drop, length-append, drop_of_length-le}
use lib.Seq.{drop-drop, length-take-le}
use borrow.Author.Tests.{eq-eqb, ne_eqb}
use Rattle.standard.specs.Lanes.{digits}
use Rattle.standard.specs.Memory.{with_number}
use Rattle.recording_fields.proofs.Words.{trace_words, written_after}
use Rattle.recording_fields.proofs.put.Goals as goal

-- the step, and a word after the other
module _ (out s m₀ m₁ m₂ m₃ m₄ : List ℕ) (p q x y : ℕ) (long : length out ≡ 64) (step : length s ≡ 32) (e₀ : m₀ ≡ s ++ drop 32 out)
    (e₁ : m₁ ≡ with_number m₀ 32 8 p) (e₂ : m₂ ≡ with_number m₁ 40 8 q) (e₃ : m₃ ≡ with_number m₂ 48 8 x) (e₄ : m₄ ≡ with_number m₃ 56 8 y) where
  after : (front rest : List ℕ) {before now : List ℕ} (at v : ℕ) → length front ≡ at → before ≡ front ++ rest → now ≡ with_number before at 8 v → now
      ≡ front ++ digits 8 8 v ++ drop 8 rest
  after front rest at v l e f = f ∙ ap (λ (m : List ℕ). with_number m at 8 v) e ∙ written_after front rest at v l

  longer : (front : List ℕ) (v : ℕ) {n : ℕ} → length front ≡ n → length (front ++ digits 8 8 v) ≡ n + 8
  longer front v e = length-append front (digits 8 8 v) ∙ ap (λ (k : ℕ). k + 8) e

  rest : List ℕ
  rest = drop 32 out

  nothing_left : drop 8 (drop 8 (drop 8 (drop 8 rest))) ≡ []
  unfolding rest
  nothing_left = rw (drop-drop 8 32 out, drop-drop 8 40 out, drop-drop 8 48 out, drop-drop 8 56 out) (drop_of_length-le out {i = 64} (omega arith))

  pub all_written : m₄ ≡ s ++ (digits 8 8 p ++ (digits 8 8 q ++ (digits 8 8 x ++ digits 8 8 y)))
  unfolding rest
  all_written =
      let s₀ : m₀ ≡ s ++ rest = e₀ in
      let s₁ = after s rest 32 p step s₀ e₁ in
      let l₁ = longer s p step in
      let s₂ = after (s ++ digits 8 8 p) (drop 8 rest) 40 q l₁ s₁ e₂ in
      let l₂ = longer (s ++ digits 8 8 p) q l₁ in
      let s₃ = after (s ++ digits 8 8 p ++ digits 8 8 q) (drop 8 (drop 8 rest)) 48 x l₂ s₂ e₃ in
      let l₃ = longer (s ++ digits 8 8 p ++ digits 8 8 q) x l₂ in
      let s₄ = after (s ++ digits 8 8 p ++ digits 8 8 q ++ digits 8 8 x) (drop 8 (drop 8 (drop 8 rest))) 56 y l₃ s₃ e₄ in
      s₄ ∙ rw nothing_left (simp (append-nil, append_assoc))

pub copy_from_slice-requires : goal.copy_from_slice-requires
copy_from_slice-requires c = omega (arith, length-take-le 32 c.args.out.now)

pub slice_bounds-copy_from_slice-end-then-s-eq32 : goal.slice_bounds-copy_from_slice-end-then-s-eq32
slice_bounds-copy_from_slice-end-then-s-eq32 c = omega (arith, length-take-le 32 c.args.out.now)

pub returns-then-s-eq32 : goal.returns-then-s-eq32
returns-then-s-eq32 c =
    let a = c.args in
    all_written a.out.now a.s.now (c.copy_from_slice.new.self ++ drop 32 c.args.out.now) c.put_word.new.out
    c.put_word-then-s-eq32.new.out c.put_word-then-s-eq32-2.new.out
    c.put_word-then-s-eq32-3.new.out
    a.lo a.hi c.ending_word.result c.scalar_word.result c.if-out-eq64.true c.if-s-eq32.true
    (ap (λ (l : List ℕ). l ++ drop 32 c.args.out.now) c.copy_from_slice.ensures.after)
    c.put_word.ensures c.put_word-then-s-eq32.ensures c.put_word-then-s-eq32-2.ensures c.put_word-then-s-eq32-3.ensures
    ∙ rw (eq-eqb _ _ c.if-out-eq64.true, eq-eqb _ _ c.if-s-eq32.true)
    (ap (λ (l : List ℕ). a.s.now ++ l) (sym
    (trace_words a.lo a.hi a.refused a.kind a.bits _ _ c.ranges.lo.fits c.ending_word.ensures
    c.scalar_word.ensures)))

pub returns-else-s-eq32 : goal.returns-else-s-eq32
returns-else-s-eq32 c = rw (eq-eqb _ _ c.if-out-eq64.true, ne_eqb _ _ c.if-s-eq32.false)

pub returns-else-out-eq64 : goal.returns-else-out-eq64
returns-else-out-eq64 c = rw (ne_eqb _ _ c.if-out-eq64.false)
