-- A trace is four words of eight bytes, and is compared and written by them. Assumes nothing.
use mathlib.Core.Path.{◌≡◌, refl, sym, ap, ap₂, ◌∙◌}
use mathlib.Core.Bool.{Bool, true, false, ◌&&◌, cond, true≢false}
use mathlib.Core.List.{List, [], ◌∷◌, ◌++◌, append_assoc, append-nil}
use Prim.Native.Nat.{ℕ, zero, suc, ◌+◌, ◌*◌, ◌/◌, ◌%◌, ◌^◌, ◌<◌, ◌≤◌}
use native.Mathlib.Nat.{mod-lt}
use native.Mathlib.Omega.{arith}
use borrow.Author.Tests.{eq-eqb, eqb-true, eqb-false}
use lib.Dec.{eqb, lit<}
use lib.ListN.{length, get_or, take, drop, replicate, take-append-drop, length-drop}
use lib.Seq.{take_all, drop-drop, take_at, drop_at, length-take-le}
use Rattle.standard.specs.Lanes.{digits, joined}
use Rattle.standard.specs.Memory.{number_at, with_number}
use Rattle.standard.proofs.Digits.{Below, joined_digits, digits_joined, digits_append}
use Rattle.recording_fields.specs.Definition.{wide, scalar_bytes, trace, same}

-- ---- the same list

pub same_refl : (xs : List ℕ) → same xs xs ≡ true
unfolding same
same_refl [] = refl
same_refl (x ∷ xs) = rw (eq-eqb x x refl) (same_refl xs)

both_true : (a b : Bool) → (a && b) ≡ true → (a ≡ true) × (b ≡ true)
both_true true b e = (refl, e)
both_true false b e = absurd (true≢false (sym e))

pub same_sound : (xs ys : List ℕ) → same xs ys ≡ true → xs ≡ ys
unfolding same
same_sound [] [] e = refl
same_sound [] (y ∷ ys) e = absurd (true≢false (sym e))
same_sound (x ∷ xs) [] e = absurd (true≢false (sym e))
same_sound (x ∷ xs) (y ∷ ys) e =
    let t = both_true (eqb x y) (same xs ys) e in
    ap₂ (λ (z : ℕ) (zs : List ℕ). z ∷ zs) (eqb-true x y t.0) (same_sound xs ys t.1)

and_assoc : (a b c : Bool) → (a && (b && c)) ≡ (a && b && c)
and_assoc true b c = refl
and_assoc false b c = refl

pub same_append : (xs us ys vs : List ℕ) → length xs ≡ length us → same (xs ++ ys) (us ++ vs) ≡ (same xs us && same ys vs)
unfolding same
same_append [] [] ys vs e = refl
same_append [] (u ∷ us) ys vs e = absurd (omega arith)
same_append (x ∷ xs) [] ys vs e = absurd (omega arith)
same_append (x ∷ xs) (u ∷ us) ys vs e =
    ap (λ (b : Bool). eqb x u && b) (same_append xs us ys vs (omega arith)) ∙ and_assoc (eqb x u) (same xs us) (same ys vs)

-- ---- words

pub same_word : (a b : ℕ) → a < 2 ^ 64 → b < 2 ^ 64 → same (digits 8 8 a) (digits 8 8 b) ≡ eqb a b
same_word a b ha hb = go (eqb a b) refl (same (digits 8 8 a) (digits 8 8 b)) refl
  where
    back : digits 8 8 a ≡ digits 8 8 b → a ≡ b
    back e = sym (joined_digits 8 8 a ha) ∙ ap (joined 8) e ∙ joined_digits 8 8 b hb

    go : (t : Bool) → eqb a b ≡ t → (u : Bool) → same (digits 8 8 a) (digits 8 8 b) ≡ u → same (digits 8 8 a) (digits 8 8 b) ≡ eqb a b
    go true e u f =
        ap (λ (x : ℕ). same (digits 8 8 a) (digits 8 8 x)) (sym (eqb-true a b e)) ∙ same_refl (digits 8 8 a) ∙ sym e
    go false e true f = absurd (eqb-false a b e (back (same_sound (digits 8 8 a) (digits 8 8 b) f)))
    go false e false f = f ∙ sym e

below : (xs : List ℕ) → ((i : ℕ) → get_or xs i 0 < 256) → Below 256 xs
below [] f = tt
below (x ∷ xs) f = (f 0, below xs (λ i. f (suc i)))

below_take : (n : ℕ) (xs : List ℕ) → Below 256 xs → Below 256 (take n xs)
below_take zero xs b = tt
below_take (suc n) [] b = tt
below_take (suc n) (x ∷ xs) b = (b.0, below_take n xs b.1)

below_drop : (n : ℕ) (xs : List ℕ) → Below 256 xs → Below 256 (drop n xs)
below_drop zero xs b = b
below_drop (suc n) [] b = tt
below_drop (suc n) (x ∷ xs) b = below_drop n xs b.1

-- eight bytes are the digits of their number
pub word_bytes : (xs : List ℕ) (at : ℕ) → ((i : ℕ) → get_or xs i 0 < 256) → at + 8 ≤ length xs → digits 8 8 (number_at xs at 8) ≡ take 8 (drop at xs)
unfolding number_at
word_bytes xs at f h =
    ap (λ (n : ℕ). digits 8 n (joined 8 (take 8 (drop at xs)))) (sym (length-take-le 8 (drop at xs) (simp length-drop (omega arith))))
    ∙ digits_joined 8 (take 8 (drop at xs)) (below_take 8 (drop at xs) (below_drop at xs (below xs f)))

-- the word of the refusal number and the scalar's kind
pub two_bytes : (n k : ℕ) → n < 256 → k < 256 → digits 8 8 (n + 256 * k) ≡ n ∷ k ∷ replicate 6 0
two_bytes n k hn hk =
    let z : 0 < 256 = lit< tt in
    ap (digits 8 8) (omega arith) ∙ digits_joined 8 (n ∷ k ∷ replicate 6 0) (hn, (hk, (z, (z, (z, (z, (z, (z, tt))))))))

-- the word of a scalar of 32 bits
pub narrow_word : (b : ℕ) → digits 8 8 (b % 4294967296) ≡ digits 8 4 b ++ replicate 4 0
narrow_word b =
    let h : b % 4294967296 < 4294967296 = mod-lt b (lit< tt) in
    let low : digits 8 4 b ≡ digits 8 4 (b % 4294967296) ++ [] =
    ap (digits 8 4) (omega arith) ∙ digits_append 8 4 0 (b % 4294967296) (b / 4294967296) h in
    ap (digits 8 8) (omega arith)
    ∙ digits_append 8 4 4 (b % 4294967296) 0 h
    ∙ ap (λ (l : List ℕ). l ++ replicate 4 0) (sym (low ∙ append-nil (digits 8 4 (b % 4294967296))))

-- ---- a trace

module _ (lo hi n k b : ℕ) (m s : ℕ) (below : lo < 2 ^ 64) (is-ending-word : digits 8 8 m ≡ n ∷ k ∷ replicate 6 0)
    (is-scalar : digits 8 8 s ≡ scalar_bytes k b) where
  pub trace_words : trace (lo + 2 ^ 64 * hi) n k b ≡ digits 8 8 lo ++ (digits 8 8 hi ++ (digits 8 8 m ++ digits 8 8 s))
  unfolding trace
  trace_words =
      ap (λ (l : List ℕ). l ++ (n ∷ k ∷ replicate 6 0) ++ scalar_bytes k b) (digits_append 8 8 8 lo hi below)
      ∙ ap₂ (λ (x y : List ℕ). digits 8 8 lo ++ digits 8 8 hi ++ x ++ y) (sym is-ending-word) (sym is-scalar)
      ∙ append_assoc (digits 8 8 lo ++ digits 8 8 hi) (digits 8 8 m) (digits 8 8 s)
      ∙ append_assoc (digits 8 8 lo) (digits 8 8 hi) (digits 8 8 m ++ digits 8 8 s)

-- thirty-two bytes from a place on, as four words
four : (r : List ℕ) → length r ≡ 64 → drop 32 r ≡ take 8 (drop 32 r) ++ (take 8 (drop 40 r) ++ (take 8 (drop 48 r) ++ take 8 (drop 56 r)))
four r e =
    part 32 40 refl ∙ ap (λ (l : List ℕ). take 8 (drop 32 r) ++ l) (part 40 48 refl ∙ ap (λ (l : List ℕ). take 8 (drop 40 r) ++ l) (part 48 56 refl
    ∙ ap (λ (l : List ℕ). take 8 (drop 48 r) ++ l) (sym (take_all 8 (drop 56 r) (simp length-drop (omega arith))))))
  where
    part : (at next : ℕ) → at + 8 ≡ next → drop at r ≡ take 8 (drop at r) ++ drop next r
    part at next p = sym (take-append-drop 8 (drop at r)) ∙ ap (λ (l : List ℕ). take 8 (drop at r) ++ l) (drop-drop 8 at r ∙ ap (λ (i : ℕ). drop i r) p)

module _ (r : List ℕ) (long : length r ≡ 64) (a b c d : ℕ) (p q s t : ℕ) (ha : a < 2 ^ 64) (hb : b < 2 ^ 64) (hc : c < 2 ^ 64) (hd : d < 2 ^ 64)
    (hp : p < 2 ^ 64) (hq : q < 2 ^ 64) (hs : s < 2 ^ 64) (ht : t < 2 ^ 64)
    (ea : digits 8 8 a ≡ take 8 (drop 32 r)) (eb : digits 8 8 b ≡ take 8 (drop 40 r)) (ec : digits 8 8 c ≡ take 8 (drop 48 r))
    (ed : digits 8 8 d ≡ take 8 (drop 56 r)) where
  -- the words tell whether the bytes are the same
  pub same_words : same (drop 32 r) (digits 8 8 p ++ (digits 8 8 q ++ (digits 8 8 s ++ digits 8 8 t))) ≡ (eqb a p && eqb b q && eqb c s && eqb d t)
  same_words =
      ap (λ (l : List ℕ). same l (digits 8 8 p ++ (digits 8 8 q ++ (digits 8 8 s ++ digits 8 8 t)))) (four r long)
      ∙ rw (← ea, ← eb, ← ec, ← ed) (same_append (digits 8 8 a) (digits 8 8 p) (digits 8 8 b ++ (digits 8 8 c ++ digits 8 8 d))
      (digits 8 8 q ++ (digits 8 8 s ++ digits 8 8 t)) (refl)
      ∙ rw (
        same_word a p ha hp,
        same_append (digits 8 8 b) (digits 8 8 q) (digits 8 8 c ++ digits 8 8 d) (digits 8 8 s ++ digits 8 8 t) refl,
        same_word b q hb hq,
        same_append (digits 8 8 c) (digits 8 8 s) (digits 8 8 d) (digits 8 8 t) refl,
        same_word c s hc hs,
        same_word d t hd ht,
      )
      (and_assoc (eqb a p) (eqb b q) (eqb c s && eqb d t) ∙ and_assoc (eqb a p && eqb b q) (eqb c s) (eqb d t)))

-- bytes of another number are no trace
pub length_trace : (v n k b : ℕ) → length (trace v n k b) ≡ 32
unfolding trace
length_trace v n k b = of (wide k)
  where
    of : (w : Bool) → length (digits 8 16 v ++ (n ∷ k ∷ replicate 6 0) ++ cond w (digits 8 8 b) (digits 8 4 b ++ replicate 4 0)) ≡ 32
    of true = refl
    of false = refl

pub not_long : (r : List ℕ) (v n k b : ℕ) → (length r ≡ 64 → ⊥) → same (drop 32 r) (trace v n k b) ≡ false
not_long r v n k b ne = go (same (drop 32 r) (trace v n k b)) refl
  where
    go : (t : Bool) → same (drop 32 r) (trace v n k b) ≡ t → same (drop 32 r) (trace v n k b) ≡ false
    go true e =
        let l = ap length (same_sound (drop 32 r) (trace v n k b) e) in
        absurd (ne (omega (arith, length-drop 32 r, length_trace v n k b)))
    go false e = e

-- ---- a word written after what stands before it
pub written_after : (front rest : List ℕ) (at x : ℕ) → length front ≡ at → with_number (front ++ rest) at 8 x ≡ front ++ digits 8 8 x ++ drop 8 rest
unfolding with_number
written_after front rest at x e =
    ap₂ (λ (l k : List ℕ). l ++ digits 8 8 x ++ k) (take_at front rest at e)
    (sym (drop-drop 8 at (front ++ rest)) ∙ ap (drop 8) (drop_at front rest at e))
