-- Text put after text: the laws of `Wrote`. Assumes nothing.
use mathlib.Core.Path.{◌≡◌, refl, sym, ap, ◌∙◌}
use mathlib.Core.Bool.{Bool, true, false, not}
use mathlib.Core.List.{List, [], ◌∷◌, ◌++◌, append_assoc, append-nil}
use Prim.Native.Nat.{ℕ, zero, suc, ◌+◌, ◌-◌, ◌<◌, ◌≤◌, min}
use native.Mathlib.Nat.{add_assoc, add-zero, zero-add}
use native.Mathlib.Numerals.{unary_clauses}
use native.Mathlib.Omega.{arith}
use lib.Dec.{T, leb, leb→le, nleb→lt}
use lib.ListN.{length, take, drop, length-append, length-take, length-drop, take-append-drop, drop_of_length-le}
use lib.Seq.{paste, take_at, drop-append-add, drop-drop, length-take-le, take_all, take-append_seam}
use borrow.Rule.Slice.PartMut.{put_mid}
use Rattle.std.proofs.lemmas.Slice.{take-put_mid, drop-put_mid}
use Rattle.program_digits.specs.Put.{fitting, written, Wrote, Filled}

-- the first k of two texts, one after the other
take_both : (k : ℕ) (a b : List ℕ) → take k (a ++ b) ≡ take k a ++ take (k - length a) b
take_both zero a b = let none : 0 - length a ≡ 0 = omega arith in rw none
take_both (suc k) [] b = let all : suc k - 0 ≡ suc k = omega arith in rw all
take_both (suc k) (x ∷ a) b = simp unary_clauses (ap (λ (r : List ℕ). x ∷ r) (take_both k a b))

length_written : (out : List ℕ) (at : ℕ) (text : List ℕ) → length (written out at text) ≡ length out
unfolding written
length_written out at text =
    simp (length-append, length-drop) (omega (arith, length-take at out, length-take (length out - at) text))

-- What stands before and behind a text of which f fits: a place behind the list has no room for any.
module _ (out : List ℕ) (at : ℕ) (f : List ℕ) (room : length f ≤ length out - at) where
  both : List ℕ
  both = (take at out ++ f) ++ drop (at + length f) out

  before : take (at + length f) both ≡ take at out ++ f
  unfolding both
  before = go (leb at (length out)) (leb→le at (length out)) (nleb→lt at (length out))
    where
      n : length (take at out ++ f) ≡ length (take at out) + length f
      n = length-append (take at out) f

      go : (t : Bool) → (T t → at ≤ length out) → (T (not t) → length out < at) → take (at + length f) both ≡ take at out ++ f
      go true h k = take_at (take at out ++ f) (drop (at + length f) out) (at + length f) (n ∙ rw (length-take-le at out (h tt)))
      go false h k =
          let past = k tt in
          let none : drop (at + length f) out ≡ [] = drop_of_length-le out {i = at + length f} (omega arith) in
          rw (none, append-nil) (take_all (at + length f) (take at out ++ f) (omega (arith, n, length-take at out)))

  behind : (k : ℕ) → drop (at + length f + k) both ≡ drop (at + length f + k) out
  unfolding both
  behind k = go (leb at (length out)) (leb→le at (length out)) (nleb→lt at (length out))
    where
      n : length (take at out ++ f) ≡ length (take at out) + length f
      n = length-append (take at out) f

      go : (t : Bool) → (T t → at ≤ length out) → (T (not t) → length out < at)
          → drop (at + length f + k) both ≡ drop (at + length f + k) out
      go true h p =
          let e : length (take at out ++ f) ≡ at + length f = n ∙ rw (length-take-le at out (h tt)) in
          ap (λ (i : ℕ). drop (i + k) both) (sym e)
          ∙ drop-append-add (take at out ++ f) (drop (at + length f) out) k
          ∙ drop-drop k (at + length f) out
      go false h p =
          let past = p tt in
          let none : drop (at + length f) out ≡ [] = drop_of_length-le out {i = at + length f} (omega arith) in
          let less : length both ≤ at + length f + k = rw (none, append-nil) (omega (arith, n, length-take at out)) in
          drop_of_length-le both less ∙ sym (drop_of_length-le out {i = at + length f + k} (omega arith))

  joined : (g : List ℕ)
      → take (at + length f) both ++ (g ++ drop (at + length f + length g) both) ≡ take at out ++ ((f ++ g) ++ drop (at + length (f ++ g)) out)
  joined g =
      rw (before, behind (length g), length-append, sym (add_assoc at (length f) (length g)), append_assoc (take at out) f, append_assoc f g)

-- one text after the other is both together
module _ (out : List ℕ) (at : ℕ) (a b : List ℕ) where
  fitting_both : fitting out at (a ++ b) ≡ fitting out at a ++ fitting (written out at a) (at + length (fitting out at a)) b
  fitting_both =
      let left : length out - at - length a ≡ length (written out at a) - (at + length (fitting out at a)) =
      rw (length_written out at a) (omega (arith, length-take (length out - at) a)) in
      take_both (length out - at) a b ∙ ap (λ (k : ℕ). fitting out at a ++ take k b) left

  written_written : written (written out at a) (at + length (fitting out at a)) b ≡ written out at (a ++ b)
  unfolding written both
  written_written =
      let f = fitting out at a in
      let g = fitting (written out at a) (at + length f) b in
      let room : length f ≤ length out - at = omega (arith, length-take (length out - at) a) in
      ap (λ (w : List ℕ). take (at + length f) w ++ (g ++ drop (at + length f + length g) w)) (sym (append_assoc (take at out) f (drop (at + length f) out)))
      ∙ joined out at f room g
      ∙ ap (λ (h : List ℕ). take at out ++ (h ++ drop (at + length h) out)) (sym fitting_both)

pub then : {out one two a b : List ℕ} {at m r : ℕ} → Wrote out at a one m → Wrote one m b two r → Wrote out at (a ++ b) two r
then {out} {one} {two} {a} {b} {at} {m} {r} p q =
    record {
      next = q.next ∙ rw (p.next, p.is, fitting_both out at a b, length-append, add_assoc);
      is = q.is ∙ rw (p.is, p.next) (written_written out at a b);
    }

pub no_more : (out : List ℕ) (at : ℕ) → Wrote out at [] out at
unfolding written
no_more out at =
    let none : fitting out at [] ≡ [] = take_all (length out - at) [] (omega arith) in
    record { next = rw none (sym (add-zero at)); is = rw (none, add-zero at) (sym (take-append-drop at out)) }

-- the same text, said in another way
pub said_as : {out left a b : List ℕ} {at r : ℕ} → b ≡ a → Wrote out at a left r → Wrote out at b left r
said_as e p = rw e p

-- what is put from here on completes the whole: what a loop that puts one text after another keeps
abbrev pub Completes : (out₀ : List ℕ) (at : ℕ) (all out : List ℕ) (next : ℕ) (rest : List ℕ) → Type 0
Completes out₀ at all out next rest = (left : List ℕ) (r : ℕ) → Wrote out next rest left r → Wrote out₀ at all left r

-- a text that has room is there, and the rest of the list stays
pub filled : {out left a : List ℕ} {n r : ℕ} → length a ≤ n → length out ≡ n → Wrote out 0 a left r → Filled out a left r
unfolding written
filled {out} {left} {a} {n} {r} h e p =
    let all : fitting out 0 a ≡ a = take_all (length out - 0) a (omega arith) in
    let count : r ≡ length a = p.next ∙ rw (all, zero-add) in
    let room : r ≤ length left = omega (arith, ap length p.is ∙ length_written out 0 a) in
    record { count = count; is = p.is ∙ rw (all, zero-add); room = room; part = sym (length-take-le r left room) }

-- nothing fits behind a list
pub no_room : (out : List ℕ) (at : ℕ) (text : List ℕ) → length out ≤ at → Wrote out at text out at
unfolding written
no_room out at text h =
    let none : length out - at ≡ 0 = omega arith in
    record { next = rw none (sym (add-zero at)); is = rw (none, add-zero at) (sym (take-append-drop at out)) }

-- as much of a text as fits, copied over a part of the list
module _ (out : List ℕ) (at : ℕ) (text part : List ℕ) (n : ℕ) (h : at ≤ length out) (e : n ≡ min (length out - at) (length text)) (is : part ≡ take n text) where
  m : n ≡ length (fitting out at text)
  m = e ∙ sym (length-take (length out - at) text)

  first : take (length (fitting out at text)) text ≡ fitting out at text
  first =
      ap (λ (l : List ℕ). take (length (fitting out at text)) l) (sym (take-append-drop (length out - at) text))
      ∙ take-append_seam (fitting out at text) (drop (length out - at) text)

  fits : part ≡ fitting out at text
  fits = is ∙ (rw m first)

  pub copied : Wrote out at text (put_mid at n out part) (at + n)
  unfolding written
  copied =
      let f = fitting out at text in
      let front = take-put_mid at n out f (at + length f) refl h in
      let back = drop-put_mid at n out f (at + length f) (omega (arith, m)) h (sym m) in
      record {
        next = ap (λ (k : ℕ). at + k) m;
        is =
            ap (put_mid at n out) fits
            ∙ sym (take-append-drop (at + length f) (put_mid at n out f))
            ∙ rw (front, back) (append_assoc (take at out) f (drop (at + length f) out));
      }

-- the same, copied one character after the other
pub pasted : (out : List ℕ) (at : ℕ) (text : List ℕ) (n : ℕ) → n ≡ min (length out - at) (length text) → Wrote out at text (paste out at text n) (at + n)
unfolding written
pasted out at text n e =
    record {
      next = ap (λ (k : ℕ). at + k) m;
      is = rw (m, first) (append_assoc (take at out) (fitting out at text) (drop (at + length (fitting out at text)) out));
    }
  where
    m : n ≡ length (fitting out at text)
    m = e ∙ sym (length-take (length out - at) text)

    first : take (length (fitting out at text)) text ≡ fitting out at text
    first =
        ap (λ (l : List ℕ). take (length (fitting out at text)) l) (sym (take-append-drop (length out - at) text))
        ∙ take-append_seam (fitting out at text) (drop (length out - at) text)
