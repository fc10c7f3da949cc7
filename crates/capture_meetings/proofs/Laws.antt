-- The laws of every meeting: in parts, shifted, cut and carried. Assumes nothing.
use mathlib.Core.Path.{◌≡◌, refl, sym, ap, ap₂, ◌∙◌}
use mathlib.Core.Bool.{Bool, true, false}
use mathlib.Core.List.{List, [], ◌∷◌, ◌++◌, append-nil}
use Prim.Native.Nat.{ℕ, zero, suc, ◌+◌, ◌-◌, ◌<◌, ◌≤◌}
use native.Mathlib.Nat.{add-zero, zero-add, suc-add}
use native.Mathlib.Omega.{arith}
use borrow.Author.Tests.{ltb-true, ltb-false}
use lib.Dec.{ltb}
use lib.ListN.{length, take, drop, length-drop, take-append-drop}
use lib.Seq.{take_all, drop-drop, take-append-le, drop-append-le, length-take-le, take_at}
use Rattle.finder_windows.specs.Definition.{window, stands}
use Rattle.capture_meetings.specs.Meetings.{Meeting, met, all_from, places, meetings, shift}

pub shift_none : (k : ℕ) → shift k [] ≡ []
unfolding shift
shift_none k = refl

pub shift_zero : (ms : List Meeting) → shift 0 ms ≡ ms
unfolding shift
shift_zero [] = refl
shift_zero (met p d e ∷ ms) = rw (zero-add p, shift_zero ms)

pub shift_shift : (j k : ℕ) (ms : List Meeting) → shift j (shift k ms) ≡ shift (j + k) ms
unfolding shift
shift_shift j k [] = refl
shift_shift j k (met p d e ∷ ms) =
    let place : j + (k + p) ≡ j + k + p = omega arith in
    rw (place, shift_shift j k ms)

pub shift_append : (k : ℕ) (xs ys : List Meeting) → shift k (xs ++ ys) ≡ shift k xs ++ shift k ys
unfolding shift
shift_append k [] ys = refl
shift_append k (met p d e ∷ ms) ys = rw (shift_append k ms ys)

-- a window of a list's start, and of what is left of it
pub window_before : (xs ys : List ℕ) (q : ℕ) → q + 32 ≤ length xs → window (xs ++ ys) q ≡ window xs q
window_before xs ys q h =
    ap (take 32) (drop-append-le q xs ys (omega arith)) ∙ take-append-le 32 (drop q xs) ys (simp length-drop (omega arith))

pub window_after : (s : List ℕ) (k q : ℕ) → window (drop k s) q ≡ window s (k + q)
window_after s k q = ap (take 32) (drop-drop q k s)

module _ (m : List ℕ) (t L : ℕ) where
  -- the first c positions, then the n after them
  pub parts : (s : List ℕ) (c n p : ℕ) → all_from s m t L (c + n) p ≡ all_from s m t L c p ++ all_from s m t L n (p + c)
  unfolding all_from
  parts s zero n p = rw (zero-add n, add-zero p)
  parts s (suc c) n p = by (stands s m t L p) refl (parts s c n (p + 1))
    where
      later : p + 1 + c ≡ p + suc c
      later = omega arith

      by : (b : Bool) → stands s m t L p ≡ b → all_from s m t L (c + n) (p + 1) ≡ all_from s m t L c (p + 1) ++ all_from s m t L n (p + 1 + c)
          → all_from s m t L (suc c + n) p ≡ all_from s m t L (suc c) p ++ all_from s m t L n (p + suc c)
      by true e rest = rw (suc-add c n, e, ← later, rest)
      by false e rest = rw (suc-add c n, e, ← later, rest)

  -- two captures whose windows are the same, k bits apart
  pub agree : (s u : List ℕ) (k n p : ℕ) → ((q : ℕ) → p ≤ q → q < p + n + L → window s (k + q) ≡ window u q)
      → all_from s m t L n (k + p) ≡ shift k (all_from u m t L n p)
  unfolding all_from shift
  agree s u k zero p h = refl
  agree s u k (suc n) p h = by (stands u m t L p) refl (agree s u k n (p + 1) (λ q a b. h q (omega arith) (omega arith)))
    where
      here : window s (k + p) ≡ window u p
      here = h p (omega arith) (omega arith)

      again : window s (k + p + L) ≡ window u (p + L)
      again =
          let place : k + p + L ≡ k + (p + L) = omega arith in
          rw place (h (p + L) (omega arith) (omega arith))

      next : k + p + 1 ≡ k + (p + 1)
      next = omega arith

      by : (b : Bool) → stands u m t L p ≡ b → all_from s m t L n (k + (p + 1)) ≡ shift k (all_from u m t L n (p + 1))
          → all_from s m t L (suc n) (k + p) ≡ shift k (all_from u m t L (suc n) p)
      by true e rest = rw (here, again, e, next, rest)
      by false e rest = rw (here, again, e, next, rest)

  -- The cut law: a capture cut at any bit c, where the first part goes on for L + 31 bits beyond the cut.
  pub cut : (s : List ℕ) (c : ℕ) → meetings s m t L ≡ meetings (take (c + (L + 31)) s) m t L ++ shift c (meetings (drop c s) m t L)
  unfolding meetings all_from shift
  cut s c = by (ltb (length s) (c + (L + 31))) refl
    where
      by : (b : Bool) → ltb (length s) (c + (L + 31)) ≡ b
          → all_from s m t L (places L (length s)) 0
          ≡ all_from (take (c + (L + 31)) s) m t L (places L (length (take (c + (L + 31)) s))) 0
          ++ shift c (all_from (drop c s) m t L (places L (length (drop c s))) 0)
      by true e =
          let short = ltb-true (length s) (c + (L + 31)) e in
          let none : length (drop c s) - (L + 31) ≡ 0 = simp length-drop (omega arith) in
          rw (take_all (c + (L + 31)) s (omega arith), none) (sym (append-nil _))
      by false e =
          let long = ltb-false (length s) (c + (L + 31)) e in
          let count : length s - (L + 31) ≡ c + (length (drop c s) - (L + 31)) = simp length-drop (omega arith) in
          let first : length (take (c + (L + 31)) s) - (L + 31) ≡ c = omega (arith, length-take-le (c + (L + 31)) s long) in
          let before : all_from s m t L c 0 ≡ all_from (take (c + (L + 31)) s) m t L c 0 =
          agree s (take (c + (L + 31)) s) 0 c 0
          (λ q a b.
          rw (zero-add q)
          (ap (λ (z : List ℕ). window z q) (sym (take-append-drop (c + (L + 31)) s))
          ∙ window_before (take (c + (L + 31)) s) (drop (c + (L + 31)) s) q (omega (arith, length-take-le (c + (L + 31)) s long))))
          ∙ shift_zero _
          in
          let after : all_from s m t L (length (drop c s) - (L + 31)) (0 + c) ≡ shift c (all_from (drop c s) m t L (length (drop c s) - (L + 31)) 0) =
          rw (zero-add c) (rw (add-zero c) at (agree s (drop c s) c (length (drop c s) - (L + 31)) 0 (λ q a b. sym (window_after s c q))))
          in
          rw (count, first) (parts s c (length (drop c s) - (L + 31)) 0 ∙ ap₂ (λ (x y : List Meeting). x ++ y) before after)

  -- What is carried over from x to what comes after it: the bits from the first position that is not decided yet, at most L + 31.
  pub carry : (x y : List ℕ)
      → meetings (x ++ y) m t L ≡ meetings x m t L ++ shift (places L (length x)) (meetings (drop (places L (length x)) x ++ y) m t L)
  unfolding meetings all_from
  carry x y = by (ltb (length x) (L + 31)) refl
    where
      by : (b : Bool) → ltb (length x) (L + 31) ≡ b
          → meetings (x ++ y) m t L ≡ meetings x m t L ++ shift (places L (length x)) (meetings (drop (places L (length x)) x ++ y) m t L)
      by true e =
          let none : length x - (L + 31) ≡ 0 = omega (arith, ltb-true (length x) (L + 31) e) in
          rw none (sym (shift_zero _))
      by false e =
          let enough = ltb-false (length x) (L + 31) e in
          let all : length x - (L + 31) + (L + 31) ≡ length x = omega arith in
          let before : take (length x - (L + 31) + (L + 31)) (x ++ y) ≡ x = rw all (take_at x y (length x) refl) in
          cut (x ++ y) (length x - (L + 31))
          ∙ ap₂ (λ (u v : List ℕ). meetings u m t L ++ shift (length x - (L + 31)) (meetings v m t L)) before
          (drop-append-le (length x - (L + 31)) x y (omega arith))
