-- What the finder answers, below an end. Assumes nothing.
use Prim.Native.Nat.{ℕ, ◌+◌, ◌-◌, ◌<◌, ◌≤◌}
use mathlib.Core.Path.{◌≡◌, refl, sym, ap, ◌∙◌}
use mathlib.Core.Bool.{Bool, true, false, ◌&&◌}
use mathlib.Core.List.{List, [], ◌∷◌, ◌++◌, Memᴰ}
use mathlib.Core.Logic.{◌⊎◌, inl, inr, ⊎_elim}
use native.Mathlib.Omega.{arith}
use borrow.Author.Tests.{leb-true, leb-false}
use lib.Dec.{leb}
use lib.ListN.{length, drop, length-take}
use Rattle.finder_windows.specs.Definition.{found, refused, first_from}
use Rattle.capture_meetings.specs.Meetings.{Meeting, met, all_from, shift, first_of}
use Rattle.capture_meetings.proofs.Laws.{parts, shift_append}
use Rattle.capture_meetings.proofs.Members.{only}
use Rattle.capture_meetings.proofs.Theorems.{first_is}
use Rattle.program_digits.specs.Put.{Wrote}
use Rattle.program_digits.proofs.Puts.{then, said_as, no_more}
use Rattle.program_scan.specs.Lines.{lines}
use Rattle.program_scan.proofs.Ink.{lines_append, whole}
use Rattle.capture_history.proofs.Standing.{Head, head_of}

none_before : (xs ys : List Meeting) → xs ++ ys ≡ [] → xs ≡ []
none_before [] ys e = refl
none_before (x ∷ xs) ys e = let z : ◌≡◌ {A = ℕ} 0 1 = cc in absurd (omega arith)

one_or_none : (xs ys : List Meeting) (z : Meeting) → xs ++ ys ≡ z ∷ [] → (xs ≡ []) ⊎ (xs ≡ z ∷ [])
one_or_none [] ys z e = inl refl
one_or_none (x ∷ []) ys z e = let same : x ≡ z = cc in inr (ap (λ (y : Meeting). y ∷ []) same)
one_or_none (x ∷ y ∷ xs) ys z e = let q : ◌≡◌ {A = ℕ} 0 1 = cc in absurd (omega arith)

first_none : {k : ℕ} (ms : List Meeting) → first_of ms ≡ refused k → ms ≡ []
first_none [] h = refl
first_none (met p d e ∷ ms) h = let z : ◌≡◌ {A = ℕ} 0 1 = cc in absurd (omega arith)

pub both : (a b : Bool) → a && b ≡ true → (a ≡ true) × (b ≡ true)
both true b e = (refl, e)
both false b e = let z : ◌≡◌ {A = ℕ} 0 1 = cc in absurd (omega arith)

module _ (s m : List ℕ) (t L n at end : ℕ) (in_order : at ≤ end) (enough : end - at ≤ n) where
  prefix : all_from s m t L n at ≡ all_from s m t L (end - at) at ++ all_from s m t L (n - (end - at)) (at + (end - at))
  prefix =
      let all : n ≡ end - at + (n - (end - at)) = omega arith in
      ap (λ (k : ℕ). all_from s m t L k at) all ∙ parts m t L s (end - at) (n - (end - at)) at

  pub nowhere : (k : ℕ) → first_from s m t L n at ≡ refused k → all_from s m t L (end - at) at ≡ []
  nowhere k e = none_before _ _ (sym prefix ∙ first_none (all_from s m t L n at) (sym (first_is m t L s n at) ∙ e))

  module _ (q d e : ℕ) (f : first_from s m t L n at ≡ found q d e) where
    pub head : Head m t L s n at q d e
    head = head_of m t L s n at q d e f

    pub near : (d ≤ t) × (e ≤ t)
    near =
        let here = only s m t L (q + 1 - at) at q d e (rw head.only (Memᴰ.head refl)) in
        let parted = both _ _ here.meets in
        (rw here.first (leb-true _ _ parted.0), rw here.second (leb-true _ _ parted.1))

    pub beyond : end ≤ q → all_from s m t L (end - at) at ≡ []
    beyond h =
        let low = head.low in
        let all : q + 1 - at ≡ end - at + (q + 1 - at - (end - at)) = omega arith in
        let cut = sym (ap (λ (k : ℕ). all_from s m t L k at) all ∙ parts m t L s (end - at) (q + 1 - at - (end - at)) at) ∙ head.only in
        ⊎_elim (λ none. none) (λ one. absurd (omega (arith, (only s m t L (end - at) at q d e (rw one (Memᴰ.head refl))).high))) (one_or_none _ _ _ cut)

-- lines of more positions
module _ (s m : List ℕ) (t L base : ℕ) {b x y : List ℕ} {h r : ℕ} (from at : ℕ) (in_order : from ≤ at)
    (before : Wrote b 0 (lines (shift base (all_from s m t L (at - from) from))) x h) where
  pub more : (n : ℕ) → Wrote x h (lines (shift base (all_from s m t L n at))) y r → Wrote b 0 (lines (shift base (all_from s m t L (at + n - from) from))) y r
  more n put =
      let count : at + n - from ≡ at - from + n = omega arith in
      let place : from + (at - from) ≡ at = omega arith in
      said_as
      (ap (λ (k : ℕ). lines (shift base (all_from s m t L k from))) count
      ∙ ap (λ (l : List Meeting). lines (shift base l))
      (parts m t L s (at - from) n from ∙ ap (λ (q : ℕ). all_from s m t L (at - from) from ++ all_from s m t L n q) place)
      ∙ ap lines (shift_append base (all_from s m t L (at - from) from) (all_from s m t L n at))
      ∙ lines_append (shift base (all_from s m t L (at - from) from)) (shift base (all_from s m t L n at)))
      (then before put)

  pub one_more : (p d e : ℕ) → at ≤ p → all_from s m t L (p + 1 - at) at ≡ met p d e ∷ [] → Wrote x h (lines (met (base + p) d e ∷ [])) y r
      → Wrote b 0 (lines (shift base (all_from s m t L (p + 1 - from) from))) y r
  unfolding shift
  one_more p d e low is put =
      let count : at + (p + 1 - at) - from ≡ p + 1 - from = omega arith in
      rw count at (more (p + 1 - at) (said_as (ap (λ (l : List Meeting). lines (shift base l)) is) put))

pub none_more : (s m : List ℕ) (t L base : ℕ) {b x : List ℕ} {h : ℕ} (from at end : ℕ) → from ≤ at → at ≤ end → all_from s m t L (end - at) at ≡ []
    → Wrote b 0 (lines (shift base (all_from s m t L (at - from) from))) x h → Wrote b 0 (lines (shift base (all_from s m t L (end - from) from))) x h
unfolding shift lines
none_more s m t L base {b} {x} {h} from at end low high is before =
    let count : at + (end - at) - from ≡ end - from = omega arith in
    rw count at (more s m t L base from at low before (end - at) (said_as (ap (λ (l : List Meeting). lines (shift base l)) is) (no_more x h)))

pub begun : (s m : List ℕ) (t L base : ℕ) (b : List ℕ) (from : ℕ) → Wrote b 0 (lines (shift base (all_from s m t L (from - from) from))) b 0
unfolding all_from shift lines
begun s m t L base b from =
    let none : from - from ≡ 0 = omega arith in
    said_as (ap (λ (k : ℕ). lines (shift base (all_from s m t L k from))) none) (no_more b 0)

-- a text that does not reach the block's end is there whole
pub exact : {b left a : List ℕ} {r : ℕ} → Wrote b 0 a left r → r < length b → length a ≡ r
exact {b} {left} {a} {r} put less = by (leb (length a) (length b)) refl
  where
    by : (t : Bool) → leb (length a) (length b) ≡ t → length a ≡ r
    by true e = sym (whole (leb-true _ _ e) put).0
    by false e =
        let long = leb-false (length a) (length b) e in
        absurd (omega (arith, put.next, length-take (length b - 0) a))

pub there : {b left a : List ℕ} {r : ℕ} → Wrote b 0 a left r → length a ≡ r → r ≤ length b → left ≡ a ++ drop r b
there {b} {left} {a} {r} put size fits = rw (← size) (whole (omega arith) put).1

pub begun_exact : (s m : List ℕ) (t L base from : ℕ) → length (lines (shift base (all_from s m t L (from - from) from))) ≡ 0
unfolding all_from shift lines
begun_exact s m t L base from =
    let none : from - from ≡ 0 = omega arith in
    ap (λ (k : ℕ). length (lines (shift base (all_from s m t L k from)))) none
