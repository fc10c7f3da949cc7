-- What an answer means to a lessee, over the definition alone. Assumes nothing.
use mathlib.Core.Path.{◌≡◌, refl, sym, ◌∙◌}
use mathlib.Core.Bool.{Bool, true, false, cond, ◌&&◌, ◌||◌, true≢false, false≢true}
use mathlib.Core.List.{List}
use Prim.Native.Nat.{ℕ, zero, suc, ◌+◌, ◌-◌, ◌<◌, ◌≤◌, zero-le}
use native.Mathlib.Nat.{zero-add}
use native.Mathlib.Omega.{arith}
use borrow.Author.Tests.{leb-true, le-leb, eqb-true, eqb-false}
use lib.Dec.{ltb, eqb}
use lib.ListN.{length}
use Rattle.finder_windows.specs.Definition.{bits, marker_bits, window, distance, Answer, found, refused, stands, refusal, barred, first_from, find}
use Rattle.finder_windows.proofs.Positions.{none}
use Rattle.finder_windows.proofs.Refusals.{admitted, find_refused, find_searched}

-- The marker is met at p and again a frame later: both windows are inside the buffer, and each differs from the marker in at most t bits.
pub record Met (buffer : List ℕ) (marker t L p : ℕ) : Type 0 where
  pub inside : p + L + 32 ≤ length (bits buffer)
  pub here : distance (window (bits buffer) p) (marker_bits marker) ≤ t
  pub again : distance (window (bits buffer) (p + L)) (marker_bits marker) ≤ t

-- what a search among n positions from p on has found
record Reached (stream m : List ℕ) (t L n p q d f : ℕ) : Type 0 where
  from : p ≤ q
  to : q < p + n
  at : stands stream m t L q ≡ true
  first : d ≡ distance (window stream q) m
  second : f ≡ distance (window stream (q + L)) m
  before : (r : ℕ) → p ≤ r → r < q → stands stream m t L r ≡ false

module _ (stream m : List ℕ) (t L : ℕ) where
  -- of one position and those after it
  or_here : (p : ℕ) (P : ℕ → Type 0) → P p → ((r : ℕ) → p + 1 ≤ r → P r) → (r : ℕ) → p ≤ r → P r
  or_here p P h k r e = by (eqb r p) refl
    where
      by : (b : Bool) → eqb r p ≡ b → P r
      by true s = rw (eqb-true r p s) h
      by false s = k r (omega (arith, eqb-false r p s))

  reached : (n p q d f : ℕ) → first_from stream m t L n p ≡ found q d f → Reached stream m t L n p q d f
  unfolding first_from
  reached zero p q d f e = let z : ◌≡◌ {A = ℕ} 0 1 = cc in absurd (omega arith)
  reached (suc n) p q d f e = by (stands stream m t L p) refl (reached n (p + 1) q d f)
    where
      by : (b : Bool) → stands stream m t L p ≡ b → (first_from stream m t L n (p + 1) ≡ found q d f → Reached stream m t L n (p + 1) q d f)
          → Reached stream m t L (suc n) p q d f
      by true s rest =
          let here : found p (distance (window stream p) m) (distance (window stream (p + L)) m) ≡ found q d f = rw s at e in
          let same : p ≡ q = cc in
          record { from = omega arith; to = omega arith; at = rw (← same) s; first = cc; second = cc; before = λ r h k. absurd (omega arith) }
      by false s rest =
          let later = rest (rw s at e) in
          record {
            from = omega arith;
            to = omega arith;
            at = later.at;
            first = later.first;
            second = later.second;
            before = or_here p (λ r. r < q → stands stream m t L r ≡ false) (λ h. s) later.before;
          }

  passed : (n p k : ℕ) → first_from stream m t L n p ≡ refused k → (r : ℕ) → p ≤ r → r < p + n → stands stream m t L r ≡ false
  unfolding first_from
  passed zero p k e r h l = absurd (omega arith)
  passed (suc n) p k e r h l = by (stands stream m t L p) refl (passed n (p + 1) k) r h l
    where
      by : (b : Bool) → stands stream m t L p ≡ b
          → (first_from stream m t L n (p + 1) ≡ refused k → (r : ℕ) → p + 1 ≤ r → r < p + 1 + n → stands stream m t L r ≡ false)
          → (r : ℕ) → p ≤ r → r < p + suc n → stands stream m t L r ≡ false
      by true s rest =
          let here : found p (distance (window stream p) m) (distance (window stream (p + L)) m) ≡ refused k = rw s at e in
          let z : ◌≡◌ {A = ℕ} 0 1 = cc in
          absurd (omega arith)
      by false s rest = or_here p (λ r. r < p + suc n → stands stream m t L r ≡ false) (λ h. s) (λ r h l. rest (rw s at e) r h (omega arith))

-- both tests of a position, and what they test
both_true : (a b : Bool) → (a && b) ≡ true → (a ≡ true) × (b ≡ true)
both_true true b e = (refl, e)
both_true false b e = absurd (false≢true e)

at_most_ten : (a b c : Bool) → ◌≡◌ {A = ℕ} (cond a 8 (cond b 9 (cond c 10 0))) 11 → ⊥
at_most_ten true b c e = omega arith
at_most_ten false true c e = omega arith
at_most_ten false false true e = omega arith
at_most_ten false false false e = omega arith

module _ (buffer : List ℕ) (marker t L : ℕ) where
  stands_met : (p : ℕ) → p + L + 32 ≤ length (bits buffer) → stands (bits buffer) (marker_bits marker) t L p ≡ true → Met buffer marker t L p
  stands_met p h e =
      let tests = both_true _ _ e in
      record { inside = h; here = leb-true _ _ tests.0; again = leb-true _ _ tests.1 }

  met_stands : (p : ℕ) → Met buffer marker t L p → stands (bits buffer) (marker_bits marker) t L p ≡ true
  met_stands p h = rw (le-leb _ _ h.here, le-leb _ _ h.again)

  -- the positions at which both windows are inside the buffer
  positions : ℕ
  positions = suc (length (bits buffer) - (L + 32))

  -- an answer that is not one of 8, 9 and 10 comes from the search
  judged_so : (a : Answer) → find buffer marker t L ≡ a → (refused (refusal buffer t L) ≡ a → ⊥) → refusal buffer t L ≡ 0
  unfolding find
  judged_so a h other = by (eqb (refusal buffer t L) 0) refl
    where
      by : (b : Bool) → eqb (refusal buffer t L) 0 ≡ b → refusal buffer t L ≡ 0
      by true s = eqb-true (refusal buffer t L) 0 s
      by false s = absurd (other (rw s at h))

  not_eleven : refused (refusal buffer t L) ≡ refused 11 → ⊥
  not_eleven e = at_most_ten (ltb 8 t) (ltb L 64 || ltb 65536 L) (ltb 65536 (length buffer) || ltb (length (bits buffer)) (L + 32)) cc

  -- where an answer stands: it is met there, the distances are those of the two windows, and it is met nowhere before
  module _ (p d e : ℕ) (answer : find buffer marker t L ≡ found p d e) where
    judged : refusal buffer t L ≡ 0
    judged = judged_so (found p d e) answer (λ other. let z : ◌≡◌ {A = ℕ} 0 1 = cc in omega arith)

    search : Reached (bits buffer) (marker_bits marker) t L positions 0 p d e
    unfolding positions
    search = reached (bits buffer) (marker_bits marker) t L positions 0 p d e (sym (find_searched buffer marker t L judged) ∙ answer)

    pub met : Met buffer marker t L p
    unfolding positions
    met = stands_met p (omega (arith, search.to, (admitted buffer t L judged).room)) search.at

    pub first_distance : d ≡ distance (window (bits buffer) p) (marker_bits marker)
    first_distance = search.first

    pub second_distance : e ≡ distance (window (bits buffer) (p + L)) (marker_bits marker)
    second_distance = search.second

    pub no_smaller : (q : ℕ) → q < p → Met buffer marker t L q → ⊥
    no_smaller q h m = true≢false (sym (met_stands q m) ∙ search.before q zero-le h)

  -- 11 is given only where it is met nowhere
  pub none_met : find buffer marker t L ≡ refused 11 → (q : ℕ) → Met buffer marker t L q → ⊥
  unfolding positions
  none_met answer q m =
      let judged = judged_so (refused 11) answer not_eleven in
      let search = sym (find_searched buffer marker t L judged) ∙ answer in
      true≢false (sym (met_stands q m)
      ∙ passed (bits buffer) (marker_bits marker) t L positions 0 11 search q zero-le (omega (arith, m.inside)))

  -- and everywhere that 8, 9 and 10 are not
  pub none_given : refusal buffer t L ≡ 0 → ((q : ℕ) → Met buffer marker t L q → ⊥) → find buffer marker t L ≡ refused 11
  unfolding positions
  none_given judged h =
      find_searched buffer marker t L judged
      ∙ none (bits buffer) (marker_bits marker) t L positions 0 (λ k l. rw (zero-add k) (at k l (stands (bits buffer) (marker_bits marker) t L k) refl))
    where
      at : (k : ℕ) → k < positions → (b : Bool) → stands (bits buffer) (marker_bits marker) t L k ≡ b → stands (bits buffer) (marker_bits marker) t L k ≡ false
      at k l true s = absurd (h k (stands_met k (omega (arith, (admitted buffer t L judged).room)) s))
      at k l false s = s

  -- A marker that stands only once is never reported: where no window within the tolerance has another a frame later, the answer is 11.
  pub once_is_never_reported : refusal buffer t L ≡ 0
      → ((p : ℕ) → distance (window (bits buffer) p) (marker_bits marker) ≤ t → t < distance (window (bits buffer) (p + L)) (marker_bits marker))
      → find buffer marker t L ≡ refused 11
  once_is_never_reported judged h = none_given judged (λ q m. omega (arith, h q m.here, m.again))

-- The arguments alone decide 8 and 9: no byte of the buffer is needed for them.
pub arguments_decide : (m t L : ℕ) → (barred t L ≡ 0 → ⊥) → (buffer : List ℕ) → find buffer m t L ≡ refused (barred t L)
arguments_decide m t L h buffer = sym (find_refused buffer m t L (go (ltb 8 t) (ltb L 64 || ltb 65536 L) _ h) h)
  where
    given : Bool → Bool → ℕ → ℕ
    given a b later = cond a 8 (cond b 9 later)

    go : (a b : Bool) (later : ℕ) → (given a b 0 ≡ 0 → ⊥) → given a b 0 ≡ given a b later
    go true b later h = refl
    go false true later h = refl
    go false false later h = absurd (h refl)
