-- The refusals that are judged before the search. Assumes nothing.
use mathlib.Core.Path.{◌≡◌, refl, sym, ◌∙◌}
use mathlib.Core.Bool.{Bool, true, false, cond, ◌||◌, true≢false}
use mathlib.Core.List.{List}
use Prim.Native.Nat.{ℕ, suc, ◌+◌, ◌-◌, ◌*◌, ◌/◌, ◌<◌, ◌≤◌}
use native.Mathlib.Omega.{arith}
use borrow.Author.Tests.{ltb-true, ltb-false, lt-ltb, le-ltb, ne_eqb}
use lib.Dec.{ltb, lit<}
use lib.ListN.{length}
use Rattle.finder_windows.specs.Definition.{bits, marker_bits, refused, refusal, first_from, find}
use Rattle.finder_windows.proofs.Bits.{length_bits}

pub both_false : (a b : Bool) → (a || b) ≡ false → (a ≡ false) × (b ≡ false)
both_false false b e = (refl, e)
both_false true b e = absurd (true≢false e)

-- bits are fewer than n + 32 where whole bytes are fewer than those that n + 32 bits take
pub short_of : (bs : List ℕ) (n : ℕ) → ltb (length bs) ((n + 39) / 8) ≡ ltb (length (bits bs)) (n + 32)
short_of bs n = rw (length_bits bs) (by (ltb (length bs) ((n + 39) / 8)) refl)
  where
    by : (b : Bool) → ltb (length bs) ((n + 39) / 8) ≡ b → ltb (length bs) ((n + 39) / 8) ≡ ltb (8 * length bs) (n + 32)
    by true e = e ∙ sym (lt-ltb (8 * length bs) (n + 32) (omega (arith, ltb-true (length bs) ((n + 39) / 8) e)))
    by false e = e ∙ sym (le-ltb (8 * length bs) (n + 32) (omega (arith, ltb-false (length bs) ((n + 39) / 8) e)))

-- What holds where none of them is given.
pub record Admitted (bs : List ℕ) (t L : ℕ) : Type 0 where
  pub tolerance : t ≤ 8
  pub shortest : 64 ≤ L
  pub longest : L ≤ 65536
  pub size : length bs ≤ 65536
  pub room : L + 32 ≤ length (bits bs)

-- a number other than 0 is the refusal's own
apart : (b : Bool) (n later : ℕ) → 0 < n → cond b n later ≡ 0 → (b ≡ false) × (later ≡ 0)
apart true n later h e = absurd (omega arith)
apart false n later h e = (refl, e)

pub admitted : (bs : List ℕ) (t L : ℕ) → refusal bs t L ≡ 0 → Admitted bs t L
admitted bs t L e =
    let eight = apart _ 8 _ (lit< tt) e in
    let nine = apart _ 9 _ (lit< tt) eight.1 in
    let ten = apart _ 10 0 (lit< tt) nine.1 in
    let outside = both_false _ _ nine.0 in
    let unfit = both_false _ _ ten.0 in
    record {
      tolerance = ltb-false 8 t eight.0;
      shortest = ltb-false L 64 outside.0;
      longest = ltb-false 65536 L outside.1;
      size = ltb-false 65536 (length bs) unfit.0;
      room = ltb-false (length (bits bs)) (L + 32) unfit.1;
    }

pub find_refused : {n : ℕ} (bs : List ℕ) (m t L : ℕ) → n ≡ refusal bs t L → (n ≡ 0 → ⊥) → refused n ≡ find bs m t L
unfolding find
find_refused bs m t L e h = sym (rw (← e) (rw (ne_eqb _ 0 h)))

pub find_searched : (bs : List ℕ) (m t L : ℕ) → refusal bs t L ≡ 0
    → find bs m t L ≡ first_from (bits bs) (marker_bits m) t L (suc (length (bits bs) - (L + 32))) 0
unfolding find
find_searched bs m t L e = rw e
