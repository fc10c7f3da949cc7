-- Numerals, read one character at a time. Assumes nothing.
use mathlib.Core.Path.{◌≡◌, refl, ◌∙◌}
use mathlib.Core.Bool.{Bool, true, false, cond, ◌&&◌, false≢true}
use mathlib.Core.List.{List, [], ◌∷◌}
use Prim.Native.Nat.{ℕ, ◌+◌, ◌*◌, ◌^◌, ◌<◌, ◌≤◌}
use native.Mathlib.Nat.{le-mul_of_pos_right, mul-le-mul_left}
use native.Mathlib.Numerals.{add-one}
use native.Mathlib.Omega.{arith}
use borrow.Author.Tests.{lt-ltb, le-ltb, leb-true}
use lib.Dec.{ltb, leb}
use lib.ListN.{length, get_or, drop, drop_of_length-le}
use lib.Seq.{drop-cons}
use Rattle.program_arguments.specs.Arguments.{number, none, digit, numeral, fitting}

both : (a b : Bool) → (a && b) ≡ true → (a ≡ true) × (b ≡ true)
both true b e = (refl, e)
both false b e = absurd (false≢true e)

pub within : (lo hi c : ℕ) → (leb lo c && leb c hi) ≡ true → (lo ≤ c) × (c ≤ hi)
within lo hi c e =
    let tests = both (leb lo c) (leb c hi) e in
    (leb-true lo c tests.0, leb-true c hi tests.1)

pub product_lt : (v base : ℕ) → v < 2 ^ 32 → base ≤ 16 → v * base < 2 ^ 36
product_lt v base h hb = omega (arith, mul-le-mul_left v hb)

-- a value of 2^32 or more stays so
pub beyond : (base v : ℕ) (cs : List ℕ) → 0 < base → 2 ^ 32 ≤ v → fitting (numeral base v cs) ≡ none
beyond base v [] hb h = rw (le-ltb v (2 ^ 32) h)
beyond base v (c ∷ cs) hb h = by (ltb (digit c) base) (beyond base (v * base + digit c) cs hb more)
  where
    more : 2 ^ 32 ≤ v * base + digit c
    more = omega (arith, le-mul_of_pos_right v hb)

    by : (b : Bool) → fitting (numeral base (v * base + digit c) cs) ≡ none → fitting (cond b (numeral base (v * base + digit c) cs) none) ≡ none
    by true rest = rest
    by false rest = refl

-- One character more of a text of which i are read.
module _ (text : List ℕ) (base v i d : ℕ) (h : i < length text) (is : d ≡ digit (get_or text i 0))
    (reached : numeral base 0 text ≡ numeral base v (drop i text)) where
  here : numeral base 0 text ≡ cond (ltb d base) (numeral base (v * base + d) (drop (i + 1) text)) none
  here = reached ∙ rw (drop-cons text i 0 h, add-one i, is)

  pub no_digit : base ≤ d → none ≡ fitting (numeral base 0 text)
  no_digit k = rw (here, le-ltb d base k)

  pub read_on : d < base → numeral base 0 text ≡ numeral base (v * base + d) (drop (i + 1) text)
  read_on k = here ∙ rw (lt-ltb d base k)

pub all_read : (text : List ℕ) (base v i : ℕ) → length text ≤ i → v < 2 ^ 32 → numeral base 0 text ≡ numeral base v (drop i text)
    → number v ≡ fitting (numeral base 0 text)
all_read text base v i h k e = rw (e, drop_of_length-le text h, lt-ltb v (2 ^ 32) k)
