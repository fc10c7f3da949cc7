-- The upper half of an f64: its sign, its field and its first digits. Assumes nothing.
use mathlib.Core.Path.{◌≡◌, refl}
use mathlib.Core.Bool.{Bool, true, false, cond}
use Prim.Native.Nat.{ℕ, ◌-◌, ◌*◌, ◌/◌, ◌%◌, ◌^◌, ◌<◌, ◌≤◌}
use native.Mathlib.Omega.{arith}
use borrow.Author.Tests.{leb-true, leb-false, le-leb, lt-leb}
use lib.Dec.{leb}
use lib.Ieee.{binary64}
use Rattle.lane_float_pattern.proofs.Fields.{field}

-- without its sign
abbrev pub upper : ℕ → ℕ
upper b = b / 4294967296 % 2147483648

pub field_is : (b : ℕ) → upper b / 1048576 ≡ field binary64 b
field_is b = omega arith

pub under : (x b : ℕ) → upper b < x * 1048576 → field binary64 b < x
under x b h = omega arith

pub from : (x b : ℕ) → x * 1048576 ≤ upper b → x ≤ field binary64 b
from x b h = omega arith

pub finite : (b : ℕ) → upper b < 2146435072 → b % 9223372036854775808 ≤ 9218868437227405312
finite b h = omega arith

pub sign_is : (b : ℕ) → b < 2 ^ 64 → b / 4294967296 - upper b ≡ cond (leb (2 ^ 63) b) 2147483648 0
sign_is b h = pick (leb 9223372036854775808 b) refl
  where
    pick : (t : Bool) → leb 9223372036854775808 b ≡ t → b / 4294967296 - upper b ≡ cond t 2147483648 0
    pick true e = omega (arith, leb-true 9223372036854775808 b e)
    pick false e = omega (arith, leb-false 9223372036854775808 b e)

pub sign_test : (b : ℕ) → leb 2147483648 (b / 4294967296) ≡ leb (2 ^ 63) b
sign_test b = pick (leb 9223372036854775808 b) refl
  where
    pick : (t : Bool) → leb 9223372036854775808 b ≡ t → leb 2147483648 (b / 4294967296) ≡ t
    pick true e = le-leb 2147483648 (b / 4294967296) (omega (arith, leb-true 9223372036854775808 b e))
    pick false e = lt-leb 2147483648 (b / 4294967296) (omega (arith, leb-false 9223372036854775808 b e))
