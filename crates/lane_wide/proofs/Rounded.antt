-- The rounded quotient of q15mulr, over whole numbers: it lies between −32767 and 32768 for all inputs, and meets both ends (document 02, order 3).
-- Assumes nothing.
use mathlib.Core.Path.{◌≡◌, refl}
use mathlib.Core.Bool.{Bool, true, false, cond}
use Prim.Native.Nat.{ℕ, zero, suc, ◌+◌, ◌-◌, ◌*◌, ◌/◌, ◌^◌, ◌≤◌}
use native.Mathlib.Nat.{mul-le-mul}
use native.Mathlib.Omega.{arith}
use borrow.Author.Tests.{le-ltb}
use lib.Dec.{ltb, le→leb, leb→le}
use lib.IntN.{ℤ, pos, negsuc, neg_ℤ, ◌+ℤ◌, ◌*ℤ◌}
use lib.Signed.{lt_z, ◌≤ℤ◌, le_z_yes}
use mir.Syntax.{w16}
use mir.Val.{Fits, SFits}
use Rattle.standard.specs.Integer.{signed, floor}
use Rattle.lane_integer.proofs.Magnitude.{signed_fits}

-- "the floor of (x·y + 16384) / 32768"
abbrev pub quotient : ℤ → ℤ → ℤ
quotient x y = floor (x *ℤ y +ℤ pos 16384) 15

-- "between −32767 and 32768"
pub record Between (z : ℤ) : Type 0 where
  pub above : negsuc 32766 ≤ℤ z
  pub below : z ≤ℤ pos 32768

-- a product that is not negative is at most (−32768)·(−32768)
up : (p : ℕ) → p ≤ 32768 * 32768 → Between (floor (pos p +ℤ pos 16384) 15)
up p h = record { above = le_z_yes tt; below = le_z_yes (le→leb ((p + 16384) / 2 ^ 15) 32768 (omega arith)) }

-- a product that is not positive is at least (−32768)·32767
down : (p : ℕ) → p ≤ 32768 * 32767 → Between (floor (neg_ℤ (pos p) +ℤ pos 16384) 15)
down zero h = record { above = le_z_yes tt; below = le_z_yes tt }
down (suc m) h = by (ltb 16384 (suc m)) refl
  where
    by : (t : Bool) → ltb 16384 (suc m) ≡ t → Between (floor (cond t (negsuc (suc m - suc 16384)) (pos (16384 - suc m))) 15)
    by true e = record { above = le_z_yes (le→leb ((suc m - suc 16384) / 2 ^ 15) 32766 (omega arith)); below = le_z_yes tt }
    by false e = record { above = le_z_yes tt; below = le_z_yes (le→leb ((16384 - suc m) / 2 ^ 15) 32768 (omega arith)) }

pub between : (x y : ℤ) → SFits w16 x → SFits w16 y → Between (quotient x y)
between (pos a) (pos b) f g =
    let ha = f.sfits in let hb = g.sfits in up (a * b) (mul-le-mul {n₁ = a} {m₁ = b} {n₂ = 32768} {m₂ = 32768} (omega arith) (omega arith))
between (pos a) (negsuc b) f g =
    let ha = f.sfits in let hb = g.sfits in down (a * suc b) (mul-le-mul {n₁ = a} {m₁ = suc b} {n₂ = 32767} {m₂ = 32768} (omega arith) (omega arith))
between (negsuc a) (pos b) f g =
    let ha = f.sfits in let hb = g.sfits in down (suc a * b) (mul-le-mul {n₁ = suc a} {m₁ = b} {n₂ = 32768} {m₂ = 32767} (omega arith) (omega arith))
between (negsuc a) (negsuc b) f g =
    let ha = f.sfits in let hb = g.sfits in up (suc a * suc b) (mul-le-mul {n₁ = suc a} {m₁ = suc b} {n₂ = 32768} {m₂ = 32768} (omega arith) (omega arith))

-- for every pair of lanes
pub lanes_between : (a b : ℕ) → Fits w16 a → Fits w16 b → Between (quotient (signed 16 a) (signed 16 b))
lanes_between a b f g = between (signed 16 a) (signed 16 b) (signed_fits w16 a f) (signed_fits w16 b g)

-- both ends are met: by −32768 and 32767, and by −32768 twice
lowest_met : quotient (negsuc 32767) (pos 32767) ≡ negsuc 32766
lowest_met = refl

highest_met : quotient (negsuc 32767) (negsuc 32767) ≡ pos 32768
highest_met = refl

-- so it is never below the signed range of 16 bits
pub not_below : (z : ℤ) → negsuc 32766 ≤ℤ z → lt_z z (negsuc 32767) ≡ false
not_below (pos n) h = refl
not_below (negsuc n) h = le-ltb 32767 n (let l = leb→le n 32766 h.le in omega arith)
