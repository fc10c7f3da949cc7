-- `lane_float_narrow::by_top` meets its contract. Assumes nothing.
use mathlib.Core.Path.{◌≡◌, ap, ◌∙◌}
use mathlib.Core.Bool.{Bool, true, false, cond}
use Prim.Native.Nat.{ℕ, ◌+◌, ◌-◌, ◌*◌, ◌/◌, ◌%◌, ◌^◌, ◌≤◌}
use native.Mathlib.Omega.{arith}
use lib.Dec.{ltb, eqb, lit≤}
use Rattle.lane_float_narrow.proofs.Leading.{told}
use Rattle.lane_float_narrow.proofs.by_top.Goals as goal

one_at_most : (t : Bool) {r : ℕ} → r ≡ cond t 1 0 → r ≤ 1
one_at_most true e = rw e (lit≤ tt)
one_at_most false e = rw e (lit≤ tt)

pub overflow_add-k-3 : goal.overflow_add-k-3
overflow_add-k-3 c =
    let v = c.args.n * 2 ^ (31 - c.args.k) % 2 ^ 32 in
    let h = one_at_most (ltb 128 (v % 256 + v / 256 % 2)) c.pick-up.ensures in
    record { fits = omega (arith, h, c.requires) }

pub returns : goal.returns
returns c =
    let n = c.args.n in
    let v = n * 2 ^ (31 - c.args.k) % 2 ^ 32 in
    c.pick.ensures
    ∙ ap (λ (u : ℕ). cond (eqb n 0) 0 ((126 + c.args.k) * 8388608 % 4294967296 + v / 256 + u)) c.pick-up.ensures
    ∙ told n c.ranges.n.fits c.requires
