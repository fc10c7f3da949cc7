-- `lane_float_widen::quotient` meets its contract. Assumes nothing.
use mathlib.Core.Path.{◌≡◌, sym, ap, ◌∙◌}
use mathlib.Core.Bool.{false}
use Prim.Native.Nat.{ℕ, ◌+◌, ◌-◌, ◌^◌, ◌<◌}
use native.Mathlib.Nat.{le_of_suc-le-suc}
use native.Mathlib.Omega.{arith}
use lib.Count.{count_leading_zeros}
use lib.Pow.{pow_pos}
use lib.Ieee.{binary64, round, to_bits}
use Rattle.lane_float_pattern.proofs.Numbers.{z_lt, zero_pattern}
use Rattle.lane_float_widen.proofs.Turned.{turned, fits, back}
use Rattle.lane_float_widen.proofs.quotient.Goals as goal

some : (n : ℕ) → (n ≡ 0 → ⊥) → 0 < n
some n h = omega arith

pub returns-then-n-eq0 : goal.returns-then-n-eq0
returns-then-n-eq0 c = zero_pattern binary64 (2 ^ c.args.l) (pow_pos c.args.l)
    ∙ ap (λ (n : ℕ). to_bits binary64 (round binary64 false n (2 ^ c.args.l))) (sym c.if-n-eq0.true)

pub overflow_sub-k : goal.overflow_sub-k
overflow_sub-k c = le_of_suc-le-suc (z_lt c.args.n (some c.args.n c.if-n-eq0.false) c.ranges.n.fits)

pub overflow_add-w-2 : goal.overflow_add-w-2
overflow_add-w-2 c = record {
  fits = fits c.args.n (some c.args.n c.if-n-eq0.false) c.ranges.n.fits c.args.l
      (turned c.args.n (some c.args.n c.if-n-eq0.false) c.ranges.n.fits);
}

pub returns : goal.returns
returns c =
    back c.args.n (some c.args.n c.if-n-eq0.false) c.ranges.n.fits c.args.l c.requires
    (ap (λ (w : ℕ). w + (1022 - c.args.l + (31 - count_leading_zeros 32 c.args.n)))
    (turned c.args.n (some c.args.n c.if-n-eq0.false) c.ranges.n.fits))
