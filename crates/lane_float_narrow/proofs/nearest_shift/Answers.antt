-- `lane_float_narrow::nearest_shift` meets its contract. Assumes nothing.
use mathlib.Core.Path.{◌≡◌, sym, ap, ◌∙◌}
use Prim.Native.Nat.{ℕ, ◌+◌, ◌/◌, ◌^◌, ◌≤◌, ◌<◌}
use native.Mathlib.Nat.{le_trans, le_of_eq, le_of_suc-le-suc}
use native.Mathlib.Omega.{arith}
use mathlib.Core.Bool.{true, false}
use lib.Pow.{pow_mono}
use Rattle.lane_float_pattern.specs.Integral.{lift}
use Rattle.lane_float_pattern.proofs.Chosen.{lift_le, lifted, within}
use Rattle.lane_float_narrow.proofs.nearest_shift.Goals as goal

room : (n l : ℕ) → n < 9223372036854775808 → l ≤ 9223372036854775808 → n + l < 18446744073709551616
room n l h k = omega arith

lift_is : (c : goal.After-lift) → c.lift.result ≡ lift true false (c.args.n / 2 ^ c.args.k) (2 ^ c.args.k)
lift_is c = c.lift.ensures ∙ within true false c.args.n c.args.k c.requires.k_bound

pub overflow_add-result : goal.overflow_add-result
overflow_add-result c =
    record {
      fits = room c.args.n c.lift.result c.requires.n_bound
          (le_trans (le_of_eq (lift_is c)) (le_trans (lift_le true false (c.args.n / 2 ^ c.args.k) c.args.k)
          (pow_mono (le_of_suc-le-suc c.requires.k_bound))));
    }

pub returns : goal.returns
returns c = ap (λ (l : ℕ). (c.args.n + l) / 2 ^ c.args.k) (lift_is c)
    ∙ sym (lifted true false c.args.n c.args.k c.requires.k_nonzero)
