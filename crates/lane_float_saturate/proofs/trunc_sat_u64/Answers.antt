-- `lane_float_saturate::trunc_sat_u64` meets its contract. Assumes nothing.
use Rattle.std.proofs.Common.{◌%◌, Bool, cond, sym, ap, ◌∙◌, le-leb}
use borrow.Author.Tests.{lt-leb}
use lib.Ieee.{binary64, top}
use Rattle.standard.specs.Convert.{trunc_sat_u}
use Rattle.lane_float_pattern.proofs.Saturation.{unsigned_lane}
use Rattle.lane_float_saturate.proofs.trunc_sat_u64.Goals as goal

pub returns-then-bits-ge9223372036854775808 : goal.returns-then-bits-ge9223372036854775808
returns-then-bits-ge9223372036854775808 c =
    let b = c.args.bits in
    ap (λ (t : Bool). cond t 0 (trunc_sat_u binary64 (b % top binary64))) (sym (le-leb _ _ c.if-bits-ge9223372036854775808.true)) ∙ unsigned_lane binary64 b

pub returns-else-bits-ge9223372036854775808 : goal.returns-else-bits-ge9223372036854775808
returns-else-bits-ge9223372036854775808 c =
    let b = c.args.bits in
    c.part64.ensures ∙ ap (λ (t : Bool). cond t 0 (trunc_sat_u binary64 (b % top binary64))) (sym (lt-leb _ _ c.if-bits-ge9223372036854775808.false))
    ∙ unsigned_lane binary64 b
