-- `program_record::put_difference` meets its contract. Assumes nothing.
use mathlib.Core.Path.{sym, ◌∙◌}
use Prim.Native.Nat.{◌-◌}
use lib.ListN.{length, take, drop}
use Rattle.std.proofs.lemmas.Slice.Eq.{slice_eq-Decides}
use Rattle.std.proofs.lemmas.Bool.Decides.{Decides-eqb}
use mathlib.Core.Bool.{true≢false}
use native.Mathlib.Omega.{arith}
use Rattle.program_digits.specs.Codes.{codes}
use Rattle.program_digits.proofs.Puts.{then, no_more, said_as}
use Rattle.program_record.proofs.Difference.{no_difference, some_difference}
use Rattle.program_record.proofs.put_difference.Goals as goal

pub returns-then-eq : goal.returns-then-eq
returns-then-eq c =
    let a = c.args in
    let of-r = take (length a.r.now - 32) (drop 32 a.r.now) in
    let of-d = take (length a.d.now - 32) (drop 32 a.d.now) in
    let same = slice_eq-Decides Decides-eqb of-r of-d _ c.eq.ensures in
    said_as (no_difference a.r.now a.d.now (omega arith) (omega arith) (same.0 c.if-eq.true)) (no_more _ _)

pub returns : goal.returns
unfolding codes
returns c =
    let a = c.args in
    let of-r = take (length a.r.now - 32) (drop 32 a.r.now) in
    let of-d = take (length a.d.now - 32) (drop 32 a.d.now) in
    let same = slice_eq-Decides Decides-eqb of-r of-d _ c.eq.ensures in
    said_as (some_difference a.r.now a.d.now (omega arith) (omega arith) (λ e. true≢false (sym (same.1 e) ∙ c.if-eq.false)))
    (then c.put-next.ensures c.put_left.ensures)
