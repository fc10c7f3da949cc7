-- `program_digits::spell` meets its contract: each turn puts the last digit of what is left before the digits that stand there. Assumes nothing.
use borrow.Author.Rules.{rules}
use Prim.Native.Nat.{ℕ, suc, ◌-◌}
use native.Mathlib.Nat.{mod-lt}
use native.Mathlib.Omega.{arith}
use mathlib.Core.Path.{◌≡◌, ◌∙◌, ap, sym}
use mathlib.Core.List.{◌++◌, append-nil}
use lib.ListN.{drop, length-set}
use Rattle.program_digits.specs.Digits.{digits}
use Rattle.program_digits.proofs.Laws.{put_before}
use Rattle.program_digits.proofs.spell.Goals as goal

pub loop-i-init : goal.loop-i-init
loop-i-init c =
    let all : 20 - (20 - c.args.k) ≡ c.args.k = omega arith in
    (search rules, search rules, search rules, rw all (append-nil _))

pub overflow_cast-rest : goal.overflow_cast-rest
overflow_cast-rest c = omega (arith, mod-lt c.loop-i.rest c.requires.base_nonzero)

pub digit-requires : goal.digit-requires
digit-requires c = omega (arith, mod-lt c.loop-i.rest c.requires.base_nonzero)

pub loop-i-preserved : goal.loop-i-preserved
loop-i-preserved c =
    let given = c.args in
    let at = c.loop-i in
    let j : at.i ≡ suc (at.i - 1) = omega arith in
    let to-come = at.i - 1 - (20 - given.k) in
    let left : at.i - (20 - given.k) ≡ suc to-come = omega arith in
    let so_far = ap (λ (p : ℕ). digits given.base (suc to-come) at.rest ++ drop p at.out) (sym j) ∙ (rw left at at.invariant.3) in
    let put = put_before given.base to-come (at.i - 1) at.rest at.out _ (omega arith) c.digit.ensures so_far in
    (omega arith, omega arith, simp length-set (search rules), put)

pub returns : goal.returns
unfolding digits
returns c =
    let at = c.loop-i in
    let none : at.i - (20 - c.args.k) ≡ 0 = omega arith in
    let first : at.i ≡ 20 - c.args.k = omega arith in
    rw first at (rw none at at.invariant.3)
