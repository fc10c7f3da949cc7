-- `program_digits::places` meets its contract: what was counted, with what is still to be counted, is the whole. Assumes nothing.
use borrow.Author.Rules.{rules}
use Prim.Native.Nat.{suc, ◌+◌, ◌-◌, ◌*◌, ◌^◌, ◌≤◌, ◌<◌}
use native.Mathlib.Nat.{pow-succ'}
use native.Mathlib.Omega.{arith}
use mathlib.Core.Path.{◌≡◌}
use Rattle.program_digits.proofs.Laws.{places_more, places_one, not_last}
use Rattle.program_digits.proofs.places.Goals as goal

pub loop-rest-init : goal.loop-rest-init
loop-rest-init c = (search rules, search rules, search rules, search rules)

pub loop-rest-preserved : goal.loop-rest-preserved
loop-rest-preserved c =
    let at = c.loop-rest in
    let power : 21 - at.k ≡ suc (21 - (at.k + 1)) = omega arith in
    let small : at.rest < 10 * 10 ^ (21 - (at.k + 1)) = rw (power, pow-succ') at at.invariant.2 in
    let few : at.k ≤ 19 = not_last at.k at.rest at.invariant.1 at.invariant.2 (omega arith) in
    let left : 20 - at.k ≡ suc (20 - (at.k + 1)) = omega arith in
    (search rules, omega arith, omega arith, omega (arith, rw (left, places_more (20 - (at.k + 1)) at.rest (omega arith)) at at.invariant.3))

pub returns : goal.returns
returns c =
    let at = c.loop-rest in
    record { value = omega (arith, at.invariant.3, places_one (20 - at.k) at.rest (omega arith)); upper_bound = at.invariant.1 }
