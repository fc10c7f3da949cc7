-- `lease::calls::put_calls` meets its contract. Assumes nothing.
use borrow.Author.Rules.{rules}
use Prim.Native.Nat.{suc, ◌-◌}
use native.Mathlib.Omega.{arith}
use mathlib.Core.Path.{◌≡◌, ap}
use Rattle.calculator_limits.specs.Outcome.{outcome_of}
use Rattle.calculator_state.specs.State.{machine}
use Rattle.lease.proofs.Moves.{few, moved, below}
use Rattle.program_digits.proofs.Puts.{then, said_as}
use Rattle.lease.proofs.Leasing.{ended_call, stopped_call, only_call, next_call}
use Rattle.lease.proofs.calls.put_calls.Goals as goal

pub loop-out-init : goal.loop-out-init
loop-out-init c = (search rules, search rules, search rules, (257, omega arith, λ left r p. rw c.zero-state.ensures at p))

pub overflow_add-done : goal.overflow_add-done
overflow_add-done c =
    let l = c.loop-out in
    let a = c.args in
    omega (arith, few a.list.now l.at a.limit l.state c.run-ending.result c.run-ending.ensures)

pub returns-in-Ended : goal.returns-in-Ended
returns-in-Ended c =
    let l = c.loop-out in
    let a = c.args in
    let fuel = l.invariant.3.0 in
    let one : fuel ≡ suc (fuel - 1) = omega (arith, l.invariant.3.1) in
    let rest = rw one at l.invariant.3.2 in
    rest _ _ (said_as (ended_call (fuel - 1) a.list.now l.at a.limit l.before (machine l.state)
    c.run-ending.ensures
    (rw c.in-Ended.is))
    (then c.put_call-next.ensures c.put_listing.ensures))

pub returns-in-Refused : goal.returns-in-Refused
returns-in-Refused c =
    let l = c.loop-out in
    let a =
    c.args in
    let fuel = l.invariant.3.0 in
    let one : fuel ≡ suc (fuel - 1) = omega (arith, l.invariant.3.1) in
    let rest = rw one at l.invariant.3.2 in
    rest _ _ (said_as (stopped_call (fuel - 1) a.list.now l.at a.limit l.before (machine l.state)
    c.run-ending.ensures _
    (rw c.in-Refused.is))
    (then c.put_call-next.ensures (rw c.from.ensures at c.put_listing-in-Refused.ensures)))

pub returns-then-limit-eq0 : goal.returns-then-limit-eq0
returns-then-limit-eq0 c =
    let l = c.loop-out in
    let a =
    c.args in
    let fuel = l.invariant.3.0 in
    let one : fuel ≡ suc (fuel - 1) = omega (arith, l.invariant.3.1) in
    let rest = rw one at l.invariant.3.2 in
    rest _ _ (said_as (only_call (fuel - 1) a.list.now l.at a.limit l.before (machine l.state)
    c.run-ending.ensures _
    (ap outcome_of c.in-Paused.is) (omega arith))
    (then c.put_call-next.ensures c.put_listing-then-limit-eq0.ensures))

pub loop-out-smaller : goal.loop-out-smaller
loop-out-smaller c =
    let l = c.loop-out in
    let a = c.args in
    let m = moved a.list.now l.at a.limit l.state
    c.run-ending.result
    c.run-ending.ensures _ c.in-Paused.is in
    omega (arith, m.there, m.more, c.if-limit-eq0.false)

pub loop-out-preserved : goal.loop-out-preserved
loop-out-preserved c =
    let l = c.loop-out in
    let a = c.args in
    let fuel = l.invariant.3.0 in
    let one : fuel ≡ suc (fuel - 1) = omega (arith, l.invariant.3.1) in
    let rest = rw one at l.invariant.3.2 in
    let m = moved a.list.now l.at a.limit l.state
    c.run-ending.result
    c.run-ending.ensures _ c.in-Paused.is in
    let b = below a.list.now l.at a.limit l.state
    c.run-ending.result
    c.run-ending.ensures _ c.in-Paused.is in (
      omega (arith, m.there, m.all_done),
      omega (arith, m.there, m.more),
      search rules,
      (
        fuel - 1,
        omega (arith, m.there, m.more, b, l.invariant.3.1, c.if-limit-eq0.false),
        λ left r p. rest left r (said_as (next_call (fuel - 1) a.list.now l.at a.limit l.before (machine l.state)
            c.run-ending.ensures _ (rw c.in-Paused.is)
            (λ z. omega (arith, c.if-limit-eq0.false)))
            (then c.put_call-next.ensures p)),
      ),
    )
