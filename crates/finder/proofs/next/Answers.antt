-- `finder::next` meets its contract: the rest of a byte, then the bytes after it. Assumes nothing.
use Prim.Native.Nat.{ℕ, ◌+◌, ◌*◌, ◌-◌, ◌/◌, ◌%◌, ◌≤◌}
use mathlib.Core.Path.{◌≡◌, refl, sym, ◌∙◌}
use native.Mathlib.Omega.{arith}
use lib.ListN.{length}
use Rattle.finder_windows.proofs.Positions.{met_early, none_early}
use Rattle.finder.proofs.next.Goals as goal

-- a position is in its byte, and how many are left behind it
in_its_byte : (from : ℕ) → 8 * (from / 8) + from % 8 ≡ from
in_its_byte from = omega arith

left_of : (n from : ℕ) → n - 8 * (from / 8) - from % 8 ≡ n - from
left_of n from = omega arith

left_after : (n from : ℕ) → n - from - (8 - from % 8) ≡ n - 8 * (from / 8) - 8
left_after n from = omega arith

enough : (n f from : ℕ) → f + 31 + 8 * (from / 8) + 8 ≤ n → 8 - from % 8 ≤ n - (f + 31) - from
enough n f from h = omega arith

pub returns-then-left-lt8 : goal.returns-then-left-lt8
returns-then-left-lt8 c = λ a b d made.
    let given = c.args in
    rw (c.in_ok-positions.ensures.1, in_its_byte given.from, left_of (8 * length given.buffer.now - (given.length + 31)) given.from) at c.among.ensures

pub returns-then-is_some : goal.returns-then-is_some
returns-then-is_some c = λ a b d made.
    let given = c.args in
    met_early _ _ _ _ (8 - given.from % 8) (8 * length given.buffer.now - (given.length + 31) - given.from) given.from
    (omega (arith, c.in_ok-positions.ensures.1)) c.among-found.result (sym c.is_some.ensures ∙ c.if-is_some.true)
    (rw (in_its_byte given.from) at c.among-found.ensures)

pub returns : goal.returns
returns c = λ a b d made.
    let given = c.args in
    let positions = c.in_ok-positions.ensures.1 in
    let room : given.length + 31 + 8 * (given.from / 8) + 8 ≤ 8 * length given.buffer.now = omega (arith, positions) in
    let place : given.from + (8 - given.from % 8) ≡ 8 * (given.from / 8 + 1) = omega arith in
    let all = 8 * length given.buffer.now - (given.length + 31) - given.from in
    let left = left_after (8 * length given.buffer.now - (given.length + 31)) given.from in
    rw positions at (c.by_columns.ensures made)
    ∙ sym (none_early _ _ _ _ (8 - given.from % 8) all given.from
    (enough (8 * length given.buffer.now) given.length given.from room) c.among-found.result (sym c.is_some.ensures ∙ c.if-is_some.false)
    (rw (in_its_byte given.from) at c.among-found.ensures) left place refl)
