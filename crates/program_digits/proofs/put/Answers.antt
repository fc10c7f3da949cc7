-- `program_digits::put` meets its contract. Assumes nothing.
use borrow.Author.Rules.{rules}
use native.Mathlib.Omega.{arith}
use mathlib.Core.Path.{◌≡◌}
use Prim.Native.Nat.{◌+◌, ◌-◌}
use lib.ListN.{take}
use Rattle.program_digits.proofs.Puts.{no_room, copied}
use Rattle.program_digits.proofs.put.Goals as goal

pub returns-then-at-out : goal.returns-then-at-out
returns-then-at-out c = no_room _ _ _ (omega arith)

pub returns : goal.returns
returns c =
    let given = c.args in
    let part : c.copy_from_slice.new.self ≡ take c.min-n.result given.text.now = search rules in
    let n : given.at + c.min-n.result - given.at ≡ c.min-n.result = omega arith in
    rw n (copied given.out.now given.at given.text.now c.copy_from_slice.new.self c.min-n.result (omega arith) (search rules) part)
