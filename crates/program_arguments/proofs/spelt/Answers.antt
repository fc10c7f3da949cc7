-- `program_arguments::spelt` meets its contract: what the characters still to come make of the value read is the answer. Assumes nothing.
use Prim.Native.Nat.{◌+◌, ◌*◌, ◌^◌, ◌≤◌}
use mathlib.Core.Path.{◌≡◌, sym, ◌∙◌, ap}
use native.Mathlib.Omega.{arith}
use borrow.Author.Rules.{rules}
use lib.ListN.{get_or, drop}
use Rattle.std.specs.Prelude.{None}
use Rattle.program_arguments.specs.Arguments.{fitting, digit}
use Rattle.program_arguments.proofs.Numerals.{beyond, read_on}
use Rattle.program_arguments.proofs.spelt.Goals as goal

pub returns-in_err-checked_mul : goal.returns-in_err-checked_mul
returns-in_err-checked_mul c =
    let given = c.args in
    let loop = c.loop-c in
    let none : c.from_residual.result ≡ None = search rules in
    let much : 2 ^ 32 ≤ loop.value * given.base = search rules in
    let d : c.from-d.result ≡ digit (get_or given.text.now loop.c-index 0) = search rules in
    let on = read_on given.text.now given.base loop.value loop.c-index _ (omega arith) d loop.invariant.2 (omega arith) in
    rw none (sym (ap fitting on ∙ beyond given.base (loop.value * given.base + c.from-d.result) (drop (loop.c-index + 1) given.text.now) (omega arith) (omega arith)))

pub returns-in_err-value : goal.returns-in_err-value
returns-in_err-value c =
    let given = c.args in
    let loop = c.loop-c in
    let none : c.from_residual-in_err-value.result ≡ None = search rules in
    let much : 2 ^ 32 ≤ loop.value * given.base + c.from-d.result = search rules in
    let d : c.from-d.result ≡ digit (get_or given.text.now loop.c-index 0) = search rules in
    let on = read_on given.text.now given.base loop.value loop.c-index _ (omega arith) d loop.invariant.2 (omega arith) in
    rw none (sym (ap fitting on ∙ beyond given.base (loop.value * given.base + c.from-d.result) (drop (loop.c-index + 1) given.text.now) (omega arith) much))
