-- `finder::word_at` meets its contract: each turn puts a byte's bits below those that stand in the word. Assumes nothing.
use Prim.Native.Nat.{◌+◌, ◌<◌}
use mathlib.Core.Path.{◌≡◌, refl}
use native.Mathlib.Omega.{arith}
use borrow.Author.Rules.{rules}
use Rattle.finder_windows.specs.Definition.{binary, bits}
use Rattle.finder_windows.proofs.Bits.{push_fits, push_lt, word_more}
use Rattle.finder.proofs.word_at.Goals as goal

pub loop-i-init : goal.loop-i-init
unfolding binary bits
loop-i-init c = (search rules, search rules, refl)

pub overflow_mul-word : goal.overflow_mul-word
overflow_mul-word c = record { fits = omega (arith, push_fits c.loop-i.i c.loop-i.word 0 (omega arith) c.loop-i.invariant.1 (omega arith)) }

pub overflow_add-word : goal.overflow_add-word
overflow_add-word c =
    let byte : c.wide.result < 256 = omega (arith, c.wide.ensures, c.type_inv.buffer (c.args.at + c.loop-i.i)) in
    record { fits = push_fits c.loop-i.i c.loop-i.word _ (omega arith) c.loop-i.invariant.1 byte }

pub loop-i-preserved : goal.loop-i-preserved
loop-i-preserved c =
    let byte : c.wide.result < 256 = omega (arith, c.wide.ensures, c.type_inv.buffer (c.args.at + c.loop-i.i)) in
    let loop = c.loop-i in
    let given = c.args in (
      search rules,
      push_lt loop.i loop.word _ loop.invariant.1 byte,
      rw c.wide.ensures
          (word_more given.buffer.now given.at loop.i loop.word (omega arith) (rw c.wide.ensures at byte) loop.invariant.2),
    )

pub returns : goal.returns
returns c =
    let all : c.loop-i.i ≡ 8 = omega arith in
    rw all at c.loop-i.invariant.2
