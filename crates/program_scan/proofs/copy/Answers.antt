-- `program_scan::copy` meets its contract. Assumes nothing.
use Prim.Native.Nat.{ℕ, ◌+◌}
use mathlib.Core.Path.{◌≡◌, ap, ap₂, sym, ◌∙◌}
use mathlib.Core.List.{List}
use native.Mathlib.Numerals.{add-one}
use native.Mathlib.Omega.{arith}
use lib.ListN.{set, drop, length-drop}
use lib.Seq.{paste, paste-zero, paste-suc, get_or-drop}
use borrow.Author.Rules.{rules}
use Rattle.program_scan.proofs.copy.Goals as goal

pub loop-i-init : goal.loop-i-init
loop-i-init c = (search rules, search rules, paste-zero c.args.block.now c.args.at (drop c.args.from c.args.text.now))

pub loop-i-preserved : goal.loop-i-preserved
loop-i-preserved c =
    let given = c.args in
    let loop = c.loop-i in
    let text = drop given.from given.text.now in
    let i = loop.i in (
      search rules,
      search rules,
      ap₂ (λ (z : List ℕ) (v : ℕ). set z (given.at + i) v) loop.invariant.2 (sym (get_or-drop given.from given.text.now i 0))
          ∙ paste-suc given.block.now given.at text i 0 (omega arith) (omega (arith, length-drop given.from given.text.now))
          ∙ ap (paste given.block.now given.at text) (sym (add-one i)),
    )

pub returns : goal.returns
returns c =
    let all : c.loop-i.i ≡ c.args.count = omega arith in
    rw all at c.loop-i.invariant.2
