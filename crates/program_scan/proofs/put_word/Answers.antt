-- `program_scan::put_word` meets its contract. Assumes nothing.
use Prim.Native.Nat.{ℕ, ◌+◌}
use mathlib.Core.Path.{◌≡◌, ap, ap₂, sym, ◌∙◌}
use mathlib.Core.List.{List}
use native.Mathlib.Nat.{sub-zero}
use native.Mathlib.Numerals.{add-one}
use native.Mathlib.Omega.{arith}
use lib.ListN.{set}
use lib.Seq.{paste, paste-zero, paste-suc}
use Rattle.program_scan.specs.Pen.{little}
use Rattle.program_scan.proofs.Ink.{length_little, little_next}
use borrow.Author.Rules.{rules}
use Rattle.program_scan.proofs.put_word.Goals as goal

pub loop-i-init : goal.loop-i-init
loop-i-init c = (
  search rules,
  search rules,
  paste-zero c.args.block.now c.args.at (little c.args.count c.args.word),
  ap
      (λ (k : ℕ). little k c.args.word) (sym (sub-zero c.args.count)),
)

pub loop-i-preserved : goal.loop-i-preserved
loop-i-preserved c =
    let given = c.args in
    let loop = c.loop-i in
    let bytes = little given.count given.word in
    let i = loop.i in
    let next = little_next given.count i given.word loop.rest (omega arith) loop.invariant.3 in (
      search rules,
      search rules,
      ap₂ (λ (z : List ℕ) (v : ℕ). set z (given.at + i) v) loop.invariant.2 (sym next.0)
          ∙ paste-suc given.block.now given.at bytes i 0 (omega arith) (omega (arith, length_little given.count given.word))
          ∙ ap (paste given.block.now given.at bytes) (sym (add-one i)),
      next.1,
    )

pub returns : goal.returns
returns c =
    let all : c.loop-i.i ≡ c.args.count = omega arith in
    rw all at c.loop-i.invariant.2
