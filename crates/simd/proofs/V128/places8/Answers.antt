-- `simd::V128::places8` meets its contract: a loop that copies the lanes. Assumes nothing.
use borrow.Author.Rules.{rules}
use Prim.Native.Nat.{ℕ}
use mathlib.Core.Path.{refl, sym, ap, ◌∙◌}
use mathlib.Core.List.{List, ◌++◌}
use native.Mathlib.Nat.{le_of_eq}
use lib.ListN.{length, take, replicate}
use Rattle.standard.proofs.Loop.{copy_turn, copy_done}
use Rattle.simd.proofs.V128.places8.Goals as goal

pub loop-i-init : goal.loop-i-init
loop-i-init c = (search rules, refl)

pub loop-i-preserved : goal.loop-i-preserved
loop-i-preserved c = (
  search rules,
  copy_turn 16 (replicate 64 0) _ (search rules) (le_of_eq (sym (ap length c.lanes8-s.ensures))) (search rules)
      c.loop-i.invariant.1,
)

pub returns : goal.returns
returns c =
    copy_done 16 (replicate 64 0) _ (search rules) (le_of_eq (sym (ap length c.lanes8-s.ensures))) c.loop-i.i (search rules)
    c.loop-i.invariant.1
    ∙ ap (λ (s : List ℕ). take 16 s ++ replicate 48 0) c.lanes8-s.ensures
