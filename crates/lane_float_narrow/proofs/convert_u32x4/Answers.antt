-- `lane_float_narrow::convert_u32x4` meets its contract: a loop over the lanes and the idle places. Assumes nothing.
use mathlib.Core.Path.{refl, ap, ◌∙◌}
use mathlib.Core.List.{map}
use lib.Ieee.{binary32}
use lib.ListN.{take, replicate}
use Rattle.standard.specs.Convert.{convert_u}
use Rattle.standard.proofs.Loop.{fill_turn, filled}
use Rattle.lane_float_parts.proofs.Front.{front, mapped, places_are}
use Rattle.lane_float_narrow.specs.Top.{top_digit}
use Rattle.lane_float_narrow.proofs.Leading.{top_of_zero}
use borrow.Author.Rules.{rules}
use Rattle.lane_float_narrow.proofs.convert_u32x4.Goals as goal

pub loop-i-init : goal.loop-i-init
loop-i-init c = (search rules, refl)

pub by_top-requires : goal.by_top-requires
by_top-requires c = mapped top_digit c.args.a top_of_zero
    c.places-n.ensures c.tops.ensures c.places-k.ensures c.loop-i.i

pub loop-i-preserved : goal.loop-i-preserved
loop-i-preserved c = (
  search rules,
  fill_turn 24 _ (replicate 24 0) _ refl
      (places_are c.args.a (search rules) c.places-n.ensures)
      (search rules) c.loop-i.invariant.1 c.by_top.ensures,
)

pub returns : goal.returns
returns c =
    let a = c.args.a in
    let n = c.places-n.ensures in
    c.lanes.ensures
    ∙ ap (take 4) (filled 24 _ (replicate 24 0) _ refl (places_are a (search rules) n) c.loop-i.i (search rules)
    c.loop-i.invariant.1 ∙ ap (map _) n)
    ∙ front (convert_u binary32) a (replicate 20 0) (search rules)
