-- `lane_float_narrow::convert_s32x4` meets its contract: a loop over the lanes and the idle places. Assumes nothing.
use mathlib.Core.Path.{refl, ap, ◌∙◌}
use mathlib.Core.List.{map}
use lib.Ieee.{binary32}
use lib.IntN.{nat_abs}
use lib.ListN.{take, replicate}
use Rattle.standard.specs.Convert.{convert_s}
use Rattle.standard.specs.Integer.{signed}
use Rattle.standard.proofs.Loop.{fill_turn, filled}
use Rattle.lane_float_parts.proofs.Front.{front, mapped, places_are}
use Rattle.lane_float_narrow.specs.Top.{top_digit}
use Rattle.lane_float_narrow.proofs.Leading.{top_of_zero}
use borrow.Author.Rules.{rules}
use Rattle.lane_float_narrow.proofs.convert_s32x4.Goals as goal

pub loop-i-init : goal.loop-i-init
loop-i-init c = (search rules, refl)

pub by_top_s-requires : goal.by_top_s-requires
by_top_s-requires c = record {
  n_value = mapped (λ x. nat_abs (signed 32 x)) c.args.a refl
      c.places-x.ensures c.sizes-s.ensures
      c.places-n.ensures c.loop-i.i;
  k_value = mapped top_digit c.sizes-s.result top_of_zero c.places-n.ensures
      c.tops.ensures c.places-k.ensures c.loop-i.i;
}

pub loop-i-preserved : goal.loop-i-preserved
loop-i-preserved c = (
  search rules,
  fill_turn 24 _ (replicate 24 0) _ refl
      (places_are c.args.a (search rules)
      c.places-x.ensures) (search rules) c.loop-i.invariant.1 c.by_top_s.ensures,
)

pub returns : goal.returns
returns c =
    let a = c.args.a in
    let x = c.places-x.ensures in
    c.lanes.ensures
    ∙ ap (take 4) (filled 24 _ (replicate 24 0) _ refl (places_are a (search rules) x) c.loop-i.i (search rules)
    c.loop-i.invariant.1 ∙ ap (map _) x)
    ∙ front (convert_s binary32) a (replicate 20 0) (search rules)
