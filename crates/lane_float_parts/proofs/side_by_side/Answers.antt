-- `lane_float_parts::side_by_side` meets its contract: a loop over the lanes and the idle places. Assumes nothing.
use Rattle.std.proofs.Common.{map, take, replicate, refl, ap, ◌∙◌, rules}
use Rattle.standard.proofs.Loop.{fill_turn, filled}
use Rattle.lane_float_parts.proofs.Front.{front, places_are}
use Rattle.lane_float_parts.proofs.side_by_side.Goals as goal

pub loop-i-init : goal.loop-i-init
loop-i-init g c = (search rules, λ h e. refl)

pub loop-i-preserved : goal.loop-i-preserved
loop-i-preserved g c = (
  search rules,
  λ h e. fill_turn 24 h (replicate 24 0) _ refl (places_are c.args.a (search rules) c.places-x.ensures) (search rules)
      (c.loop-i.invariant.1 h e) (e _ _ c.f.ensures),
)

pub returns : goal.returns
returns g c = λ h e.
    let a = c.args.a in
    let x = c.places-x.ensures in
    c.lanes.ensures
    ∙ ap (take 4) (filled 24 h (replicate 24 0) _ refl (places_are a (search rules) x) c.loop-i.i (search rules) (c.loop-i.invariant.1 h e)
    ∙ ap (map h) x)
    ∙ front h a (replicate 20 0) (search rules)
