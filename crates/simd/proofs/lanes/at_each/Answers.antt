-- `simd::lanes::at_each` meets its contract. Assumes nothing.
use Rattle.std.proofs.Common.{rules, refl, sym, ap, ◌∙◌, length, map}
use lib.ListN.{length-set, length-map}
use Rattle.std.proofs.lemmas.List.{map-set}
use Rattle.standard.proofs.Loop.{fill_turn, filled}
use Rattle.simd.proofs.Places.{as_many}
use Rattle.simd.proofs.lanes.at_each.Goals as goal

pub loop-i-init : goal.loop-i-init
loop-i-init g c = (search rules, as_many g.M.Lane.number _ _ _ _ c.places-r.ensures g.met.M.Lanes.counted ∙ c.requires.alike, λ op k. refl)

pub get-requires : goal.get-requires
get-requires g c = let e = as_many g.L.Lane.number _ _ _ _ c.places-a.ensures g.met.L.Lanes.counted in search rules

pub set-requires : goal.set-requires
set-requires g c = let e = c.loop-i.invariant.1 in search rules

pub loop-i-preserved : goal.loop-i-preserved
loop-i-preserved g c =
    let la = as_many g.L.Lane.number _ _ _ _ c.places-a.ensures g.met.L.Lanes.counted in
    let lr = as_many g.M.Lane.number _ _ _ _ c.places-r.ensures g.met.M.Lanes.counted ∙ c.requires.alike in (
      search rules,
      ap length c.set.ensures ∙ length-set _ _ _ ∙ c.loop-i.invariant.1,
      λ op k.
          ap (map g.M.Lane.number) c.set.ensures ∙ map-set g.M.Lane.number _ _ _
          ∙ fill_turn g.L.Lanes.COUNT op _ _ (length-map _ _ ∙ lr) (length-map _ _ ∙ la) (search rules) (c.loop-i.invariant.2 op k)
          (k _ _ c.f-x.ensures ∙ ap op c.get.ensures),
    )

pub returns : goal.returns
returns g c = λ op k.
    let la = as_many g.L.Lane.number _ _ _ _ c.places-a.ensures g.met.L.Lanes.counted in
    let lr = as_many g.M.Lane.number _ _ _ _ c.places-r.ensures g.met.M.Lanes.counted ∙ c.requires.alike in
    filled g.L.Lanes.COUNT op _ _ (length-map _ _ ∙ lr) (length-map _ _ ∙ la) c.loop-i.i (search rules) (c.loop-i.invariant.2 op k) ∙ ap (map op) c.places-a.ensures
