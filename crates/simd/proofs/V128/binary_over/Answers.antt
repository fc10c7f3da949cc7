-- `V128::binary_over` meets its contract. Assumes nothing.
use Rattle.std.proofs.Common.{rules, refl, sym, ap, ap₂, ◌∙◌, length, map}
use lib.ListN.{length-set}
use Rattle.standard.proofs.Loop.{done}
use Rattle.simd.proofs.Places.{as_many, one_more}
use Rattle.simd.proofs.V128.binary_over.Goals as goal

pub loop-i-init : goal.loop-i-init
loop-i-init g c = (search rules, as_many g.L.Lane.number _ _ _ _ c.places-a.ensures g.met.L.Lanes.counted, λ op k. refl)

pub get-requires : goal.get-requires
get-requires g c = let e = c.loop-i.invariant.1 in let w = c.requires.within in search rules

pub get-requires-in-loop-i : goal.get-requires-in-loop-i
get-requires-in-loop-i g c = let e = as_many g.L.Lane.number _ _ _ _ c.places-b.ensures g.met.L.Lanes.counted in let w = c.requires.within in search rules

pub set-requires : goal.set-requires
set-requires g c = let e = c.loop-i.invariant.1 in let w = c.requires.within in search rules

pub loop-i-preserved : goal.loop-i-preserved
loop-i-preserved g c = (
  search rules,
  ap length c.set.ensures ∙ length-set _ _ _ ∙ c.loop-i.invariant.1,
  λ op k. ap (map g.L.Lane.number) c.set.ensures ∙ one_more g.L.Lane.number _ _ op _ _ _ _ _ c.places-a.ensures c.places-b.ensures (let e = g.met.L.Lanes.counted in let w = c.requires.within in search rules) (c.loop-i.invariant.2 op k)
      (k _ _ _ c.f-x.ensures ∙ ap₂ op c.get.ensures c.get-in-loop-i.ensures),
)

pub returns : goal.returns
returns g c = λ op k. c.of_places.ensures ∙ done _ _ op _ _ c.places-a.ensures c.places-b.ensures c.loop-i.i (let e = c.requires.enough in search rules) (c.loop-i.invariant.2 op k)
