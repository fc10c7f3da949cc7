-- `link_station::mended::numbers` meets its contract. Assumes nothing.
use Rattle.std.proofs.Common.{◌≡◌, sym, ◌∙◌, arith, rules, ℕ, ◌<◌, length, get_or, map, None}
use Rattle.std.proofs.lemmas.Grind.{same_number_lists}
use Rattle.std.proofs.lemmas.List.{length-map, get_or-map}
use Rattle.recording_mending_place.specs.Mended.{number_of}
use Rattle.link_station.proofs.mended.numbers.Goals as goal

pub returns : goal.returns
returns c =
    let bits = c.args.bits in
    let long : length bits ≡ 37 = search rules in
    same_number_lists c.map.result (map number_of bits) (omega (arith, length-map bits number_of, c.map.ensures.items.long))
    (λ k h.
    let below : k < 37 = omega (arith, c.map.ensures.items.long) in
    let called = c.map.ensures.items.at k None 0 below in
    let here : get_or c.map.result k 0 ≡ number_of (get_or bits k None) = (let told = called.2 in search rules) in
    here ∙ sym (get_or-map number_of bits k None 0 (omega arith)))
