-- `<u16 as Lanes>::lane` meets its contract. Assumes nothing.
use Rattle.standard.proofs.Access.{extract_is, extract_past}
use Rattle.simd.proofs.lanes.U16Lanes.lane.Goals as goal

pub returns-then-lane-lt8 : goal.returns-then-lane-lt8
returns-then-lane-lt8 c = extract_is 16 _ _ c.lanes16-a.ensures

pub returns-else-lane-lt8 : goal.returns-else-lane-lt8
returns-else-lane-lt8 c = extract_past 16 _ _ c.if-lane-lt8.false
