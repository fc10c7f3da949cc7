-- `<u32 as Lanes>::lane` meets its contract. Assumes nothing.
use Rattle.standard.proofs.Access.{extract_is, extract_past}
use Rattle.simd.proofs.lanes.U32Lanes.lane.Goals as goal

pub returns-then-lane-lt4 : goal.returns-then-lane-lt4
returns-then-lane-lt4 c = extract_is 32 _ _ c.lanes32-a.ensures

pub returns-else-lane-lt4 : goal.returns-else-lane-lt4
returns-else-lane-lt4 c = extract_past 32 _ _ c.if-lane-lt4.false
