-- `<u8 as Lanes>::lane` meets its contract. Assumes nothing.
use Rattle.standard.proofs.Access.{extract_is, extract_past}
use Rattle.simd.proofs.lanes.U8Lanes.lane.Goals as goal

pub returns-then-lane-lt16 : goal.returns-then-lane-lt16
returns-then-lane-lt16 c = extract_is 8 _ _ c.lanes8-a.ensures

pub returns-else-lane-lt16 : goal.returns-else-lane-lt16
returns-else-lane-lt16 c = extract_past 8 _ _ c.if-lane-lt16.false
