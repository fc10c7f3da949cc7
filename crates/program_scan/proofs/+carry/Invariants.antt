-- `program_scan::carry` calls itself at a smaller end. Assumes nothing.
use Rattle.program_scan.proofs.+carry.Given as goal

abbrev pub decreases-carry : goal.decreases-carry
decreases-carry l = l.end
