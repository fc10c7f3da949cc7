-- How long the listing of a run is at most. Assumes nothing.
use Rattle.std.proofs.Common.{ℕ, ◌≤◌, List, length, arith}
use Rattle.calculator_rules.specs.Definition.{start, run}
use Rattle.program_listing.specs.Listing.{refused_by, lanes_text}
use Rattle.program_listing.proofs.Kept.{run_kept}
use Rattle.program_listing.proofs.Lines.{listing_length}

pub lanes_within : (list : List ℕ) → length (lanes_text list) ≤ 1024
unfolding lanes_text
lanes_within list =
    let e = run list 0 256 start in
    omega (arith, listing_length e.machine e.done (refused_by e.outcome) (run_kept list 0 256 start))
