-- `lane_float_parts::places` meets its contract. Assumes nothing.
use borrow.Author.Rules.{rules}
use Prim.Native.Nat.{ℕ}
use mathlib.Core.Path.{ap}
use mathlib.Core.List.{List, ◌++◌}
use lib.ListN.{replicate}
use Rattle.standard.proofs.Halves.{all_elements}
use Rattle.lane_float_parts.proofs.places.Goals as goal

pub returns : goal.returns
returns c = ap (λ (l : List ℕ). l ++ replicate 20 0) (all_elements c.args.a 4 (search rules))
