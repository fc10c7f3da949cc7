-- `simd::V128::arithmetic64` meets its contract: each half is a lane. Assumes nothing.
use mathlib.Core.Path.{refl, sym, ap, ap₂, ◌∙◌}
use lib.ListN.{get_or}
use Rattle.standard.specs.Lanes.{joined, binary}
use Rattle.standard.proofs.Halves.{joined_64, all_elements}
use borrow.Author.Rules.{rules}
use Rattle.simd.proofs.V128.arithmetic64.Goals as goal

pub returns : goal.returns
returns g c = λ h e.
    let r = c.pairs64-r.result in
    joined_64 (get_or r 0 0) (get_or r 1 0) (sym (all_elements r 2 (search rules))) ∙ ap (joined 64) (all_elements r 2 (search rules))
    ∙ c.pairs64-r.ensures h e
    ∙ ap₂ (binary 64 _) (sym (joined_64 c.args.self.lo c.args.self.hi refl))
    (sym (joined_64 c.args.rhs.lo c.args.rhs.hi refl))
