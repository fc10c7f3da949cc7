-- `calculator_judging::legal` meets its contract: every index is tested until one fails. Assumes nothing.
use mathlib.Core.Path.{◌≡◌, refl, sym, ap, ◌∙◌}
use mathlib.Core.Bool.{Bool, true, false, cond, ◌&&◌}
use mathlib.Core.List.{List, [], ◌∷◌}
use Prim.Native.Nat.{ℕ}
use lib.Dec.{leb}
use borrow.Author.Tests.{tests}
use Rattle.std.proofs.Common.{rules}
use Rattle.std.specs.List.{list_all}
use Rattle.std.proofs.lemmas.Iterator.{YieldsList-from_slice}
use Rattle.std.proofs.lemmas.Iterator.Search.{all_from_yields_List}
use Rattle.standard.specs.Refusal.{legal}
use Rattle.calculator_judging.proofs.legal.Goals as goal

all_legal : (is : List ℕ) → list_all (λ i. leb i 31) is ≡ legal is
all_legal [] = refl
all_legal (i ∷ is) = rw (all_legal is) (of (leb i 31)) where
  of : (t : Bool) → (t && legal is) ≡ cond t (legal is) false
  of true = refl
  of false = refl

pub returns : goal.returns
returns c =
    all_from_yields_List (λ i. leb i 31) _ _ _ c.all.ensures.ran (YieldsList-from_slice c.args.indices.now cc) (λ x b q k. search (rules, tests))
    ∙ all_legal c.args.indices.now
