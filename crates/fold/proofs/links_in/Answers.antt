-- `fold::links_in` meets its contract, by whether so many bytes decide. Assumes nothing.
use borrow.Author.Rules.{rules}
use borrow.Author.Tests.{lt-ltb, le-ltb}
use Rattle.fold.proofs.links_in.Goals as goal

pub returns-then-n-lt-DECIDES : goal.returns-then-n-lt-DECIDES
returns-then-n-lt-DECIDES c = record { value = simp (lt-ltb _ _ c.if-n-lt-DECIDES.true); upper_bound = search rules }

pub returns-else-n-lt-DECIDES : goal.returns-else-n-lt-DECIDES
returns-else-n-lt-DECIDES c = record { value = simp (le-ltb _ _ c.if-n-lt-DECIDES.false); upper_bound = search rules }
