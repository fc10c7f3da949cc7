-- `lease::calls::lease` meets its contract. Assumes nothing.
use borrow.Author.Rules.{rules}
use Rattle.program_digits.proofs.Puts.{filled}
use Rattle.lease.specs.Lease.{lease_text}
use Rattle.lease.proofs.Leasing.{lease_within}
use Rattle.lease.proofs.calls.lease.Goals as goal

pub returns : goal.returns
unfolding lease_text
returns c =
    let a = c.args in
    filled (lease_within a.list.now a.place a.limit) (search rules) c.put_calls.ensures
