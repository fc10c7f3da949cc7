-- `finder_windows::is_short` meets its contract. Assumes nothing.
use Rattle.finder_windows.proofs.Refusals.{short_of}
use Rattle.finder_windows.proofs.is_short.Goals as goal

pub returns : goal.returns
returns c = short_of c.args.buffer.now c.args.length
