-- `closed::closed_end_of` meets its contract: nothing is marked at first.
use Rattle.words.proofs.ClosedScopes.{whole}
use Rattle.words.proofs.closed.closed_end_of.Goals as goal

pub returns : goal.returns
returns c = search whole
