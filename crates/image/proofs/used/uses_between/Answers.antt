-- `used::uses_between` meets its contract: one law for each way through it.
use Rattle.image.proofs.Revisions.{names_between, names_off}
use Rattle.image.proofs.used.uses_between.Goals as goal

pub returns-in-Some : goal.returns-in-Some
returns-in-Some c = search (names_between, c.in-Some.ensures)

pub returns-in-None : goal.returns-in-None
returns-in-None c = search (names_off, c.in-None.ensures)
