-- `used::in_use` meets its contract: the marks of the image's sections are those of the revision numbers.
use Rattle.image.proofs.Revisions.{in_use}
use Rattle.image.proofs.used.in_use.Goals as goal

pub returns : goal.returns
returns c = search in_use
