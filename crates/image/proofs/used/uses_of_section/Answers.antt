-- `used::uses_of_section` meets its contract: one law for its one way.
use Rattle.image.proofs.Revisions.{section_uses}
use Rattle.image.proofs.used.uses_of_section.Goals as goal

pub returns : goal.returns
returns c = search section_uses
