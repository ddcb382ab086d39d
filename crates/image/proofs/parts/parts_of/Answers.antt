-- `parts::parts_of` meets its contract: one law for its one way.
use Rattle.image.proofs.Sections.{cut}
use Rattle.image.proofs.parts.parts_of.Goals as goal

pub returns : goal.returns
returns c = search cut
