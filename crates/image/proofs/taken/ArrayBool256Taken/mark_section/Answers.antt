-- The number of a section is no location.
use Rattle.image.proofs.Locations.{section_none}
use Rattle.image.proofs.taken.ArrayBool256Taken.mark_section.Goals as goal

pub returns : goal.returns
returns c = search section_none
