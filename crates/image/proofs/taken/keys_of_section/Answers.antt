-- `taken::keys_of_section` meets its contract: one law for its one way.
use Rattle.image.proofs.Locations.{section_keys}
use Rattle.image.proofs.taken.keys_of_section.Goals as goal

pub returns : goal.returns
returns c = search section_keys
