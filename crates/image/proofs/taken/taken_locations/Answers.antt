-- `taken::taken_locations` meets its contract: the marks of the image's sections are those of the locations.
use Rattle.image.proofs.Locations.{taken}
use Rattle.image.proofs.taken.taken_locations.Goals as goal

pub returns : goal.returns
returns c = search taken
