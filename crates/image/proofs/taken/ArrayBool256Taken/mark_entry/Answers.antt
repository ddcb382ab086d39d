-- An entry takes its location.
use Rattle.image.proofs.Locations.{location_taken}
use Rattle.image.proofs.taken.ArrayBool256Taken.mark_entry.Goals as goal

pub returns : goal.returns
returns c = search location_taken
