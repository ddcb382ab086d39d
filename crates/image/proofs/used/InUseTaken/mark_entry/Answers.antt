-- An entry takes the revision numbers that its value names.
use Rattle.image.proofs.Revisions.{value_names}
use Rattle.image.proofs.used.InUseTaken.mark_entry.Goals as goal

pub returns : goal.returns
returns c = search value_names
