-- A section itself takes its number.
use Rattle.image.proofs.Revisions.{number_taken}
use Rattle.image.proofs.used.InUseTaken.mark_section.Goals as goal

pub returns : goal.returns
returns c = search number_taken
