-- An expression takes no location.
use Rattle.image.proofs.Locations.{expression_none}
use Rattle.image.proofs.taken.ArrayBool256Taken.mark_expression.Goals as goal

pub returns : goal.returns
returns c = search expression_none
