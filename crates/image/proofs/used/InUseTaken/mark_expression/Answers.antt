-- An expression takes the revision numbers that it names.
use Rattle.image.proofs.Revisions.{expression_names}
use Rattle.image.proofs.used.InUseTaken.mark_expression.Goals as goal

pub returns : goal.returns
returns c = search expression_names
