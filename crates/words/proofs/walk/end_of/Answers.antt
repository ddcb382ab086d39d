-- `walk::end_of` meets its contract: one expression is a walk over one.
use mathlib.Core.Path.{ap, ◌∙◌}
use Rattle.words.specs.Walks.{walk_of}
use Rattle.words.proofs.Children.{one_expression}
use Rattle.words.proofs.walk.end_of.Goals as goal

pub returns : goal.returns
returns c = c.expressions_end.ensures ∙ ap walk_of (one_expression _ _)
