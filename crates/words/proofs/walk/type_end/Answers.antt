-- `walk::type_end` meets its contract: one type is a walk over one.
use mathlib.Core.Path.{ap, ◌∙◌}
use Rattle.words.specs.Walks.{walk_of}
use Rattle.words.proofs.Pending.{one_type_lem}
use Rattle.words.proofs.walk.type_end.Goals as goal

pub returns : goal.returns
returns c = c.types_end.ensures ∙ ap walk_of (one_type_lem _ _)
