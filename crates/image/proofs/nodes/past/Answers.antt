-- `nodes::past` meets its contract: where the walk ends, or else the words do.
use Rattle.image.proofs.Standing.{past_is}
use Rattle.image.proofs.nodes.past.Goals as goal

pub returns : goal.returns
returns c = search past_is
