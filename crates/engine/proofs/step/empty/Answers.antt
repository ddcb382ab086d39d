-- `step::empty` meets its contract: zeros are the image of the empty state, and what is after it.
use Rattle.engine.proofs.Delivering.{empty_no_room, empty_told}
use Rattle.engine.proofs.step.empty.Goals as goal

pub returns-then-out-lt1 : goal.returns-then-out-lt1
returns-then-out-lt1 c = search empty_no_room

pub returns : goal.returns
returns c = search empty_told
