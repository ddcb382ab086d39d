-- `step::move_to` meets its contract: one law for each way through it.
use Rattle.engine.proofs.Delivering.{moved_over, moved}
use Rattle.engine.proofs.step.move_to.Goals as goal

pub returns-then-work-n : goal.returns-then-work-n
returns-then-work-n c = search moved_over

pub returns : goal.returns
returns c = search moved
