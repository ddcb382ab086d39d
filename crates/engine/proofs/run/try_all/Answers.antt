-- `run::try_all` meets its contract: the picks up to i are tried, the others are the measure.
use Rattle.engine.proofs.Running.{try_start, try_turn}
use Rattle.engine.proofs.run.try_all.Goals as goal

pub loop-i-init : goal.loop-i-init
loop-i-init c = search try_start

pub loop-i-preserved : goal.loop-i-preserved
loop-i-preserved c = search try_turn
