-- `overlay::overlay_into` meets its contract: the measure is how many entries are left.
use Rattle.write.proofs.Laying.{lay_turn, lay_done}
use Rattle.write.proofs.overlay.overlay_into.Goals as goal

pub loop-first-preserved : goal.loop-first-preserved
loop-first-preserved c = search lay_turn

pub returns : goal.returns
returns c = search lay_done
