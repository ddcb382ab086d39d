-- `replace` meets its contract: one law for each way through it.
use Rattle.substitute.proofs.Replacing.{none_left, turning_again, turning_done}
use Rattle.substitute.proofs.+replace.Goals as goal

pub returns-then-left-eq0 : goal.returns-then-left-eq0
returns-then-left-eq0 t c = search none_left

pub loop-preserved : goal.loop-preserved
loop-preserved t c = search turning_again

pub returns : goal.returns
returns t c = search turning_done
