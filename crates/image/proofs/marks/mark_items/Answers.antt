-- `marks::mark_items` meets its contract: the items still to be marked stand at `p`.
use Rattle.image.proofs.Gathering.{marking_none, marking_start, marking_done, marking_out, marking_next}
use Rattle.image.proofs.marks.mark_items.Goals as goal

pub returns-in_default : goal.returns-in_default
returns-in_default g c = search (marking_none, c.in_default.ensures.lookup.3)

pub loop-init : goal.loop-init
loop-init g c = search (marking_start, c.in-Some.ensures.lookup.3.1 0)

pub returns-then-s-p : goal.returns-then-s-p
returns-then-s-p g c = search marking_out

pub loop-preserved : goal.loop-preserved
loop-preserved g c = search marking_next

pub returns : goal.returns
returns g c = search marking_done
