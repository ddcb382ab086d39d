-- `run::pick` meets its contract: one law for each way through it.
use Rattle.engine.proofs.Picking.{pick_over, pick_moved, pick_emptied, pick_refused}
use Rattle.engine.proofs.run.pick.Goals as goal

pub returns-in_err-m : goal.returns-in_err-m
returns-in_err-m c = search (pick_refused, c.in_err-m.ensures)

pub returns-then-work-m : goal.returns-then-work-m
returns-then-work-m c = search (pick_over, c.in_ok-m.ensures)

pub returns-else-work-m : goal.returns-else-work-m
returns-else-work-m c = search (pick_moved, c.in_ok-m.ensures)

pub returns-in-Emptied : goal.returns-in-Emptied
returns-in-Emptied c = search (pick_emptied, c.in_ok-m.ensures)
