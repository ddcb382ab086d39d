-- `entry::hole_for` meets its contract: the location has an entry, or it has none.
use Rattle.write.proofs.Putting.{hole_hit, hole_miss}
use Rattle.write.proofs.entry.hole_for.Goals as goal

pub returns-in-Ok : goal.returns-in-Ok
returns-in-Ok c = search (hole_hit, c.in-Ok.ensures)

pub returns-in-Err : goal.returns-in-Err
returns-in-Err c = search (hole_miss, c.in-Err.ensures)
