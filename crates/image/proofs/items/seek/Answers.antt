-- `items::seek` meets its contract: the items from `p` on hold the answer.
use Rattle.image.proofs.Seeking.{seek_none, seek_out, seek_hit, seek_over, seek_next}
use Rattle.image.proofs.items.seek.Goals as goal

pub returns-in_default : goal.returns-in_default
returns-in_default g c = search (seek_out, c.in_default.ensures.lookup.3)

pub returns-in-Less : goal.returns-in-Less
returns-in-Less g c = search (seek_over, c.in-Some.ensures.lookup.3.1 0, c.in-Less.ensures)

pub returns-in-Equal : goal.returns-in-Equal
returns-in-Equal g c = search (seek_hit, c.in-Some.ensures.lookup.3.1 0, c.in-Equal.ensures)

pub loop-preserved : goal.loop-preserved
loop-preserved g c = search (seek_next, c.in-Some.ensures.lookup.3.1 0, c.in-Greater.ensures)

pub returns : goal.returns
returns g c = search seek_none
