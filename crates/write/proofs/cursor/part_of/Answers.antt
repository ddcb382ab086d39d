-- `cursor::part_of` meets its contract: the part is what `get` answers, or there is none.
use Rattle.write.proofs.Cursors.{got_part}
use Rattle.write.proofs.cursor.part_of.Goals as goal

pub returns : goal.returns
returns c = search got_part
