-- `entry::put_entry` meets its contract: its five writes are the store with the entry.
use Rattle.write.proofs.Putting.{put_done}
use Rattle.write.proofs.entry.put_entry.Goals as goal

pub returns : goal.returns
returns c = search put_done
