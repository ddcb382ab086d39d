-- `fork::write_child` meets its contract: four writes in a row.
use Rattle.std.proofs.Common.{rules}
use Rattle.rules.proofs.Forking.{child_done}
use Rattle.rules.proofs.Chunks.{bounds}
use Rattle.rules.proofs.fork.write_child.Goals as goal

pub overlay_stores-to-requires : goal.overlay_stores-to-requires
overlay_stores-to-requires c = let b = bounds c.requires.working in search rules

pub returns : goal.returns
returns c = search child_done
