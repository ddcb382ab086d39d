-- `words::names::holds_handle` meets its contract: a location is found, or a revision, or neither.
use Rattle.words.proofs.Leaves.{handle_first, handle_second}
use Rattle.words.proofs.names.holds_handle.Goals as goal

pub returns-then-is_some : goal.returns-then-is_some
returns-then-is_some c = search (handle_first, c.if-is_some.ensures)

pub returns-else-is_some : goal.returns-else-is_some
returns-else-is_some c = search (handle_second, c.if-is_some.ensures)
