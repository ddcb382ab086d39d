-- `typing::writing::write_type` meets its contract: the last head, and one head more.
use Rattle.std.proofs.Common.{rules}
use Rattle.typing.proofs.Output.{write_nowhere, write_done, write_turn}
use Rattle.typing.proofs.writing.write_type.Goals as goal

pub returns-in_default : goal.returns-in_default
returns-in_default c = search write_nowhere

pub returns-in_default-rest : goal.returns-in_default-rest
returns-in_default-rest c = search (rules, write_done, c.in_default-rest.ensures)

pub loop-done-preserved : goal.loop-done-preserved
loop-done-preserved c = search (rules, write_turn, c.in-Some-rest.ensures)
