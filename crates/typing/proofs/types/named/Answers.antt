-- `typing::types::named` meets its contract: the part ends where the type does, and there is none.
use Rattle.typing.proofs.Ends.{named_none, named_part}
use Rattle.typing.proofs.types.named.Goals as goal

pub returns-in-None : goal.returns-in-None
returns-in-None c = named_none _ _ c.in-None.ensures

pub returns-in-Some : goal.returns-in-Some
returns-in-Some c = named_part _ _ _ c.in-Some.ensures
