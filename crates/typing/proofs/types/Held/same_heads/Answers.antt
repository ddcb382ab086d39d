-- `typing::types::Held::same_heads` meets its contract: two functions, the first alone, and no function first.
use Rattle.typing.proofs.Equality.{heads_function, heads_unlike, heads_plain}
use Rattle.typing.proofs.types.Held.same_heads.Goals as goal

pub returns : goal.returns
returns c = search heads_function

pub returns-in_default : goal.returns-in_default
returns-in_default c = search heads_plain

pub returns-in_default-b : goal.returns-in_default-b
returns-in_default-b c = search heads_unlike
