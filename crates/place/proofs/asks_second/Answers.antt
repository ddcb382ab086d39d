-- `asks_second` meets its contract: of the three arithmetic tags, which are past 14.
use Rattle.std.proofs.Common.{arith}
use Rattle.std.proofs.lemmas.Grind.{common_steps}
use Rattle.place.proofs.Tags.{asks_arithmetic, arithmetic_past}
use Rattle.place.proofs.asks_second.Goals as goal

pub returns-in-Add : goal.returns-in-Add
returns-in-Add c = asks_arithmetic _ _ (arithmetic_past _ c.in-Add.is) (grind (arith, common_steps))
