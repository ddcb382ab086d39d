-- `is_redex` meets its contract: of the three arithmetic tags, which are past 14.
use Rattle.std.proofs.Common.{arith}
use Rattle.std.proofs.lemmas.Grind.{common_steps}
use Rattle.place.proofs.Tags.{redex_arithmetic, arithmetic_past}
use Rattle.place.proofs.is_redex.Goals as goal

pub returns-then-eq-4 : goal.returns-then-eq-4
returns-then-eq-4 c = redex_arithmetic _ _ _ (arithmetic_past _ c.in-Add.is) (grind (arith, common_steps))
