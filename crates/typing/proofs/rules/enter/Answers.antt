-- `typing::rules::enter` meets its contract: one law for each way through it; the body starts within the script.
use Rattle.std.proofs.Common.{arith, rules}
use Rattle.typing.proofs.Ends.{ends_in}
use Rattle.typing.proofs.Nodes.{enter_other, enter_lambda, enter_broken}
use Rattle.typing.proofs.rules.enter.Goals as goal

pub returns : goal.returns
returns c = search (rules, enter_lambda, c.in_ok-body.ensures)

pub returns-in_err-body : goal.returns-in_err-body
returns-in_err-body c = search (rules, enter_broken, c.in_err-body.ensures)

pub overflow_cast-result : goal.overflow_cast-result
overflow_cast-result c = let b = ends_in _ _ _ c.in_ok-body.ensures in omega arith

pub returns-in_default : goal.returns-in_default
returns-in_default c = search enter_other
