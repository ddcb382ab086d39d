-- `typing::rules::leave` meets its contract: one law for a lambda, and one for any other node.
use Rattle.typing.proofs.Nodes.{leave_lambda, leave_other}
use Rattle.typing.proofs.rules.leave.Goals as goal

pub returns-in-Lambda : goal.returns-in-Lambda
returns-in-Lambda c = search leave_lambda

pub returns-in_default : goal.returns-in_default
returns-in_default c = search leave_other
