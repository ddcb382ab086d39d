-- `typing::rules::leaf` meets its contract: one law for each way through it.
use Rattle.typing.proofs.Nodes.{leaf_constant, leaf_number, leaf_free, leaf_variable, leaf_other}
use Rattle.typing.proofs.rules.leaf.Goals as goal

pub returns-then-place-eq0 : goal.returns-then-place-eq0
returns-then-place-eq0 c = search leaf_free

pub returns-in-Number : goal.returns-in-Number
returns-in-Number c = search leaf_number

pub returns-else-place-eq0 : goal.returns-else-place-eq0
returns-else-place-eq0 c = search leaf_variable

pub returns-in-Unit : goal.returns-in-Unit
returns-in-Unit c = leaf_constant _ _ _ _ c.args.node.is c.in-Unit.is

pub returns-in_default : goal.returns-in_default
returns-in_default c = search leaf_other
