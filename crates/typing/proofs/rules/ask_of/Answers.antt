-- `typing::rules::ask_of` meets its contract: one law for each way through it.
use Rattle.typing.proofs.Rulings.{ask_apply, ask_no_function, ask_assign, ask_no_reference, ask_arithmetic, ask_no_number}
use Rattle.typing.proofs.rules.ask_of.Goals as goal

pub returns-in-Function : goal.returns-in-Function
returns-in-Function c = search ask_apply

pub returns-in_default-head : goal.returns-in_default-head
returns-in_default-head c = search ask_no_function

pub returns-in-Reference : goal.returns-in-Reference
returns-in-Reference c = search ask_assign

pub returns-in_default-head-2 : goal.returns-in_default-head-2
returns-in_default-head-2 c = search ask_no_reference

pub returns-in-Number : goal.returns-in-Number
returns-in-Number c = search ask_arithmetic

pub returns-in_default-head-3 : goal.returns-in_default-head-3
returns-in_default-head-3 c = search ask_no_number
