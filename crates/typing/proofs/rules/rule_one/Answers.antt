-- `typing::rules::rule_one` meets its contract: one law for each way through it.
use Rattle.typing.proofs.Rulings.{head_some, head_none, one_nowhere, read_yes, read_no, join_yes, join_no, of_lambda}
use Rattle.typing.proofs.Rulings.{of_fork, itself}
use Rattle.typing.proofs.rules.rule_one.Goals as goal

pub returns-in-Lambda : goal.returns-in-Lambda
returns-in-Lambda c = search of_lambda

pub returns-in-Fork : goal.returns-in-Fork
returns-in-Fork c = search of_fork

pub returns-in_err-rest-in-Read : goal.returns-in_err-rest-in-Read
returns-in_err-rest-in-Read c =
    one_nowhere _ _ _ _ _ _ c.head.ensures _ (head_none _ _ _ c.ok_or.ensures.value c.in_err-rest-in-Read.was)

pub returns-in_err-ok_or-in-Join : goal.returns-in_err-ok_or-in-Join
returns-in_err-ok_or-in-Join c =
    one_nowhere _ _ _ _ _ _ c.head-in-Join.ensures _
    (head_none _ _ _ c.ok_or-in-Join.ensures.value c.in_err-ok_or-in-Join.was)

pub returns-in-Reference : goal.returns-in-Reference
returns-in-Reference c = search (read_yes, head_some, c.in_ok-rest-in-Read.was)

pub returns-in_default-2 : goal.returns-in_default-2
returns-in_default-2 c =
    read_no _ _ _ _ _ _ c.head.ensures _ (head_some _ _ _ c.ok_or.ensures.value c.in_ok-rest-in-Read.was) _
    c.args.node.is c.in-Read.is c.in_default-2.not-Reference

pub returns-in-Rev : goal.returns-in-Rev
returns-in-Rev c = search (join_yes, head_some, c.in_ok-ok_or-in-Join.was)

pub returns-in_default-3 : goal.returns-in_default-3
returns-in_default-3 c =
    join_no _ _ _ _ _ _ c.head-in-Join.ensures _
    (head_some _ _ _ c.ok_or-in-Join.ensures.value c.in_ok-ok_or-in-Join.was) _ c.args.node.is c.in-Join.is
    c.in_default-3.not-Rev

pub returns-in_default : goal.returns-in_default
returns-in_default c = search itself
