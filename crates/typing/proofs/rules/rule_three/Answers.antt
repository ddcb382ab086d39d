-- `typing::rules::rule_three` meets its contract: one law for each way through it.
use Rattle.typing.proofs.Rulings.{head_some, head_none, three_nowhere, if_no, if_yes, if_unlike}
use Rattle.typing.proofs.rules.rule_three.Goals as goal

pub returns-then-same : goal.returns-then-same
returns-then-same c = search (if_yes, head_some, c.in_ok-ok_or.was)

pub returns-else-same : goal.returns-else-same
returns-else-same c = search (if_unlike, head_some, c.in_ok-ok_or.was)

pub returns-in_err-ok_or : goal.returns-in_err-ok_or
returns-in_err-ok_or c =
    three_nowhere _ _ _ _ _ _ _ c.word_at-first.ensures _ c.head.ensures _
    (head_none _ _ _ c.ok_or.ensures.value c.in_err-ok_or.was)

pub returns-in_default : goal.returns-in_default
returns-in_default c =
    if_no _ _ _ _ _ _ _ c.word_at-first.ensures _ c.head.ensures _
    (head_some _ _ _ c.ok_or.ensures.value c.in_ok-ok_or.was) c.in_default.not-Bool
