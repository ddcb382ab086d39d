-- `typing::rules::rule_two` meets its contract: one law for each way through it.
use Rattle.typing.proofs.Rulings.{head_some, head_none, two_nowhere, two_no, two_yes, two_unlike}
use Rattle.typing.proofs.rules.rule_two.Goals as goal

pub returns-in_err-head : goal.returns-in_err-head
returns-in_err-head c =
    two_nowhere _ _ _ _ _ _ c.word_at-first.ensures _ c.head.ensures _
    (head_none _ _ _ c.ok_or.ensures.value c.in_err-head.was)

pub returns-in_default : goal.returns-in_default
returns-in_default c = search (two_no, head_some, c.in_ok-head.was)

pub returns-then-same : goal.returns-then-same
returns-then-same c = search (two_yes, head_some, c.in_ok-head.was)

pub returns-else-same : goal.returns-else-same
returns-else-same c = search (two_unlike, head_some, c.in_ok-head.was)
