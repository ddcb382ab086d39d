-- `typing::infer::infer` and `others` meet their contracts: one law for each way through them.
use Rattle.std.proofs.Common.{rules}
use Rattle.typing.proofs.Whole.{infer_nothing, infer_rowless, infer_untagged, infer_leaf, infer_no, infer_one, infer_more}
use Rattle.typing.proofs.Whole.{infer_bodiless}
use Rattle.typing.proofs.Whole.{others_no, others_two, others_no_three, others_three}
use Rattle.typing.proofs.infer.+infer_others.Goals as goal

pub infer-returns-then-words-i : goal.infer-returns-then-words-i
infer-returns-then-words-i t c = infer_nothing _ _ _ _ c.then-words-i.either

pub infer-returns-in_default : goal.infer-returns-in_default
infer-returns-in_default t c = search (rules, infer_rowless, c.in_default.ensures)

pub infer-returns-in_default-of : goal.infer-returns-in_default-of
infer-returns-in_default-of t c = search (rules, infer_untagged, c.in_default-of.ensures)

pub infer-returns-then-row-eq0 : goal.infer-returns-then-row-eq0
infer-returns-then-row-eq0 t c = search (rules, infer_leaf, c.in-Some.ensures)

pub infer-returns-in_default-enter : goal.infer-returns-in_default-enter
infer-returns-in_default-enter t c = search (rules, infer_bodiless, c.in-Some.ensures)

pub infer-returns-in_default-answer : goal.infer-returns-in_default-answer
infer-returns-in_default-answer t c = search (rules, infer_no, c.in-Some.ensures)

pub infer-returns-then-row-eq1 : goal.infer-returns-then-row-eq1
infer-returns-then-row-eq1 t c = search (rules, infer_one, c.in-Some.ensures)

pub infer-returns : goal.infer-returns
infer-returns t c = search (rules, infer_more, c.in-Some.ensures)

pub others-returns-in_default : goal.others-returns-in_default
others-returns-in_default t c = search others_no

pub others-returns-in_default-tag : goal.others-returns-in_default-tag
others-returns-in_default-tag t c = search others_two

pub others-returns-in_default-answer : goal.others-returns-in_default-answer
others-returns-in_default-answer t c =
    others_no_three _ _ _ _ _ _ _ c.args.node.script.few c.infer-answer.ensures c.in-Ok.second.held _ c.in-Ok.is _
    c.args.node.is _ _ c.in-If.is c.infer-answer-2.ensures _ c.in_default-answer.is

pub others-returns : goal.others-returns
others-returns t c = search others_three
