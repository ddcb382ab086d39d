-- `typing::answer` meets its contract: one law for each way through it; a script has few enough words.
use Rattle.std.proofs.Common.{arith}
use Rattle.typing.proofs.Final.{answer_work, answer_no_script, answer_no_type, answer_type, script_few}
use Rattle.typing.proofs.answer.Goals as goal

pub returns-then-work-ne8192 : goal.returns-then-work-ne8192
returns-then-work-ne8192 c = search answer_work

pub returns-in_err-check_script : goal.returns-in_err-check_script
returns-in_err-check_script c =
    answer_no_script _ _ _ c.if-work-ne8192.false _ _ c.in_err-check_script.ensures c.from_residual.ensures

pub overflow_cast-words : goal.overflow_cast-words
overflow_cast-words c =
    let h = script_few _ _ c.in_ok-check_script.ensures.1 in
    omega arith

pub invariant_of-script : goal.invariant_of-script
invariant_of-script c = record { few = script_few _ _ c.in_ok-check_script.ensures.1 }

pub returns-in_err-typed : goal.returns-in_err-typed
returns-in_err-typed c =
    answer_no_type _ _ _ c.if-work-ne8192.false _ c.in_ok-check_script.ensures.1 _ _ _ c.clear.ensures c.infer.ensures _ _
    c.in_err-typed.was c.from_residual-in_err-typed.ensures

pub returns : goal.returns
returns c = answer_type _ _ _ c.if-work-ne8192.false _ c.in_ok-check_script.ensures.1 _ _ _ c.clear.ensures c.infer.ensures _ _ _ _ c.in_ok-typed.was c.put_type.ensures
