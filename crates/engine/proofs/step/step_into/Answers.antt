-- `step::step_into` meets its contract: one law for each refusal, and what the step came to.
use Rattle.engine.proofs.Stepping.{valid_here, step_no_work, step_not_valid, step_kept, step_told}
use Rattle.engine.proofs.step.step_into.Goals as goal

pub returns-then-work-ne8192 : goal.returns-then-work-ne8192
returns-then-work-ne8192 c = search step_no_work

pub returns-then-not-is_valid : goal.returns-then-not-is_valid
returns-then-not-is_valid c = search step_not_valid

pub advance-requires : goal.advance-requires
advance-requires c = search valid_here

pub returns-in_err-moved : goal.returns-in_err-moved
returns-in_err-moved c = search (step_kept, c.in_err-moved.ensures)

pub returns : goal.returns
returns c = search (step_told, c.in_ok-moved.ensures)
