-- `run::run` meets its contract: one law for each refusal, and every pick tried.
use Rattle.std.proofs.Common.{rules}
use Rattle.engine.proofs.Running.{run_no_state, run_no_work, run_no_answers, run_long, run_not_valid}
use Rattle.engine.proofs.Running.{run_ready, run_done}
use Rattle.engine.proofs.run.run.Goals as goal

pub returns : goal.returns
returns c = search run_done

pub returns-then-state-ne8192 : goal.returns-then-state-ne8192
returns-then-state-ne8192 c = search run_no_state

pub returns-then-work-ne8192 : goal.returns-then-work-ne8192
returns-then-work-ne8192 c = search run_no_work

pub returns-then-answers-picks : goal.returns-then-answers-picks
returns-then-answers-picks c = search run_no_answers

pub returns-then-length-gt8192 : goal.returns-then-length-gt8192
returns-then-length-gt8192 c = search run_long

pub returns-then-not-is_valid : goal.returns-then-not-is_valid
returns-then-not-is_valid c = search run_not_valid

pub try_all-n-requires : goal.try_all-n-requires
try_all-n-requires c =
    run_ready _ _ _ _ _
    c.if-state-ne8192.false
    c.if-work-ne8192.false
    c.if-answers-picks.false
    _
    c.if-length-gt8192.false
    c.is_valid.ensures
    (search rules)
