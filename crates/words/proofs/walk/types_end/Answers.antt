-- `walk::types_end` meets its contract: the loop's invariant is `Pending`, the measure what is left of the words.
use Rattle.std.proofs.Common.{arith}
use mathlib.Core.Path.{◌∙◌}
use Rattle.words.proofs.Fronts.{front_within}
use Rattle.words.proofs.Pending.{pending_wrong, pending_turn, pending_done}
use Rattle.words.proofs.walk.types_end.Goals as goal

pub returns-in_err-front : goal.returns-in_err-front
returns-in_err-front c = c.from_residual.ensures ∙ search (pending_wrong, c.in_err-front.ensures)

pub overflow_add-pending : goal.overflow_add-pending
overflow_add-pending c =
    let g = front_within _ _ _ _ c.in_ok-front.ensures in
    omega arith

pub loop-pending-smaller : goal.loop-pending-smaller
loop-pending-smaller c =
    let g = front_within _ _ _ _ c.in_ok-front.ensures in
    omega arith

pub loop-pending-preserved : goal.loop-pending-preserved
loop-pending-preserved c = search (pending_turn, c.in_ok-front.ensures)

pub returns : goal.returns
returns c = search pending_done
