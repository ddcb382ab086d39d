-- `closed::node_at` meets its contract: one law for each way through it.
use Rattle.std.proofs.Common.{arith}
use mathlib.Core.Path.{◌∙◌}
use Rattle.words.proofs.Fronts.{front_within}
use Rattle.words.proofs.ClosedLook.{look_wrong, look_variable, look_plain, look_broken, look_binder}
use Rattle.words.proofs.closed.node_at.Goals as goal

pub returns-in_err-front : goal.returns-in_err-front
returns-in_err-front c = c.from_residual.ensures ∙ search (look_wrong, c.in_err-front.ensures)

pub overflow_add-at : goal.overflow_add-at
overflow_add-at c =
    let f = front_within _ _ _ _ c.in_ok-front.ensures in
    omega arith

pub returns-in_err-body : goal.returns-in_err-body
returns-in_err-body c =
    c.from_residual-in_err-body.ensures ∙ search (look_broken, c.in_ok-front.ensures, c.in_err-body.ensures)

pub returns-then-front-ne0 : goal.returns-then-front-ne0
returns-then-front-ne0 c = search (look_binder, c.in_ok-front.ensures, c.in_ok-body.ensures)

pub returns-then-word_at : goal.returns-then-word_at
returns-then-word_at c = search (look_variable, c.in_ok-front.ensures)

pub returns : goal.returns
returns c = search (look_plain, c.in_ok-front.ensures)
