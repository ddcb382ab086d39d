-- `script::check_script` meets its contract: one law for each way through the tests, in their order.
use mathlib.Core.Path.{sym, ◌∙◌}
use Rattle.words.proofs.Scripted.{too_long, not_formed, with_handle, not_closed, is_script}
use Rattle.words.proofs.script.check_script.Goals as goal
use Rattle.words.proofs.script.check_script.Goals.{then-words-gt2048-via-then-words-gt2048}
use Rattle.words.proofs.script.check_script.Goals.{then-words-gt2048-via-else-words-gt2048+then-not-is_expression}

pub returns-then-words-gt2048 : goal.returns-then-words-gt2048
returns-then-words-gt2048 c =
    elim c.then-words-gt2048.branch [
      | then-words-gt2048-via-then-words-gt2048 w ↦ too_long _ w.if-words-gt2048.true
      | then-words-gt2048-via-else-words-gt2048+then-not-is_expression w ↦
          not_formed _ w.if-words-gt2048.false (sym w.if-not-is_expression.true ∙ w.is_expression.ensures)
    ]

pub returns-then-holds_handle : goal.returns-then-holds_handle
returns-then-holds_handle c =
    with_handle _ c.if-words-gt2048.false c.if-not-is_expression.ensures c.if-holds_handle.ensures

pub returns-then-is_none : goal.returns-then-is_none
returns-then-is_none c =
    not_closed _ c.if-words-gt2048.false c.if-not-is_expression.ensures c.if-holds_handle.ensures _ c.closed_end_of.ensures
    c.if-is_none.ensures

pub returns : goal.returns
returns c =
    is_script _ c.if-words-gt2048.false c.if-not-is_expression.ensures c.if-holds_handle.ensures _ c.closed_end_of.ensures
    c.if-is_none.ensures
