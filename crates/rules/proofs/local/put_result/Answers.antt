-- `local::put_result` meets its contract: add, subtract, and less with each answer.
use Rattle.std.proofs.Common.{rules}
use Rattle.rules.proofs.Replacing.{result_add, result_subtract, result_yes, result_no}
use Rattle.rules.proofs.local.put_result.Goals.{then-less, else-less}
use Rattle.rules.proofs.local.put_result.Goals as goal

pub returns-in-Add : goal.returns-in-Add
returns-in-Add c = search result_add

pub returns-in-Subtract : goal.returns-in-Subtract
returns-in-Subtract c = search result_subtract

pub returns-after-less : goal.returns-after-less
returns-after-less c =
    elim c.if-less.branch [
      | then-less w ↦ result_yes _ _ _ _ _ _ _ c.in-Less.is _ c.less.ensures w.if-less.true (search rules)
      | else-less w ↦ result_no _ _ _ _ _ _ _ c.in-Less.is _ c.less.ensures w.if-less.false (search rules)
    ]
