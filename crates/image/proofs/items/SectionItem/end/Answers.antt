-- Where a section ends: one law for each way through it.
use Rattle.image.proofs.Whole.{section_snapshot, section_local, section_whole}
use Rattle.image.proofs.items.SectionItem.end.Goals as goal

pub returns-in_err-local : goal.returns-in_err-local
returns-in_err-local c = rw c.from_residual.ensures (search (section_snapshot, c.in_err-local.ensures))

pub returns-in_err-expression : goal.returns-in_err-expression
returns-in_err-expression c =
    rw c.from_residual-in_err-expression.ensures
    (search (section_local, c.in_ok-local.ensures, c.in_err-expression.ensures))

pub returns : goal.returns
returns c = search (section_whole, c.in_ok-local.ensures, c.in_ok-expression.ensures)
