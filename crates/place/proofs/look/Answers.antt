-- `look` meets its contract: a law for each way through it.
use Rattle.place.proofs.Looking.{look_none, look_value, look_short, look_lost, look_redex, look_stuck, look_enter}
use Rattle.place.proofs.look.Goals as goal

pub returns-in_default : goal.returns-in_default
returns-in_default c = search (look_none, c.in_default.ensures)

pub returns-then-is_value : goal.returns-then-is_value
returns-then-is_value c = search (look_value, c.in-Some.ensures)

pub returns-in_default-tag_at : goal.returns-in_default-tag_at
returns-in_default-tag_at c = search (look_short, c.in-Some.ensures, c.in_default-tag_at.ensures)

pub returns-in_default-tag_at-2 : goal.returns-in_default-tag_at-2
returns-in_default-tag_at-2 c =
    search (look_lost, c.in-Some.ensures, c.in-Some-tag_at.ensures, c.in_default-tag_at-2.ensures)

pub returns-then-is_redex : goal.returns-then-is_redex
returns-then-is_redex c =
    search (look_redex, c.in-Some.ensures, c.in-Some-tag_at.ensures, c.in-Some-tag_at-2.ensures)

pub returns-then-is_value-2 : goal.returns-then-is_value-2
returns-then-is_value-2 c =
    search (look_stuck, c.in-Some.ensures, c.in-Some-tag_at.ensures, c.in-Some-tag_at-2.ensures)

pub returns-else-is_value-2 : goal.returns-else-is_value-2
returns-else-is_value-2 c =
    search (look_enter, c.in-Some.ensures, c.in-Some-tag_at.ensures, c.in-Some-tag_at-2.ensures)
