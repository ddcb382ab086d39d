-- `join::join` meets its contract: not live, live without a value, live with a value.
use Rattle.rules.proofs.Joining.{section_inside, store_inside, join_gone, join_waits, join_done}
use Rattle.rules.proofs.join.join.Goals as goal

pub returns-in_default : goal.returns-in_default
returns-in_default c = search join_gone

pub parts_of-parts-requires : goal.parts_of-parts-requires
parts_of-parts-requires c = search section_inside

pub returns-then-word_at : goal.returns-then-word_at
returns-then-word_at c = search join_waits

pub write_joined-to-requires : goal.write_joined-to-requires
write_joined-to-requires c = search store_inside

pub returns : goal.returns
returns c = search join_done
