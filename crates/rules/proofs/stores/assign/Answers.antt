-- `stores::assign` meets its contract: nothing in view at the location, or its entry is put.
use Rattle.rules.proofs.Storing.{put_place, assign_nothing, assign_done}
use Rattle.rules.proofs.stores.assign.Goals as goal

pub returns-then-is_none : goal.returns-then-is_none
returns-then-is_none c = search assign_nothing

pub store-to-requires : goal.store-to-requires
store-to-requires c = search put_place

pub returns : goal.returns
returns c = search assign_done
