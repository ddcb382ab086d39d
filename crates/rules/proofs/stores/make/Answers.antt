-- `stores::make` meets its contract: no location is left, or the value is put at the new one.
use Rattle.rules.proofs.Storing.{put_place, make_none, make_done}
use Rattle.rules.proofs.stores.make.Goals as goal

pub returns-in_default : goal.returns-in_default
returns-in_default c = search make_none

pub store-to-requires : goal.store-to-requires
store-to-requires c = search put_place

pub returns : goal.returns
returns c = search make_done
