-- `stores::store` meets its contract: five writes in a row.
use Rattle.rules.proofs.Storing.{stored_done}
use Rattle.rules.proofs.stores.store.Goals as goal

pub returns : goal.returns
returns c = search stored_done
