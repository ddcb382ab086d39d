-- `parts::past_store` meets its contract: its entries end there.
use Rattle.image.proofs.Sections.{store_past}
use Rattle.image.proofs.parts.past_store.Goals as goal

pub returns : goal.returns
returns c = search store_past
