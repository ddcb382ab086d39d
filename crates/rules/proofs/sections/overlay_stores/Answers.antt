-- `sections::overlay_stores` meets its contract.
use Rattle.rules.proofs.Sectioning.{overlaid_done}
use Rattle.rules.proofs.sections.overlay_stores.Goals as goal

pub returns : goal.returns
returns c = search overlaid_done
