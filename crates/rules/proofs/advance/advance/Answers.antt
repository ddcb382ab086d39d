-- `advance::advance` meets its contract: an image can be searched, and a revision with no section is not live.
use Rattle.rules.proofs.Advancing.{image_long, steps_gone}
use Rattle.rules.proofs.advance.advance.Goals as goal

pub find_section-requires : goal.find_section-requires
find_section-requires c = search image_long

pub returns-in_default : goal.returns-in_default
returns-in_default c = search steps_gone
