-- `sections::find_section` meets its contract.
use Rattle.rules.proofs.Sectioning.{found_section}
use Rattle.rules.proofs.sections.find_section.Goals as goal

pub returns : goal.returns
returns c = search found_section
