-- `substitute` meets its contract: a node and then its children, and no expression is longer than the words.
use Rattle.substitute.proofs.Replacing.{substitutes}
use Rattle.substitute.proofs.substitute.Goals as goal

pub returns : goal.returns
returns c = search substitutes
