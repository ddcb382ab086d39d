-- `load::write_first` meets its contract: no room, or the four words and the script.
use Rattle.engine.proofs.Loading.{first_written}
use Rattle.engine.proofs.load.write_first.Goals as goal

pub returns : goal.returns
returns c = search first_written
