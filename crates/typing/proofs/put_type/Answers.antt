-- `typing::put_type` meets its contract: a type for which there is room is written, and zeros after it.
use Rattle.typing.proofs.Final.{put_done}
use Rattle.typing.proofs.put_type.Goals as goal

pub returns : goal.returns
returns c = search put_done
