-- `typing::writing::write_head` meets its contract: a word alone, or a word and an argument.
use Rattle.typing.proofs.Output.{wrote_word, wrote_function}
use Rattle.typing.proofs.writing.write_head.Goals as goal

pub returns-in-Function : goal.returns-in-Function
returns-in-Function c = search wrote_function

pub returns-in_default : goal.returns-in_default
returns-in_default c = search wrote_word
