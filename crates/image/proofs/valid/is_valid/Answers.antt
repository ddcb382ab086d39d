-- `valid::is_valid` meets its contract: one law for too many words, and one for the rest.
use Rattle.image.proofs.Whole.{valid_long, valid_end}
use Rattle.image.proofs.valid.is_valid.Goals as goal

pub returns-then-s-le-MOST_WORDS : goal.returns-then-s-le-MOST_WORDS
returns-then-s-le-MOST_WORDS c = search valid_end

pub returns-else-s-le-MOST_WORDS : goal.returns-else-s-le-MOST_WORDS
returns-else-s-le-MOST_WORDS c = search valid_long
