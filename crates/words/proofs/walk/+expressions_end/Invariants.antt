-- The measure of the calls is the words from `at` on.
use Rattle.std.proofs.Common.{length, ◌-◌}
use Rattle.words.proofs.walk.+expressions_end.Given as goal

abbrev pub decreases-expressions_end : goal.decreases-expressions_end
decreases-expressions_end l = length l.s.now - l.at
