-- No leaf of the kind stands between `at` and `p`; the measure is what is left of the words.
use Rattle.std.proofs.Common.{length, ◌-◌}
use Rattle.words.proofs.Leaves.{Passed}
use Rattle.words.proofs.names.next_leaf.Given as goal

abbrev pub invariant-loop-front : goal.invariant-loop-front
invariant-loop-front l = Passed l.s l.at l.fn.leaf l.p

abbrev pub decreases-loop-front : goal.decreases-loop-front
decreases-loop-front l = length l.s - l.p
