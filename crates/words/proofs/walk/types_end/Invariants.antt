-- The types still to come stand at `p`; the measure is what is left of the words.
use Rattle.std.proofs.Common.{length, ◌-◌}
use Rattle.words.proofs.Pending.{Pending}
use Rattle.words.proofs.walk.types_end.Given as goal

abbrev pub invariant-loop-pending : goal.invariant-loop-pending
invariant-loop-pending l = Pending l.s l.n l.at l.pending l.p

abbrev pub decreases-loop-pending : goal.decreases-loop-pending
decreases-loop-pending l = length l.s - l.p
