-- The measure of the calls is the words from `at` on, that of the loop the words from `p` on.
use Rattle.std.proofs.Common.{length, ◌-◌}
use Rattle.words.proofs.ClosedWalk.{Pending}
use Rattle.words.proofs.closed.+closed_in.Given as goal

abbrev pub decreases-closed_in : goal.decreases-closed_in
decreases-closed_in l = length l.s.now - l.at

abbrev pub invariant-loop-pending : goal.invariant-loop-pending
invariant-loop-pending l = Pending l.s l.scope l.at l.pending l.p

abbrev pub decreases-loop-pending : goal.decreases-loop-pending
decreases-loop-pending l = length l.s - l.p
