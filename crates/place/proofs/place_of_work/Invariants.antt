-- The place of work is that of what stands at `p`; the measure is what is left of the words.
use Rattle.std.proofs.Common.{length, ◌-◌}
use Rattle.place.proofs.Searching.{Going}
use Rattle.place.proofs.place_of_work.Given as goal

abbrev pub invariant-loop-q : goal.invariant-loop-q
invariant-loop-q l = Going l.s l.at l.p

abbrev pub decreases-loop-q : goal.decreases-loop-q
decreases-loop-q l = length l.s - l.p
