-- The overlay of the entries passed is laid; the measure is how many entries are left in both stores.
use Rattle.std.proofs.Common.{◌+◌}
use Rattle.write.proofs.Laying.{Laid}
use Rattle.write.proofs.overlay.overlay_into.Given as goal

abbrev pub invariant-loop-first : goal.invariant-loop-first
invariant-loop-first l = Laid l.s l.fn.first l.fn.second l.initial.out l.initial.cursor l.out l.first l.second l.cursor l.count

abbrev pub decreases-loop-first : goal.decreases-loop-first
decreases-loop-first l = l.first.count + l.second.count
