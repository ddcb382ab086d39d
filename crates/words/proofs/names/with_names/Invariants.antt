-- The marks, and those of the names from `p` on, are all that is wanted; the measure is what is left of the words.
use Rattle.std.proofs.Common.{length, ◌-◌}
use Rattle.words.specs.Names.{leaf_of}
use Rattle.words.proofs.Leaves.{Marking}
use Rattle.words.proofs.names.with_names.Given as goal

abbrev pub invariant-loop-q : goal.invariant-loop-q
invariant-loop-q g l = Marking l.s (leaf_of l.leaf) (g.M.Marks.marks l.initial.all) (g.M.Marks.marks l.all) l.p

abbrev pub decreases-loop-q : goal.decreases-loop-q
decreases-loop-q g l = length l.s - l.p
