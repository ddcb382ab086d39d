-- `names::with_names` meets its contract: what is named from `p` on is still to be marked.
use Rattle.words.proofs.Leaves.{marking_none, marked_all, marking_on}
use Rattle.words.proofs.names.with_names.Goals as goal

pub loop-q-init : goal.loop-q-init
loop-q-init g c = marking_none _ _ _

pub loop-q-preserved : goal.loop-q-preserved
loop-q-preserved g c =
    marking_on _ c.args.leaf _ _ _ c.loop-q.invariant _ c.in-Some.ensures _ c.mark.ensures

pub returns : goal.returns
returns g c = record { marks = marked_all _ c.args.leaf _ _ _ c.loop-q.invariant c.in_default.ensures }
