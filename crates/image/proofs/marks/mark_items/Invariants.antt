-- The items still to be marked stand at `p`.
use Rattle.image.proofs.Gathering.{Marking}
use Rattle.image.proofs.marks.mark_items.Given as goal

abbrev pub invariant-loop : goal.invariant-loop
invariant-loop g l =
    Marking g.I.Item.told_words g.I.Item.IsValid g.I.Item.LARGEST (g.I.Item.taken g.M.Taken.taking)
    l.s l.at l.n (g.M.Marks.marks l.initial.marks) (g.M.Marks.marks l.marks) l.p l.counter
