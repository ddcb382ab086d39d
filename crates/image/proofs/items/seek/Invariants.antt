-- The items from `p` on hold the answer.
use Rattle.image.proofs.Seeking.{Seeking}
use Rattle.image.proofs.items.seek.Given as goal

abbrev pub invariant-loop : goal.invariant-loop
invariant-loop g l = Seeking g.I.Item.told_words g.I.Item.IsValid g.I.Item.LARGEST l.s l.at l.n l.key l.p l.counter
