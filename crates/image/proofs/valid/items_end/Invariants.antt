-- The items from `p` on are still to be read.
use Rattle.image.proofs.Walking.{Walking}
use Rattle.image.proofs.valid.items_end.Given as goal

abbrev pub invariant-loop : goal.invariant-loop
invariant-loop g l = Walking g.I.Item.read g.I.Item.LARGEST l.s l.at l.n l.p l.counter l.low
