-- The measure of the calls is `left`; the expressions before the counter are done.
use Rattle.substitute.proofs.Replacing.{Turning}
use Rattle.substitute.proofs.+replace.Given as goal

abbrev pub decreases-replace : goal.decreases-replace
decreases-replace l = l.left

abbrev pub invariant-loop : goal.invariant-loop
invariant-loop l = Turning l.s l.node.children l.filling l.initial.out l.node.to l.left l.at l.out l.counter
