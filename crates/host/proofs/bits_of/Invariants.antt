-- The number is that of the marks done.
use Rattle.host.proofs.Bits.{Down}
use Rattle.host.proofs.bits_of.Given as goal

abbrev pub invariant-loop-marked : goal.invariant-loop-marked
invariant-loop-marked l = Down l.fn.marks l.marked-iterator.iter.rest.now l.number
