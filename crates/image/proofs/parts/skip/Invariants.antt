-- The entries still to be passed stand at `p`.
use Rattle.image.proofs.Sections.{Skipping}
use Rattle.image.proofs.parts.skip.Given as goal

abbrev pub invariant-loop : goal.invariant-loop
invariant-loop l = Skipping l.s l.at l.n l.p l.counter
