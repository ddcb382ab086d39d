-- The picks up to i are tried.
use Rattle.engine.proofs.Running.{Trying}
use Rattle.engine.proofs.run.try_all.Given as goal

abbrev pub invariant-loop-i : goal.invariant-loop-i
invariant-loop-i l = Trying l.initial.state l.length l.picks l.initial.answers l.state l.answers l.work l.n l.i
