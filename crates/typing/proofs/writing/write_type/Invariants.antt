-- The loop's invariant: the heads so far are written, and the rest is held at `p`.
use Rattle.typing.proofs.Output.{Writes}
use Rattle.typing.proofs.writing.write_type.Given as goal

abbrev pub invariant-loop-done : goal.invariant-loop-done
invariant-loop-done l = Writes l.types.script.words.now l.types.links.now l.p-2 l.initial.out l.out l.p l.n l.done
