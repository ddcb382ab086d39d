-- The loop's invariant: the types are equal if what is left of them is.
use Rattle.typing.proofs.Equality.{SameSo}
use Rattle.typing.proofs.types.Held.same.Given as goal

abbrev pub invariant-loop-done : goal.invariant-loop-done
invariant-loop-done l = SameSo l.self.script.words.now l.self.links.now l.p-2 l.q-2 l.p l.q l.done
