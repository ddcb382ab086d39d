-- `InUse::none` meets its contract: the count of no marks is 0.
use mathlib.Core.Path.{refl}
use Rattle.calculus.specs.Answers.{tally}
use Rattle.words.proofs.in_use.InUse.none.Goals as goal

pub invariant_of-result : goal.invariant_of-result
unfolding tally
invariant_of-result c = record { counted = refl }
