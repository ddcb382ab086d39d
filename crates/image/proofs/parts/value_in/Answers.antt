-- `parts::value_in` meets its contract: one law for each way through it.
use mathlib.Core.Path.{◌∙◌, sym}
use Rattle.image.proofs.Sections.{value_here, value_missing}
use Rattle.image.proofs.parts.value_in.Goals as goal

pub returns : goal.returns
returns c = search (value_here, sym c.in_ok-at.was ∙ c.ok.ensures.value)

pub returns-in_err-at : goal.returns-in_err-at
returns-in_err-at c =
    rw c.from_residual.ensures (search (value_missing, sym c.in_err-at.was ∙ c.ok.ensures.value))
