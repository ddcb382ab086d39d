-- `walk::is_expression` meets its contract: the words are one expression where one ends at their end.
use lib.Dec.{eqb}
use lib.ListN.{length}
use mathlib.Core.Path.{ap, ◌∙◌}
use Rattle.std.specs.Option.{option_eq}
use Rattle.std.specs.Prelude.{Some}
use Rattle.words.proofs.Whole.{whole}
use Rattle.words.proofs.walk.is_expression.Goals as goal

pub returns : goal.returns
returns c =
    c.eq.ensures
    ∙ ap (λ w. option_eq eqb w (Some (length c.args.s.now))) c.end_of.ensures
    ∙ whole c.args.s.now
