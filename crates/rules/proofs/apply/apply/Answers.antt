-- `apply::apply` meets its contract: one law for its one way.
use Rattle.std.proofs.Common.{rules}
use Rattle.rules.proofs.Applying.{apply_done, type_past}
use Rattle.rules.proofs.apply.apply.Goals as goal

pub returns : goal.returns
returns c =
    apply_done _ _ _ _ _ _ _ _ c.word_at-x.ensures (type_past _ _ _ _ c.type_end.ensures c.unwrap_or-body.ensures) c.past-value.ensures c.past-end.ensures _ _ _
    c.replace-to.ensures
    (λ o to r o' p. search rules)
