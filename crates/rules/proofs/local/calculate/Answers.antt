-- `local::calculate` meets its contract: one law for its one way.
use Rattle.std.proofs.Common.{rules}
use Rattle.rules.proofs.Replacing.{calculate_done}
use Rattle.rules.proofs.local.calculate.Goals as goal

pub returns : goal.returns
returns c =
    calculate_done _ _ _ _ _ _ _ c.word_at-m.ensures c.word_at-n.ensures _ _ _ c.replace-to.ensures
    (record { at = λ o to r o' p. search rules })
