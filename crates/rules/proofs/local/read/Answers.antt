-- `local::read` meets its contract: nothing in view at the location, or its value.
use Rattle.std.proofs.Common.{rules}
use Rattle.rules.proofs.Replacing.{read_nothing, read_value}
use Rattle.rules.proofs.local.read.Goals as goal

pub returns-in_default : goal.returns-in_default
returns-in_default c = search read_nothing

pub returns : goal.returns
returns c = read_value _ _ _ c.word_at.ensures _ c.look_up.ensures _ _ _ _ c.in-Some.is _ _ _ c.past-end.ensures c.replace-to.ensures (record { at = λ o to r o' p. search rules })
