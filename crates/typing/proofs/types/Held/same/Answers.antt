-- `typing::types::Held::same` meets its contract: heads that differ, a last head, one head more, and too many heads.
use Rattle.std.proofs.Common.{rules, sym, ◌∙◌}
use Rattle.typing.proofs.Equality.{same_nowhere, nowhere_same, same_unlike, same_done, done_same, same_turn, same_none}
use Rattle.typing.proofs.types.Held.same.Goals as goal

pub returns-in_default : goal.returns-in_default
returns-in_default c = search nowhere_same

pub returns-in_default-3 : goal.returns-in_default-3
returns-in_default-3 c = search same_nowhere

pub returns-in_default-2 : goal.returns-in_default-2
returns-in_default-2 c =
    let w = sym c.in_default-2.is-1 ∙ c.rest-in-loop-done.ensures in search (rules, done_same, w)

pub returns-in_default-2-2 : goal.returns-in_default-2-2
returns-in_default-2-2 c =
    let w = sym c.in_default-2.is-0 ∙ c.rest.ensures in search (rules, same_done, w)

pub returns-then-not-same_heads : goal.returns-then-not-same_heads
returns-then-not-same_heads c = search same_unlike

pub loop-done-preserved : goal.loop-done-preserved
loop-done-preserved c = search (rules, same_turn, c.in-Some-Some-2.ensures, c.in-Some-Some-2.ensures')

pub returns : goal.returns
returns c = search same_none
