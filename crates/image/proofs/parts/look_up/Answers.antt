-- `parts::look_up` meets its contract: the local store's value, or else the snapshot's.
use Rattle.std.proofs.Common.{rules}
use Rattle.image.proofs.Sections.{in_view}
use Rattle.image.proofs.parts.look_up.Goals as goal

pub returns : goal.returns
returns c = in_view _ _ _ _ _ _ c.value_in.ensures (λ k. search rules) c.or_else.ensures
