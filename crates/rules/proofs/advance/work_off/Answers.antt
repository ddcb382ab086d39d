-- `advance::work_off` meets its contract: a redex has a tag, and none but those of the rules.
use Rattle.rules.proofs.Advancing.{work_in_tags, tag_there, no_other}
use Rattle.rules.proofs.advance.work_off.Goals as goal

pub unwrap-requires : goal.unwrap-requires
unwrap-requires c = tag_there _ _ c.of.ensures (work_in_tags _ c.word_at.ensures c.requires)

pub unreachable-requires : goal.unreachable-requires
unreachable-requires c =
    let h = c.in_default in
    no_other _ _ _ c.of.ensures c.unwrap.ensures (work_in_tags _ c.word_at.ensures c.requires)
    h.not-Apply h.not-If h.not-Ref h.not-Read h.not-Assign h.not-Fork h.not-Join h.not-Add h.not-Subtract h.not-Less
