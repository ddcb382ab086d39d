-- Where an entry's value ends: the tag tells a value.
use Rattle.image.proofs.Values.{tag_none, tag_other, tag_value}
use Rattle.image.proofs.items.EntryItem.end.Goals as goal

pub returns-in_err-tag : goal.returns-in_err-tag
returns-in_err-tag c = rw c.from_residual.ensures (search (tag_none, c.in_err-tag.ensures))

pub returns-then-not-is_value : goal.returns-then-not-is_value
returns-then-not-is_value c = search (tag_other, c.in_ok-tag.ensures, c.if-not-is_value.ensures)

pub returns : goal.returns
returns c = search (tag_value, c.in_ok-tag.ensures, c.if-not-is_value.ensures)
