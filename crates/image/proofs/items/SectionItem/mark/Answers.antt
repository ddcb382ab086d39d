-- A section's marks are those of its number, of its two stores and of its expression.
use Rattle.image.proofs.Gathering.{section_marks}
use Rattle.image.proofs.items.SectionItem.mark.Goals as goal

pub returns-clause-marked : goal.returns-clause-marked
returns-clause-marked g c = search section_marks
