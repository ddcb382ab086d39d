-- `splice::splice` meets its contract: the hole starts outside the words or among them.
use Rattle.rules.proofs.Splicing.{splice_outside, splice_among}
use Rattle.rules.proofs.splice.splice.Goals as goal

pub returns-then-hole-part : goal.returns-then-hole-part
returns-then-hole-part g c = splice_outside _ _ _ _ _ _ _ _ _ _ _ c.then-hole-part.either c.copy_part.ensures

pub returns : goal.returns
returns g c = search splice_among
