-- `others` stands above `infer` at the same words left, and each call on a child has one word less left.
use Rattle.std.proofs.Common.{◌+◌}
use Rattle.typing.proofs.infer.+infer_others.Given as goal

abbrev pub decreases-infer : goal.decreases-infer
decreases-infer l = l.left + l.left

abbrev pub decreases-others : goal.decreases-others
decreases-others l = l.left + l.left + 1
