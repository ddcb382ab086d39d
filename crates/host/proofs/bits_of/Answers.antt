-- Twice the number at each mark from the highest down, and one more where the mark is set.
use Rattle.std.proofs.Common.{arith, rules}
use Rattle.host.proofs.Bits.{byte_fits, down_start, down_room, down_turn}
use Rattle.host.proofs.bits_of.Goals as goal

pub loop-marked-init : goal.loop-marked-init
loop-marked-init c = down_start _ _ (search rules) (cc)

pub overflow_mul-number : goal.overflow_mul-number
overflow_mul-number c =
    let r = down_room _ _ c.loop-marked.invariant c.in-Some.ensures.steps in omega arith

pub overflow_add-number : goal.overflow_add-number
overflow_add-number c =
    let r = down_room _ _ c.loop-marked.invariant c.in-Some.ensures.steps in
    let b = byte_fits _ _ c.from.ensures in
    omega arith

pub loop-marked-preserved : goal.loop-marked-preserved
loop-marked-preserved c = search (down_turn, c.in-Some.ensures.steps)
