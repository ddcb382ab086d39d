-- `InUse::mark` meets its contract: one more mark counts one more.
use Rattle.std.proofs.Common.{arith, length, rules, ◌≡◌}
use Rattle.words.proofs.Marks.{mark_new, count_few}
use Rattle.words.proofs.in_use.InUseMarks.mark.Goals as goal

pub overflow_add-self : goal.overflow_add-self
overflow_add-self c =
    let n : length c.args.self.now.marks ≡ 64 = search rules in
    omega (arith, count_few _ _ _ n c.args.self.now.counted)

pub invariant_of-self : goal.invariant_of-self
invariant_of-self c =
    let n : length c.args.self.now.marks ≡ 64 = search rules in
    record { counted = mark_new _ _ _ c.args.self.now.counted (omega arith) c.if-not-self-i.true }
