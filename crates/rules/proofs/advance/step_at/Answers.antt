-- `advance::step_at` meets its contract: a value, a stuck node, a redex at the place of work.
use Rattle.std.proofs.Common.{arith, rules}
use Rattle.rules.proofs.Advancing.{AtBound, at_bound, redex_working, step_value, step_stuck, step_redex}
use Rattle.rules.proofs.advance.step_at.Goals as goal

pub overflow_add-snapshot : goal.overflow_add-snapshot
overflow_add-snapshot c = let b : AtBound _ _ = at_bound c.requires in omega arith

pub parts_of-parts-requires : goal.parts_of-parts-requires
parts_of-parts-requires c = let b : AtBound _ _ = at_bound c.requires in search rules

pub work_off-requires : goal.work_off-requires
work_off-requires c = search redex_working

pub returns-in-Value : goal.returns-in-Value
returns-in-Value c = search step_value

pub returns-in-StuckAt : goal.returns-in-StuckAt
returns-in-StuckAt c = search step_stuck

pub returns-in-RedexAt : goal.returns-in-RedexAt
returns-in-RedexAt c = search step_redex
