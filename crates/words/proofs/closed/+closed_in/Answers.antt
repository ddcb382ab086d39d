-- `closed::closed_in` meets its contract: one law for each way of a turn.
use Rattle.std.proofs.Common.{arith}
use mathlib.Core.Path.{◌∙◌}
use Rattle.words.proofs.ClosedFronts.{plain_at, variable_at, binder_at}
use Rattle.words.proofs.ClosedWalk.{start, done, turn_wrong, turn_plain, turn_free, turn_bound}
use Rattle.words.proofs.ClosedWalk.{turn_again, turn_broken, turn_inner, inner_at}
use Rattle.words.proofs.closed.+closed_in.Goals as goal

pub loop-pending-init : goal.loop-pending-init
loop-pending-init t c = search start

pub overflow_add-pending : goal.overflow_add-pending
overflow_add-pending t c =
    let g = plain_at _ _ _ c.in_ok-node.ensures _ _ c.in-Plain.is in
    omega arith

pub loop-pending-smaller-in-Plain : goal.loop-pending-smaller-in-Plain
loop-pending-smaller-in-Plain t c =
    let g = plain_at _ _ _ c.in_ok-node.ensures _ _ c.in-Plain.is in
    omega arith

pub loop-pending-preserved-in-Plain : goal.loop-pending-preserved-in-Plain
loop-pending-preserved-in-Plain t c = search (turn_plain, c.in_ok-node.ensures)

pub bounds-scope-x : goal.bounds-scope-x
bounds-scope-x t c =
    let g = variable_at _ _ _ c.in_ok-node.ensures _ _ c.in-Variable.is in
    omega arith

pub returns-then-not-scope-x : goal.returns-then-not-scope-x
returns-then-not-scope-x t c = search (turn_free, c.in_ok-node.ensures)

pub loop-pending-smaller-in-Variable : goal.loop-pending-smaller-in-Variable
loop-pending-smaller-in-Variable t c =
    let g = variable_at _ _ _ c.in_ok-node.ensures _ _ c.in-Variable.is in
    omega arith

pub loop-pending-preserved-in-Variable : goal.loop-pending-preserved-in-Variable
loop-pending-preserved-in-Variable t c = search (turn_bound, c.in_ok-node.ensures)

pub bounds-scope-x-in-Binder : goal.bounds-scope-x-in-Binder
bounds-scope-x-in-Binder t c =
    let g = binder_at _ _ _ c.in_ok-node.ensures _ _ c.in-Binder.is in
    omega arith

pub loop-pending-smaller-then-scope-x : goal.loop-pending-smaller-then-scope-x
loop-pending-smaller-then-scope-x t c =
    let g = binder_at _ _ _ c.in_ok-node.ensures _ _ c.in-Binder.is in
    omega arith

pub loop-pending-preserved-then-scope-x : goal.loop-pending-preserved-then-scope-x
loop-pending-preserved-then-scope-x t c = search (turn_again, c.in_ok-node.ensures)

pub bounds-inner-x : goal.bounds-inner-x
bounds-inner-x t c =
    let g = binder_at _ _ _ c.in_ok-node.ensures _ _ c.in-Binder.is in
    omega arith

pub closed_in-requires : goal.closed_in-requires
closed_in-requires t c =
    let g = binder_at _ _ _ c.in_ok-node.ensures _ _ c.in-Binder.is in
    (omega (arith, c.decreases), tt)

pub returns-in_err-end-in-Binder : goal.returns-in_err-end-in-Binder
returns-in_err-end-in-Binder t c =
    c.from_residual-in_err-end-in-Binder.ensures ∙ search (turn_broken, c.in_ok-node.ensures, c.in_err-end-in-Binder.ensures)

pub loop-pending-smaller : goal.loop-pending-smaller
loop-pending-smaller t c =
    let g = inner_at _ c.args.scope _ _ c.in_ok-node.ensures _ _ c.in-Binder.is _ c.in_ok-end-in-Binder.ensures in
    omega arith

pub loop-pending-preserved : goal.loop-pending-preserved
loop-pending-preserved t c = search (turn_inner, c.in_ok-node.ensures, c.in_ok-end-in-Binder.ensures)

pub returns-in_err-node : goal.returns-in_err-node
returns-in_err-node t c = c.from_residual.ensures ∙ search (turn_wrong, c.in_err-node.ensures)

pub returns : goal.returns
returns t c = search done
