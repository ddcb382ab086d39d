-- `words::names::next_leaf` meets its contract. The loop's invariant: no leaf of the kind stands between `at` and `p`.
-- The measure is what is left of the words.
use Rattle.std.proofs.Common.{arith}
use mathlib.Core.Path.{sym, subst, ◌∙◌}
use Rattle.words.specs.Names.{NextLeaf}
use Rattle.words.proofs.Fronts.{front_within}
use Rattle.words.proofs.Leaves.{passed_none, no_front, leaf_here, no_types, body_on, leaf_passed, leaf_word}
use Rattle.words.proofs.names.next_leaf.Goals as goal

pub loop-front-init : goal.loop-front-init
loop-front-init c = passed_none _ _ _

pub returns-in_err-front : goal.returns-in_err-front
returns-in_err-front c =
    subst (NextLeaf c.args.s.now c.args.at c.args.leaf) (sym c.from_residual.ensures)
    (no_front _ _ _ _ c.loop-front.invariant c.in_err-front.ensures)

pub offset_bounds-s-p : goal.offset_bounds-s-p
offset_bounds-s-p c = let f = front_within _ _ _ _ c.in_ok-front.ensures in omega arith

pub bounds-s-p : goal.bounds-s-p
bounds-s-p c = (front_within _ _ _ _ c.in_ok-front.ensures).within

pub returns-then-s-p : goal.returns-then-s-p
returns-then-s-p c =
    leaf_here _ _ _ _ c.loop-front.invariant _ c.in_ok-front.ensures (c.if-s-p.true ∙ leaf_word c.args.leaf)

pub types_end-requires : goal.types_end-requires
types_end-requires c = (front_within _ _ _ _ c.in_ok-front.ensures).types

pub returns-in_err-p : goal.returns-in_err-p
returns-in_err-p c =
    subst (NextLeaf c.args.s.now c.args.at c.args.leaf) (sym c.from_residual-in_err-p.ensures)
    (no_types _ _ _ _ c.loop-front.invariant _ c.in_ok-front.ensures c.in_err-p.ensures)

pub loop-front-smaller : goal.loop-front-smaller
loop-front-smaller c =
    let d = body_on _ _ _ _ c.loop-front.invariant _ c.in_ok-front.ensures _ c.in_ok-p.ensures in
    omega arith

pub loop-front-preserved : goal.loop-front-preserved
loop-front-preserved c =
    leaf_passed _ _ _ _ c.loop-front.invariant _ c.in_ok-front.ensures _ c.in_ok-p.ensures
    (λ e. c.if-s-p.false (e ∙ sym (leaf_word c.args.leaf)))
