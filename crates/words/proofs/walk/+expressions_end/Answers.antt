-- `walk::expressions_end` meets its contract: one law for each way through it.
use Rattle.std.proofs.Common.{arith}
use mathlib.Core.Path.{◌∙◌}
use Rattle.words.proofs.Fronts.{front_within}
use Rattle.words.proofs.Children.{expressions_none, expressions_wrong, expressions_types, expressions_children}
use Rattle.words.proofs.Children.{expressions_more, body_deeper, end_deeper}
use Rattle.words.proofs.walk.+expressions_end.Goals as goal

pub returns-then-n-eq0 : goal.returns-then-n-eq0
returns-then-n-eq0 t c = search expressions_none

pub returns-in_err-front : goal.returns-in_err-front
returns-in_err-front t c = c.from_residual.ensures ∙ search (expressions_wrong, c.in_err-front.ensures)

pub types_end-requires : goal.types_end-requires
types_end-requires t c = (front_within _ _ _ _ c.in_ok-front.ensures).types

pub returns-in_err-body : goal.returns-in_err-body
returns-in_err-body t c =
    c.from_residual-in_err-body.ensures
    ∙ search (expressions_types, c.in_ok-front.ensures, c.in_err-body.ensures)

pub expressions_end-requires : goal.expressions_end-requires
expressions_end-requires t c =
    let g = body_deeper _ _ _ c.in_ok-front.ensures _ c.in_ok-body.ensures in
    (omega arith, tt)

pub returns-in_err-end : goal.returns-in_err-end
returns-in_err-end t c =
    c.from_residual-in_err-end.ensures
    ∙ search (expressions_children, c.in_ok-front.ensures, c.in_ok-body.ensures, c.in_err-end.ensures)

pub expressions_end-requires-2 : goal.expressions_end-requires-2
expressions_end-requires-2 t c =
    let g = end_deeper _ _ _ c.in_ok-front.ensures _ c.in_ok-body.ensures _ c.in_ok-end.ensures in
    (omega arith, tt)

pub returns : goal.returns
returns t c = search (expressions_more, c.in_ok-front.ensures, c.in_ok-body.ensures, c.in_ok-end.ensures)
