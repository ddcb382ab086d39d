-- `walk::front_of_kind` meets its contract: one law for each way through it.
use mathlib.Core.Path.{◌∙◌}
use borrow.Author.Tests.{not-true, not-false}
use Rattle.words.proofs.Fronts.{front_out, front_untagged, front_elsewhere, front_bare, front_short, front_fine, front_over}
use Rattle.words.proofs.Fronts.{kind_told}
use Rattle.words.proofs.walk.front_of_kind.Goals as goal

pub returns-in_err-tag : goal.returns-in_err-tag
returns-in_err-tag c = c.from_residual.ensures ∙ front_out _ _ _ c.in_err-tag.ensures.lookup.3

pub returns-in_err-row : goal.returns-in_err-row
returns-in_err-row c =
    let t = c.in_ok-tag.ensures.lookup in
    c.from_residual-in_err-row.ensures ∙ front_untagged _ _ _ t.3.0 _ (t.3.1 0) c.in_err-row.ensures

pub returns-then-eq-tag : goal.returns-then-eq-tag
returns-then-eq-tag c =
    let t = c.in_ok-tag.ensures.lookup in
    front_elsewhere _ _ _ t.3.0 _ (t.3.1 0)
    (λ n e. kind_told _ _ _ c.eq.ensures n e ∙ not-true _ c.if-eq-tag.true)

pub returns-in_default : goal.returns-in_default
returns-in_default c =
    let t = c.in_ok-tag.ensures.lookup in
    front_bare _ _ _ t.3.0 _ (t.3.1 0) _ c.in_ok-row.ensures
    (kind_told _ _ _ c.eq.ensures _ c.in_ok-row.ensures ∙ not-false _ c.if-eq-tag.false) c.in_default.is

pub returns-in_err-own : goal.returns-in_err-own
returns-in_err-own c =
    let t = c.in_ok-tag.ensures.lookup in
    c.from_residual-in_err-own.ensures
    ∙ front_short _ _ _ t.3.0 _ (t.3.1 0) _ c.in_ok-row.ensures
    (kind_told _ _ _ c.eq.ensures _ c.in_ok-row.ensures ∙ not-false _ c.if-eq-tag.false) _ c.in-Some.is
    c.in_err-own.ensures.lookup.3

pub returns-then-own-limit : goal.returns-then-own-limit
returns-then-own-limit c =
    let t = c.in_ok-tag.ensures.lookup in
    let o = c.in_ok-own.ensures.lookup in
    front_fine _ _ _ t.3.0 _ (t.3.1 0) _ c.in_ok-row.ensures
    (kind_told _ _ _ c.eq.ensures _ c.in_ok-row.ensures ∙ not-false _ c.if-eq-tag.false) _ c.in-Some.is
    o.3.0 _ (o.3.1 0) c.if-own-limit.true

pub returns-else-own-limit : goal.returns-else-own-limit
returns-else-own-limit c =
    let t = c.in_ok-tag.ensures.lookup in
    let o = c.in_ok-own.ensures.lookup in
    front_over _ _ _ t.3.0 _ (t.3.1 0) _ c.in_ok-row.ensures
    (kind_told _ _ _ c.eq.ensures _ c.in_ok-row.ensures ∙ not-false _ c.if-eq-tag.false) _ c.in-Some.is
    o.3.0 _ (o.3.1 0) c.if-own-limit.false
