-- `walk::front_at` meets its contract: one law for each way through it.
use mathlib.Core.Path.{sym, ap, ◌∙◌}
use Rattle.words.specs.Walks.{front_beginning}
use Rattle.words.proofs.Beginnings.{begun_out, begun_other, begun_untagged, begun_tagged}
use Rattle.words.proofs.walk.front_at.Goals as goal

pub returns-in_err-tag : goal.returns-in_err-tag
returns-in_err-tag c = c.from_residual.ensures ∙ begun_out _ _ _ c.in_err-tag.ensures.lookup.3

pub returns-then-kind_number-kind : goal.returns-then-kind_number-kind
returns-then-kind_number-kind c =
    let t = c.in_ok-tag.ensures.lookup in
    begun_other _ _ _ t.3.0 _ (t.3.1 0) _ c.row_at-row.ensures
    (λ q. c.if-kind_number-kind.true (c.kind_number.ensures ∙ q))

pub returns-in_default : goal.returns-in_default
returns-in_default c =
    let t = c.in_ok-tag.ensures.lookup in
    begun_untagged _ _ _ t.3.0 _ (t.3.1 0) _ c.row_at-row.ensures
    (sym c.kind_number.ensures ∙ c.if-kind_number-kind.false) c.in_default.is

pub returns-in_err-front : goal.returns-in_err-front
returns-in_err-front c =
    let t = c.in_ok-tag.ensures.lookup in
    c.from_residual-in_err-front.ensures
    ∙ ap front_beginning c.in_err-front.ensures
    ∙ begun_tagged _ _ _ t.3.0 _ (t.3.1 0) _ c.row_at-row.ensures
    (sym c.kind_number.ensures ∙ c.if-kind_number-kind.false) _ c.in-Some.is

pub returns : goal.returns
returns c =
    let t = c.in_ok-tag.ensures.lookup in
    ap front_beginning c.in_ok-front.ensures
    ∙ begun_tagged _ _ _ t.3.0 _ (t.3.1 0) _ c.row_at-row.ensures
    (sym c.kind_number.ensures ∙ c.if-kind_number-kind.false) _ c.in-Some.is
