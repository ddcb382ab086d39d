-- `fresh::smallest_clear` meets its contract: the first clear mark, as the chain finds it, is the smallest.
use Rattle.std.proofs.Common.{◌≡◌, ◌∙◌, sym, rules}
use Rattle.std.specs.Prelude.{not}
use Rattle.std.specs.List.{position}
use Rattle.std.proofs.lemmas.Iterator.{YieldsList-from_slice}
use Rattle.std.proofs.lemmas.Iterator.Search.{position_from_yields_List}
use Rattle.image.proofs.Free.{smallest_place}
use Rattle.image.proofs.fresh.smallest_clear.Goals as goal
use Rattle.image.proofs.fresh.smallest_clear.Goals.{After-position}

first : (c : After-position) → c.position.result ≡ position not c.args.marks.now
first c =
    position_from_yields_List not _ _ _ c.position.ensures.ran (YieldsList-from_slice c.args.marks.now (cc))
    (λ x b q k. search rules)

pub returns-in_err-place : goal.returns-in_err-place
returns-in_err-place c =
    let h = goal.at.returns-in_err-place c in
    smallest_place _ _ (c.from_residual.ensures ∙ sym c.in_err-place.was ∙ first h.After-position)

pub returns : goal.returns
returns c =
    let h = goal.at.returns c in
    smallest_place _ _ (sym c.in_ok-place.was ∙ first h.After-position)
