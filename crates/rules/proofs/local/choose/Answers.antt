-- `local::choose` meets its contract: the first branch for true, the second for false.
use Rattle.std.proofs.Common.{rules}
use Rattle.rules.proofs.Replacing.{choose_yes, choose_no}
use Rattle.rules.proofs.local.choose.Goals.{then-word_at, else-word_at}
use Rattle.rules.proofs.local.choose.Goals as goal

pub returns : goal.returns
returns c =
    elim c.if-word_at.branch [
      | then-word_at w ↦
          choose_yes _ _ _ _ _ _ _ _ c.replace-to.ensures _ c.past-no.ensures c.past-end.ensures _ c.word_at.ensures
          w.if-word_at.true
          (record { at = λ o to r o' p. search rules })
      | else-word_at w ↦
          choose_no _ _ _ _ _ _ _ _ c.replace-to.ensures _ c.past-no.ensures c.past-end.ensures _ c.word_at.ensures
          w.if-word_at.false
          (record { at = λ o to r o' p. search rules })
    ]
