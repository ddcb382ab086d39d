-- `join::write_joined` meets its contract: six writes in a row.
use Rattle.std.proofs.Common.{arith, rules}
use Rattle.rules.proofs.Sectioning.{joined_done}
use Rattle.rules.proofs.Chunks.{bounds}
use Rattle.rules.proofs.join.write_joined.Goals as goal

pub overflow_sub-word_at : goal.overflow_sub-word_at
overflow_sub-word_at c = let b = bounds c.requires.working in omega arith

pub overlay_stores-to-requires : goal.overlay_stores-to-requires
overlay_stores-to-requires c = let b = bounds c.requires.working in search rules

pub returns : goal.returns
returns c =
    joined_done _ _ _ _ _ _ _ _ _ _ _ _ _ _ _ _ _ _ _ c.word_at.ensures c.put_word-to.ensures
    (c.splice-to.ensures.wrote _ (record { at = λ o to r o' p. search rules })) c.overlay_stores-to.ensures c.copy_part-to.ensures
    c.put_word-to-2.ensures (c.splice.ensures.wrote _ (record { at = λ o to r o' p. search rules }))
