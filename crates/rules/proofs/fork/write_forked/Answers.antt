-- `fork::write_forked` meets its contract: four writes in a row.
use Rattle.std.proofs.Common.{arith, rules}
use Rattle.rules.proofs.Forking.{forked_done}
use Rattle.rules.proofs.Chunks.{bounds}
use Rattle.rules.proofs.fork.write_forked.Goals as goal

pub overflow_add-word_at : goal.overflow_add-word_at
overflow_add-word_at c = let b = bounds c.requires.working in omega arith

pub returns : goal.returns
returns c =
    forked_done _ _ _ _ _ _ _ _ _ _ _ _ _ _ _ _ _ (record { at = λ o to r o' p. search rules }) (record { at = λ o to r o' p. search rules }) c.word_at.ensures c.put_word-to.ensures
    c.splice-to.ensures c.put_words-to.ensures c.splice.ensures
