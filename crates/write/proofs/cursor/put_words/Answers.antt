-- `cursor::put_words` meets its contract: the cursor is past the end, or there is room for some of the words, or for all.
use Rattle.write.proofs.Cursors.{words_out, words_in, words_cut}
use Rattle.write.proofs.cursor.put_words.Goals as goal

pub returns-then-out-to : goal.returns-then-out-to
returns-then-out-to c = search words_out

pub returns-then-room-words : goal.returns-then-room-words
returns-then-room-words c = search words_cut

pub returns : goal.returns
returns c = search words_in
