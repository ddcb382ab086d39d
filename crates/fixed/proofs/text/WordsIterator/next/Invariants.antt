-- No more bytes are left than when the loop began; they get fewer.
use Rattle.std.proofs.Common.{length, ◌≤◌}
use Rattle.fixed.proofs.text.WordsIterator.next.Given as goal

abbrev pub invariant-loop-byte : goal.invariant-loop-byte
invariant-loop-byte l = length l.self.bytes.rest.now ≤ length l.initial.self.bytes.rest.now

abbrev pub decreases-loop-byte : goal.decreases-loop-byte
decreases-loop-byte l = length l.self.bytes.rest.now
