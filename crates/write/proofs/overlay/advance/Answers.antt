-- `overlay::advance` meets its contract: a law for each entry that may be next.
use Rattle.write.proofs.Merging.{turn_of, turn_first, turn_second, turn_both}
use Rattle.write.proofs.overlay.advance.Goals as goal
use Rattle.write.proofs.overlay.advance.Goals.{in-Less, in-Greater, in-Equal}

pub returns : goal.returns
returns c =
    elim c.match-next_of.branch [
      | in-Less w ↦ search (turn_of, turn_first, w.in-Less.ensures)
      | in-Greater w ↦ search (turn_of, turn_second, w.in-Greater.ensures)
      | in-Equal w ↦ search (turn_of, turn_both, w.in-Equal.ensures)
    ]
