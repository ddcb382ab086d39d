-- `fork::fork` meets its contract: no number is left, or the child has the smallest.
use Rattle.rules.proofs.Forking.{fork_full, fork_done}
use Rattle.rules.proofs.fork.fork.Goals.{in-Ok, in-Ok-2}
use Rattle.rules.proofs.fork.fork.Goals as goal

pub returns-in_default : goal.returns-in_default
returns-in_default c = search fork_full

pub returns : goal.returns
returns c =
    elim c.match-find_section.branch [
      | in-Ok w ↦ search (fork_done, w.in-Ok.is, w.at-is)
      | in-Ok-2 w ↦ search (fork_done, w.in-Ok.is, w.at-is)
    ]
