-- `parts::skip` meets its contract: the entries still to be passed stand at `p`.
use Rattle.image.proofs.Sections.{skip_start, skip_done, skip_out, skip_next}
use Rattle.image.proofs.parts.skip.Goals as goal
use Rattle.image.proofs.parts.skip.Goals.{else-loop-test, then-loop-test+then-s-p}

pub loop-init : goal.loop-init
loop-init c = search skip_start

pub loop-preserved : goal.loop-preserved
loop-preserved c = search skip_next

pub returns : goal.returns
returns c =
    elim c.loop-test.branch [
      | else-loop-test w ↦ search skip_done
      | then-loop-test+then-s-p w ↦ search skip_out
    ]
