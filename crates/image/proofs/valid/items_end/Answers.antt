-- `valid::items_end` meets its contract: the items from `p` on are still to be read.
use Rattle.image.proofs.Walking.{walk_start, walk_end, walk_out}
use Rattle.image.proofs.Walking.{walk_low, walk_high, walk_broken, walk_turn}
use Rattle.image.proofs.valid.items_end.Goals as goal
use Rattle.image.proofs.valid.items_end.Goals.{then-key-low-via-then-key-low, then-key-low-via-else-key-low+then-largest-key}

pub loop-init : goal.loop-init
loop-init g c = search walk_start

pub returns-in_err-key : goal.returns-in_err-key
returns-in_err-key g c = rw c.from_residual.ensures (search (walk_out, c.in_err-key.ensures.lookup.3))

pub returns-then-key-low : goal.returns-then-key-low
returns-then-key-low g c =
    let t = c.in_ok-key.ensures.lookup in
    elim c.then-key-low.branch [
      | then-key-low-via-then-key-low w ↦ search (walk_low, t.3.0, t.3.1 0)
      | then-key-low-via-else-key-low+then-largest-key w ↦ search (walk_high, t.3.0, t.3.1 0)
    ]

pub returns-in_err-p : goal.returns-in_err-p
returns-in_err-p g c =
    let t = c.in_ok-key.ensures.lookup in
    rw c.from_residual-in_err-p.ensures (search (walk_broken, c.in_err-p.ensures, t.3.0, t.3.1 0))

pub loop-preserved : goal.loop-preserved
loop-preserved g c =
    let t = c.in_ok-key.ensures.lookup in
    search (walk_turn, c.in_ok-p.ensures, t.3.0, t.3.1 0)

pub returns : goal.returns
returns g c = search walk_end
