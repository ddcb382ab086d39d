-- `valid::map_end` meets its contract: one law for each way through it.
use Rattle.image.proofs.Walking.{map_out, map_many, map_in}
use Rattle.image.proofs.valid.map_end.Goals as goal

pub returns-in_err-n : goal.returns-in_err-n
returns-in_err-n g c = rw c.from_residual.ensures (search (map_out, c.in_err-n.ensures.lookup.3))

pub returns-then-LARGEST-n : goal.returns-then-LARGEST-n
returns-then-LARGEST-n g c = let t = c.in_ok-n.ensures.lookup in search (map_many, t.3.0, t.3.1 0)

pub returns : goal.returns
returns g c = let t = c.in_ok-n.ensures.lookup in search (map_in, t.3.0, t.3.1 0)
