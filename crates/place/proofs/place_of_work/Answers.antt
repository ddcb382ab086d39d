-- `place_of_work` meets its contract: each turn goes forward, and the measure is what is left.
use Rattle.place.proofs.Searching.{enter, stop_redex, stop_stuck}
use Rattle.place.proofs.place_of_work.Goals as goal

pub loop-q-preserved : goal.loop-q-preserved
loop-q-preserved c = search enter

pub returns-in-IsRedex : goal.returns-in-IsRedex
returns-in-IsRedex c = search stop_redex

pub returns-in-IsStuck : goal.returns-in-IsStuck
returns-in-IsStuck c = search stop_stuck
