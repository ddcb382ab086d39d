-- `load::load` meets its contract: the work buffer is cleared before its length is tested, and then the script tested.
use Rattle.engine.proofs.Loading.{loaded_no_work, load_refused, script_is_short, loaded}
use Rattle.engine.proofs.load.load.Goals as goal

pub returns-then-work-ne8192 : goal.returns-then-work-ne8192
returns-then-work-ne8192 c = search loaded_no_work

pub returns-in_err-check_script : goal.returns-in_err-check_script
returns-in_err-check_script c = search (load_refused, c.in_err-check_script.ensures)

pub write_first-requires : goal.write_first-requires
write_first-requires c = search (script_is_short, c.in_ok-check_script.ensures)

pub returns : goal.returns
returns c = search (loaded, c.in_ok-check_script.ensures)
