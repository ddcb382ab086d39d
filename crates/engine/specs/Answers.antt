-- The number and the length of each answer.
use Rattle.std.specs.Prelude.{ℕ, Result, Ok, Err}
use Rattle.rules.specs.declared.site.Reason.TheVariants.{Shape, Location}
use Rattle.rules.specs.declared.site.Refusal.{Refusal}
use Rattle.rules.specs.declared.site.Refusal.TheVariants as refusal
use Rattle.words.specs.declared.script.ScriptError.{ScriptError}
use Rattle.words.specs.declared.script.ScriptError.TheVariants as script
use Rattle.engine.specs.declared.answers.Stepped.{Stepped}
use Rattle.engine.specs.declared.answers.Stepped.TheVariants.{Moved, Emptied}
use Rattle.engine.specs.declared.answers.StepError.{StepError}
use Rattle.engine.specs.declared.answers.StepError.TheVariants as step
use Rattle.engine.specs.declared.answers.LoadError.{LoadError}
use Rattle.engine.specs.declared.answers.LoadError.TheVariants as load
use Rattle.engine.specs.declared.answers.RunError.{RunError}
use Rattle.engine.specs.declared.answers.RunError.TheVariants as run

-- a rule's refusal as the step's
abbrev pub step_error : Refusal → StepError
step_error refusal.Finished = step.Finished
step_error refusal.Waits = step.Waits
step_error (refusal.Stuck ρ) = step.Stuck ρ
step_error refusal.NotLive = step.NotLive
step_error refusal.NoNumber = step.NoNumber

-- a script's error as the load's
abbrev pub load_error : ScriptError → LoadError
load_error script.NotFormed = load.NotFormed
load_error script.HoldsHandle = load.HoldsHandle
load_error script.NotClosed = load.NotClosed

abbrev pub stepped_number : Result Stepped StepError → ℕ
stepped_number (Ok (Moved n)) = 0
stepped_number (Ok (Emptied n)) = 1
stepped_number (Err step.Finished) = 2
stepped_number (Err step.Waits) = 3
stepped_number (Err (step.Stuck Shape)) = 4
stepped_number (Err (step.Stuck Location)) = 5
stepped_number (Err step.NotLive) = 6
stepped_number (Err step.NoNumber) = 7
stepped_number (Err step.NotValid) = 8
stepped_number (Err step.NoRoom) = 9

-- the length of the image after it, where it was n before
abbrev pub length_after : ℕ → Result Stepped StepError → ℕ
length_after n (Ok (Moved m)) = m
length_after n (Ok (Emptied m)) = m
length_after n (Err error) = n

-- the words written
abbrev pub stepped_length : Result Stepped StepError → ℕ
stepped_length a = length_after 0 a

abbrev pub loaded_number : Result ℕ LoadError → ℕ
loaded_number (Ok n) = 0
loaded_number (Err load.NoRoom) = 9
loaded_number (Err load.NotFormed) = 10
loaded_number (Err load.HoldsHandle) = 11
loaded_number (Err load.NotClosed) = 12

abbrev pub loaded_length : Result ℕ LoadError → ℕ
loaded_length (Ok n) = n
loaded_length (Err error) = 0

abbrev pub ran_number : Result ℕ RunError → ℕ
ran_number (Ok n) = 0
ran_number (Err run.NotValid) = 8
ran_number (Err run.NoRoom) = 9

abbrev pub ran_length : Result ℕ RunError → ℕ
ran_length (Ok n) = n
ran_length (Err error) = 0
