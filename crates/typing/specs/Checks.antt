-- The check's answer (01, "What comes back" and "The check"): the number and the length of each case, and the promise.
use Rattle.std.specs.Prelude.{ℕ, List, ◌≡◌, length, Result, Ok, Err}
use Rattle.typing.specs.declared.CheckError.{CheckError}
use Rattle.typing.specs.declared.CheckError.TheVariants.{NoRoom, NotFormed, HoldsHandle, NotClosed, NoType, LongType}
use Rattle.words.specs.declared.script.ScriptError.{ScriptError}
use Rattle.words.specs.declared.script.ScriptError.TheVariants.{NotFormed as NotFormedScript}
use Rattle.words.specs.declared.script.ScriptError.TheVariants.{HoldsHandle as HoldsHandleScript}
use Rattle.words.specs.declared.script.ScriptError.TheVariants.{NotClosed as NotClosedScript}
use Rattle.calculus.specs.Answers.{check_answer, out_after, work_after}

-- what the check answers: the length of the type that it wrote, or why it wrote none
abbrev pub Checked : Type 0
Checked = Result ℕ CheckError

-- the numbers of the refusals
abbrev pub error_number : CheckError → ℕ
error_number NoRoom = 9
error_number NotFormed = 10
error_number HoldsHandle = 11
error_number NotClosed = 12
error_number NoType = 13
error_number LongType = 14

-- the number of an answer
abbrev pub number_of : Checked → ℕ
number_of (Ok n) = 0
number_of (Err e) = error_number e

-- the length of what it wrote
abbrev pub length_of : Checked → ℕ
length_of (Ok n) = n
length_of (Err e) = 0

-- why words are no script, as the check answers it
abbrev pub of_script : ScriptError → CheckError
of_script NotFormedScript = NotFormed
of_script HoldsHandleScript = HoldsHandle
of_script NotClosedScript = NotClosed

-- the promise: the answer, and what is in the out buffer and in the work buffer after it
pub record CheckPromise (ws out work : List ℕ) (r : Checked) (out' work' : List ℕ) : Type 0 where
  pub number : number_of r ≡ (check_answer ws (length out) (length work)).number
  pub size : length_of r ≡ length (check_answer ws (length out) (length work)).written
  pub written : out' ≡ out_after out (check_answer ws (length out) (length work))
  pub cleared : work' ≡ work_after work
