-- Each public function answers only the numbers that 01 gives it (01, "What comes back").
use Prim.Native.Nat.{ℕ, ◌≤◌}
use mathlib.Core.List.{List, [], ◌∷◌}
use mathlib.Core.Path.{◌≡◌}
use native.Mathlib.Omega.{arith}
use lib.Dec.{T}
use Rattle.calculus.specs.Formed.{member}
use Rattle.calculus.specs.Answers.{report_answer}
use Rattle.words.specs.declared.in_use.InUse.{InUse}
use Rattle.image.specs.declared.report.NotValid.{NotValid}
use Rattle.image.specs.Reports.{report_of}
use Rattle.std.specs.Prelude.{Result, Ok, Err}
use Rattle.rules.specs.declared.site.Reason.TheVariants.{Shape, Location}
use Rattle.engine.specs.declared.answers.Stepped.{Stepped}
use Rattle.engine.specs.declared.answers.Stepped.TheVariants.{Moved, Emptied}
use Rattle.engine.specs.declared.answers.StepError.{StepError}
use Rattle.engine.specs.declared.answers.StepError.TheVariants as step
use Rattle.engine.specs.declared.answers.LoadError.{LoadError}
use Rattle.engine.specs.declared.answers.LoadError.TheVariants as load
use Rattle.engine.specs.declared.answers.RunError.{RunError}
use Rattle.engine.specs.declared.answers.RunError.TheVariants as run
use Rattle.engine.specs.Answers.{stepped_number, loaded_number, ran_number}
use Rattle.engine.specs.Promises.{StepPromise, LoadPromise, RunPromise}
use Rattle.typing.specs.declared.CheckError.TheVariants as check
use Rattle.typing.specs.Checks.{Checked, number_of, CheckPromise}

pub step_numbers : (image : List ℕ) (r : ℕ) (out work : List ℕ) (a : Result Stepped StepError) (out' work' : List ℕ)
    → StepPromise image r out work a out' work' → stepped_number a ≤ 9
step_numbers image r out work (Ok (Moved n)) out' work' s = omega arith
step_numbers image r out work (Ok (Emptied n)) out' work' s = omega arith
step_numbers image r out work (Err step.Finished) out' work' s = omega arith
step_numbers image r out work (Err step.Waits) out' work' s = omega arith
step_numbers image r out work (Err (step.Stuck Shape)) out' work' s = omega arith
step_numbers image r out work (Err (step.Stuck Location)) out' work' s = omega arith
step_numbers image r out work (Err step.NotLive) out' work' s = omega arith
step_numbers image r out work (Err step.NoNumber) out' work' s = omega arith
step_numbers image r out work (Err step.NotValid) out' work' s = omega arith
step_numbers image r out work (Err step.NoRoom) out' work' s = omega arith

pub load_numbers : (script out work : List ℕ) (a : Result ℕ LoadError) (out' work' : List ℕ)
    → LoadPromise script out work a out' work' → T (member (loaded_number a) (0 ∷ 9 ∷ 10 ∷ 11 ∷ 12 ∷ []))
unfolding member
load_numbers script out work (Ok n) out' work' s = tt
load_numbers script out work (Err load.NotFormed) out' work' s = tt
load_numbers script out work (Err load.HoldsHandle) out' work' s = tt
load_numbers script out work (Err load.NotClosed) out' work' s = tt
load_numbers script out work (Err load.NoRoom) out' work' s = tt

pub run_numbers : (state : List ℕ) (n : ℕ) (picks answers work : List ℕ) (a : Result ℕ RunError) (state' answers' work' : List ℕ)
    → RunPromise state n picks answers work a state' answers' work' → T (member (ran_number a) (0 ∷ 8 ∷ 9 ∷ []))
unfolding member
run_numbers state n picks answers work (Ok m) state' answers' work' h = tt
run_numbers state n picks answers work (Err run.NotValid) state' answers' work' h = tt
run_numbers state n picks answers work (Err run.NoRoom) state' answers' work' h = tt

pub check_numbers : (script out work : List ℕ) (a : Checked) (out' work' : List ℕ)
    → CheckPromise script out work a out' work'
    → T (member (number_of a) (0 ∷ 9 ∷ 10 ∷ 11 ∷ 12 ∷ 13 ∷ 14 ∷ []))
unfolding member
check_numbers script out work (Ok n) out' work' s = tt
check_numbers script out work (Err check.NoRoom) out' work' s = tt
check_numbers script out work (Err check.NotFormed) out' work' s = tt
check_numbers script out work (Err check.HoldsHandle) out' work' s = tt
check_numbers script out work (Err check.NotClosed) out' work' s = tt
check_numbers script out work (Err check.NoType) out' work' s = tt
check_numbers script out work (Err check.LongType) out' work' s = tt

pub report_numbers : (image : List ℕ) (r : Result InUse NotValid) → report_of r ≡ report_answer image
    → T (member (report_of r).number (0 ∷ 8 ∷ []))
unfolding member
report_numbers image (Ok used) h = tt
report_numbers image (Err e) h = tt
