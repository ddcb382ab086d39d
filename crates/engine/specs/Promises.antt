-- The promises of step, load and run: the answer and every lent buffer after it, for every input.
use Rattle.std.specs.Prelude.{ℕ, ◌≡◌, List, length, Result}
use Rattle.calculus.specs.Answers.{Answer, out_after, work_after, step_answer, load_answer, run_answer}
use Rattle.engine.specs.declared.answers.Stepped.{Stepped}
use Rattle.engine.specs.declared.answers.StepError.{StepError}
use Rattle.engine.specs.declared.answers.LoadError.{LoadError}
use Rattle.engine.specs.declared.answers.RunError.{RunError}
use Rattle.engine.specs.Answers.{stepped_number, stepped_length, loaded_number, loaded_length, ran_number, ran_length}

-- an answer's number and length, and the two buffers, are those of a
pub record Answers (a : Answer) (number written : ℕ) (out work out' work' : List ℕ) : Type 0 where
  pub answered : number ≡ a.number
  pub measured : written ≡ length a.written
  pub filled : out' ≡ out_after out a
  pub cleared : work' ≡ work_after work

-- step on an image, a pick, an out buffer and a work buffer
abbrev pub StepPromise : List ℕ → ℕ → List ℕ → List ℕ → Result Stepped StepError → List ℕ → List ℕ → Type 0
StepPromise image r out work a out' work' =
    Answers (step_answer image r (length out) (length work)) (stepped_number a) (stepped_length a) out work out' work'

-- load of a script into an out buffer, with a work buffer
abbrev pub LoadPromise : List ℕ → List ℕ → List ℕ → Result ℕ LoadError → List ℕ → List ℕ → Type 0
LoadPromise script out work a out' work' =
    Answers (load_answer script (length out) (length work)) (loaded_number a) (loaded_length a) out work out' work'

-- a run on a state buffer whose first n words are the image, picks, an answers buffer, a work buffer
pub record RunPromise
    (state : List ℕ) (n : ℕ) (picks answers work : List ℕ) (a : Result ℕ RunError) (state' answers' work' : List ℕ) : Type 0 where
  pub answered : ran_number a ≡ (run_answer state n picks answers work).number
  pub measured : ran_length a ≡ (run_answer state n picks answers work).length
  pub left : state' ≡ (run_answer state n picks answers work).state
  pub told : answers' ≡ (run_answer state n picks answers work).answers
  pub cleared : work' ≡ (run_answer state n picks answers work).work
