-- A refusal, any number but 0 and 1, has no length and leaves the out buffer as it was; a refused run leaves every
-- buffer as it was, and a refused report has no mark and the count 0.
use Prim.Native.Nat.{ℕ, ◌≤◌, ◌-◌}
use mathlib.Core.Bool.{Bool, true, false, ◌&&◌}
use mathlib.Core.List.{List, ◌++◌}
use mathlib.Core.Option.{Option, none, some}
use mathlib.Core.Path.{◌≡◌, refl, ap, ◌∙◌}
use native.Mathlib.Omega.{arith}
use lib.Dec.{leb, eqb}
use lib.ListN.{length, replicate, take}
use borrow.Author.Tests.{lt-leb}
use Rattle.calculus.specs.Numbers.{choose}
use Rattle.calculus.specs.States.{State}
use Rattle.calculus.specs.Images.{state_of}
use Rattle.calculus.specs.Answers.{Answer, report_answer, run_refused, ran_from, run_answer}
use Rattle.calculus.specs.Answers as answers
use Rattle.words.specs.declared.in_use.InUse.{InUse}
use Rattle.image.specs.declared.report.NotValid.{NotValid}
use Rattle.image.specs.Reports.{report_of}
use Rattle.std.specs.Prelude.{Result, Ok, Err}
use Rattle.engine.specs.declared.answers.Stepped.{Stepped}
use Rattle.engine.specs.declared.answers.Stepped.TheVariants.{Moved, Emptied}
use Rattle.engine.specs.declared.answers.StepError.{StepError}
use Rattle.engine.specs.declared.answers.LoadError.{LoadError}
use Rattle.engine.specs.declared.answers.RunError.{RunError}
use Rattle.engine.specs.Answers.{stepped_number, stepped_length, loaded_number, loaded_length, ran_number, ran_length}
use Rattle.engine.specs.Promises.{Answers, StepPromise, LoadPromise, RunPromise}
use Rattle.typing.specs.Checks.{Checked, number_of, length_of, CheckPromise}

-- the out buffer, whatever the answer
kept : (a : Answer) (k m : ℕ) (out work o w : List ℕ) → Answers a k m out work o w → 2 ≤ k → o ≡ out
kept a k m out work o w s h =
    s.filled
    ∙ ap (λ b. choose b (a.written ++ replicate (length out - length a.written) 0) out)
    (lt-leb a.number 1 (omega arith))

step_length : (a : Result Stepped StepError) → 2 ≤ stepped_number a → stepped_length a ≡ 0
step_length (Ok (Moved n)) h = absurd (omega arith)
step_length (Ok (Emptied n)) h = absurd (omega arith)
step_length (Err e) h = refl

load_length : (a : Result ℕ LoadError) → 2 ≤ loaded_number a → loaded_length a ≡ 0
load_length (Ok n) h = absurd (omega arith)
load_length (Err e) h = refl

pub step_refused : (image : List ℕ) (r : ℕ) (out work : List ℕ) (a : Result Stepped StepError) (out' work' : List ℕ)
    → StepPromise image r out work a out' work' → 2 ≤ stepped_number a → (stepped_length a ≡ 0) × (out' ≡ out)
step_refused image r out work a out' work' s h =
    (step_length a h, kept _ (stepped_number a) (stepped_length a) out work out' work' s h)

pub load_refused : (script out work : List ℕ) (a : Result ℕ LoadError) (out' work' : List ℕ)
    → LoadPromise script out work a out' work' → 2 ≤ loaded_number a → (loaded_length a ≡ 0) × (out' ≡ out)
load_refused script out work a out' work' s h =
    (load_length a h, kept _ (loaded_number a) (loaded_length a) out work out' work' s h)

check_length : (a : Checked) → 2 ≤ number_of a → length_of a ≡ 0
check_length (Ok n) h = absurd (omega arith)
check_length (Err e) h = refl

pub check_refused : (script out work : List ℕ) (a : Checked) (out' work' : List ℕ)
    → CheckPromise script out work a out' work' → 2 ≤ number_of a → (length_of a ≡ 0) × (out' ≡ out)
check_refused script out work a out' work' s h = (
  check_length a h,
  kept _ (number_of a) (length_of a) out work out' work'
      (record { answered = s.number; measured = s.size; filled = s.written; cleared = s.cleared })
      h,
)

-- what a run that is refused leaves, by the definition
RunKept : List ℕ → List ℕ → List ℕ → answers.Ran → Type 0
RunKept state told work q =
    2 ≤ q.number → (q.length ≡ 0) × (q.state ≡ state) × (q.answers ≡ told) × (q.work ≡ work)

run_kept : (state : List ℕ) (n : ℕ) (picks told work : List ℕ)
    → RunKept state told work (run_answer state n picks told work)
unfolding run_answer RunKept
run_kept state n picks told work =
    sized (eqb (length state) 8192 && (eqb (length work) 8192 && leb (length picks) (length told)))
  where
    read : (o : Option State) → RunKept state told work (ran_from state picks told work o)
    read none h = (refl, refl, refl, refl)
    read (some s) h = absurd (omega arith)

    short : (b : Bool) → RunKept state told work
        (choose b (ran_from state picks told work (state_of (take n state))) (run_refused 8 state told work))
    short true = read (state_of (take n state))
    short false = λ h. (refl, refl, refl, refl)

    sized : (b : Bool) → RunKept state told work
        (choose b
        (choose (leb n 8192) (ran_from state picks told work (state_of (take n state))) (run_refused 8 state told work))
        (run_refused 9 state told work))
    sized true = short (leb n 8192)
    sized false = λ h. (refl, refl, refl, refl)

pub run_refused_lem : (state : List ℕ) (n : ℕ) (picks answers work : List ℕ) (a : Result ℕ RunError) (state' answers' work' : List ℕ)
    → RunPromise state n picks answers work a state' answers' work' → 2 ≤ ran_number a
    → (ran_length a ≡ 0) × (state' ≡ state) × (answers' ≡ answers) × (work' ≡ work)
unfolding RunKept
run_refused_lem state n picks answers work a state' answers' work' h l =
    let (e, f, g, k) = run_kept state n picks answers work (omega arith) in (cc, cc, cc, cc)

pub report_refused : (image : List ℕ) (r : Result InUse NotValid) → report_of r ≡ report_answer image
    → 2 ≤ (report_of r).number
    → ((report_of r).marks ≡ replicate 64 false) × ((report_of r).count ≡ 0)
report_refused image (Ok used) h l = absurd (omega arith)
report_refused image (Err e) h l = (refl, refl)
