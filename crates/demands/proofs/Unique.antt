-- Two results that meet a public function's promise for the same input are equal, the lent buffers too.
use Prim.Native.Nat.{ℕ}
use mathlib.Core.List.{List, [], ◌∷◌}
use mathlib.Core.Path.{◌≡◌, refl, sym, ap, ◌∙◌, subst}
use mathlib.Core.Bool.{Bool}
use native.Mathlib.Nat.{ℕ_set}
use native.Mathlib.Omega.{arith}
use lib.Dec.{eqb}
use lib.ListN.{get_or}
use Rattle.calculus.specs.Numbers.{choose}
use Rattle.calculus.specs.Answers.{Report, tally, report_answer}
use Rattle.words.specs.declared.in_use.InUse.{InUse}
use Rattle.image.specs.declared.report.NotValid.{NotValid}
use Rattle.image.specs.Reports.{report_of}
use Rattle.std.specs.Prelude.{Result, Ok, Err}
use Rattle.rules.specs.declared.site.Reason.TheVariants.{Shape, Location}
use Rattle.engine.specs.declared.answers.Stepped.{Stepped}
use Rattle.engine.specs.declared.answers.Stepped.TheVariants.{Moved, Emptied}
use Rattle.engine.specs.declared.answers.StepError.{StepError}
use Rattle.engine.specs.declared.answers.StepError.TheVariants as step
use Rattle.engine.specs.declared.answers.LoadError.{LoadError}
use Rattle.engine.specs.declared.answers.LoadError.TheVariants as load
use Rattle.engine.specs.declared.answers.RunError.{RunError}
use Rattle.engine.specs.declared.answers.RunError.TheVariants as run
use Rattle.engine.specs.Answers.{stepped_number, stepped_length, loaded_number, loaded_length, ran_number, ran_length}
use Rattle.engine.specs.Promises.{StepPromise, LoadPromise, RunPromise}

-- the answer of a number and a length
abbrev stepped_of : ℕ → ℕ → Result Stepped StepError
stepped_of k n =
    get_or
    (Ok (Moved n) ∷ Ok (Emptied n) ∷ Err step.Finished ∷ Err step.Waits ∷ Err (step.Stuck Shape)
    ∷ Err (step.Stuck Location) ∷ Err step.NotLive ∷ Err step.NoNumber ∷ Err step.NotValid ∷ [])
    k
    (Err step.NoRoom)

abbrev loaded_of : ℕ → ℕ → Result ℕ LoadError
loaded_of k n =
    choose (eqb k 0) (Ok n)
    (choose (eqb k 10) (Err load.NotFormed)
    (choose (eqb k 11) (Err load.HoldsHandle)
    (choose (eqb k 12) (Err load.NotClosed) (Err load.NoRoom))))

abbrev ran_of : ℕ → ℕ → Result ℕ RunError
ran_of k n = choose (eqb k 0) (Ok n) (choose (eqb k 8) (Err run.NotValid) (Err run.NoRoom))

stepped_back : (a : Result Stepped StepError) → stepped_of (stepped_number a) (stepped_length a) ≡ a
stepped_back (Ok (Moved n)) = refl
stepped_back (Ok (Emptied n)) = refl
stepped_back (Err step.Finished) = refl
stepped_back (Err step.Waits) = refl
stepped_back (Err (step.Stuck Shape)) = refl
stepped_back (Err (step.Stuck Location)) = refl
stepped_back (Err step.NotLive) = refl
stepped_back (Err step.NoNumber) = refl
stepped_back (Err step.NotValid) = refl
stepped_back (Err step.NoRoom) = refl

loaded_back : (a : Result ℕ LoadError) → loaded_of (loaded_number a) (loaded_length a) ≡ a
loaded_back (Ok n) = refl
loaded_back (Err load.NotFormed) = refl
loaded_back (Err load.HoldsHandle) = refl
loaded_back (Err load.NotClosed) = refl
loaded_back (Err load.NoRoom) = refl

ran_back : (a : Result ℕ RunError) → ran_of (ran_number a) (ran_length a) ≡ a
ran_back (Ok n) = refl
ran_back (Err run.NotValid) = refl
ran_back (Err run.NoRoom) = refl

-- so answers of one number and one length are one answer
same : {A : Type 0} (of : ℕ → ℕ → A) (a b : A) (k l m n : ℕ) → of k m ≡ a → of l n ≡ b → k ≡ l → m ≡ n → a ≡ b
same of a b k l m n p q e f = cc

pub step_unique : (image : List ℕ) (r : ℕ) (out work : List ℕ) (a₁ a₂ : Result Stepped StepError) (out₁ out₂ work₁ work₂ : List ℕ)
    → StepPromise image r out work a₁ out₁ work₁ → StepPromise image r out work a₂ out₂ work₂
    → (a₁ ≡ a₂) × (out₁ ≡ out₂) × (work₁ ≡ work₂)
step_unique image r out work a₁ a₂ out₁ out₂ work₁ work₂ s t = (
  same stepped_of a₁ a₂ (stepped_number a₁) (stepped_number a₂) (stepped_length a₁) (stepped_length a₂)
      (stepped_back a₁) (stepped_back a₂) (cc) (cc),
  cc,
  cc,
)

pub load_unique : (script out work : List ℕ) (a₁ a₂ : Result ℕ LoadError) (out₁ out₂ work₁ work₂ : List ℕ)
    → LoadPromise script out work a₁ out₁ work₁ → LoadPromise script out work a₂ out₂ work₂
    → (a₁ ≡ a₂) × (out₁ ≡ out₂) × (work₁ ≡ work₂)
load_unique script out work a₁ a₂ out₁ out₂ work₁ work₂ s t = (
  same loaded_of a₁ a₂ (loaded_number a₁) (loaded_number a₂) (loaded_length a₁) (loaded_length a₂)
      (loaded_back a₁) (loaded_back a₂) (cc) (cc),
  cc,
  cc,
)

pub run_unique : (state : List ℕ) (n : ℕ) (picks answers work : List ℕ) (a₁ a₂ : Result ℕ RunError)
    (state₁ state₂ answers₁ answers₂ work₁ work₂ : List ℕ)
    → RunPromise state n picks answers work a₁ state₁ answers₁ work₁
    → RunPromise state n picks answers work a₂ state₂ answers₂ work₂
    → (a₁ ≡ a₂) × (state₁ ≡ state₂) × (answers₁ ≡ answers₂) × (work₁ ≡ work₂)
run_unique state n picks answers work a₁ a₂ state₁ state₂ answers₁ answers₂ work₁ work₂ s t = (
  same ran_of a₁ a₂ (ran_number a₁) (ran_number a₂) (ran_length a₁) (ran_length a₂)
      (ran_back a₁) (ran_back a₂) (cc) (cc),
  cc,
  cc,
  cc,
)

-- marks with their count, whatever proves that it is their count
counted_alike : (m n : List Bool) (i j : ℕ) (p : i ≡ tally m) (q : j ≡ tally n) → m ≡ n → i ≡ j
    → ◌≡◌ {A = InUse} (record { marks = m; count = i; counted = p }) (record { marks = n; count = j; counted = q })
counted_alike m n i j p q e f =
    subst
    (λ n. (j : ℕ) (q : j ≡ tally n) → i ≡ j
    → ◌≡◌ {A = InUse} (record { marks = m; count = i; counted = p }) (record { marks = n; count = j; counted = q }))
    e
    (λ j q f.
    subst
    (λ j. (q : j ≡ tally m)
    → ◌≡◌ {A = InUse} (record { marks = m; count = i; counted = p }) (record { marks = m; count = j; counted = q }))
    f
    (λ q. ap (λ r. record { marks = m; count = i; counted = r }) (ℕ_set i (tally m) p q))
    q)
    j
    q
    f

pub report_unique : (image : List ℕ) (r₁ r₂ : Result InUse NotValid)
    → report_of r₁ ≡ report_answer image → report_of r₂ ≡ report_answer image → r₁ ≡ r₂
report_unique image r₁ r₂ s t = same_report r₁ r₂ (s ∙ sym t)
  where
    same_report : (r₁ r₂ : Result InUse NotValid) → report_of r₁ ≡ report_of r₂ → r₁ ≡ r₂
    same_report (Ok u) (Ok v) e =
        ap Ok
        (counted_alike u.marks v.marks u.count v.count u.counted v.counted
        (ap (λ (q : Report). q.marks) e) (ap (λ (q : Report). q.count) e))
    same_report (Ok u) (Err k) e = let z = ap (λ (q : Report). q.number) e in absurd (omega arith)
    same_report (Err k) (Ok u) e = let z = ap (λ (q : Report). q.number) e in absurd (omega arith)
    same_report (Err j) (Err k) e = refl
