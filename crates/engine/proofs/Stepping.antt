-- One step: the order of its refusals, and what is in the buffers after it.
use Prim.Native.Nat.{ℕ}
use mathlib.Core.Bool.{Bool, true, false, not}
use mathlib.Core.List.{List}
use mathlib.Core.Option.{Option, none, some}
use mathlib.Core.Path.{subst as along, ◌≡◌, refl, sym, ap, ◌∙◌}
use native.Mathlib.Omega.{arith}
use lib.ListN.{length, replicate}
use borrow.Author.Tests.{eq-eqb, ne_eqb, not-true, not-false}
use Rattle.calculus.specs.Numbers.{choose}
use Rattle.calculus.specs.States.{State}
use Rattle.calculus.specs.Images.{image as image_of, state_of, Valid, ValidImage}
use Rattle.calculus.specs.Steps.{step}
use Rattle.calculus.specs.Answers.{Answer, refused, with_work, stepped_from, step_answer, outcome_answer}
use Rattle.calculus.proofs.Images.{read_is_image, read_valid_image}
use Rattle.words.specs.Walks.{is_there}
use Rattle.std.specs.Prelude.{Result, Ok, Err, IsErrAnd}
use Rattle.rules.specs.declared.site.Moved.{Moved}
use Rattle.rules.specs.declared.site.Refusal.{Refusal}
use Rattle.engine.specs.declared.answers.Stepped.{Stepped}
use Rattle.engine.specs.declared.answers.StepError.{StepError}
use Rattle.engine.specs.declared.answers.StepError.TheVariants.{NotValid, NoRoom}
use Rattle.engine.specs.Answers.{step_error, stepped_number, stepped_length}
use Rattle.words.specs.Buffers.{Cleared}
use Rattle.rules.specs.Advancing.{Steps}
use Rattle.engine.specs.Parts.{Told, Delivers, StepTold}
use Rattle.engine.specs.Promises.{StepPromise}
use Rattle.engine.proofs.Zeros.{cleared_all}
use Rattle.engine.proofs.Telling.{told_kept}
use Rattle.engine.proofs.Delivering.{err_is, no_next, answer_refused}

-- what a test for a reading tells of it
pub there : {A : Type 0} (o : Option A) → is_there o ≡ true → (a : A) × (o ≡ some a)
there none e = let z : ◌≡◌ {A = ℕ} 0 1 = cc in absurd (omega arith)
there (some a) e = (a, refl)

pub not_there : {A : Type 0} (o : Option A) → is_there o ≡ false → o ≡ none
not_there none e = refl
not_there (some a) e = let z : ◌≡◌ {A = ℕ} 0 1 = cc in absurd (omega arith)

pub valid_here : (ws : List ℕ) (v : Bool) → v ≡ is_there (state_of ws) → not v ≡ false → ValidImage ws
valid_here ws v e f = let (s, g) = there (state_of ws) (sym e ∙ not-false v f) in read_valid_image ws s g

-- with a work buffer of the right length
pub right_work : (work : ℕ) (a : Answer) → work ≡ 8192 → with_work work a ≡ a
right_work work a e = ap (λ b. choose b a (refused 9)) (eq-eqb work 8192 e)

pub wrong_work : (work : ℕ) (a : Answer) → (work ≡ 8192 → ⊥) → with_work work a ≡ refused 9
wrong_work work a h = ap (λ b. choose b a (refused 9)) (ne_eqb work 8192 h)

pub step_no_work : (image : List ℕ) (r : ℕ) (out work : List ℕ) → (length work ≡ 8192 → ⊥)
    → StepTold image r out work (Err NoRoom) out
unfolding step_answer
step_no_work image r out work h =
    record {
      told = told_kept (step_answer image r (length out) (length work)) 9 out
          (wrong_work (length work) (stepped_from r (length out) (state_of image)) h)
          (omega arith);
    }

pub step_not_valid : (image : List ℕ) (r : ℕ) (out work : List ℕ) (v : Bool) → length work ≡ 8192
    → v ≡ is_there (state_of image) → not v ≡ true → StepTold image r out work (Err NotValid) out
unfolding step_answer
step_not_valid image r out work v h e f =
    record {
      told = told_kept (step_answer image r (length out) (length work)) 8 out
          (right_work (length work) (stepped_from r (length out) (state_of image)) h
          ∙ ap (stepped_from r (length out)) (not_there (state_of image) (sym e ∙ not-true v f)))
          (omega arith);
    }

-- an image that passed the test
module _ (image : List ℕ) (r : ℕ) (out work : List ℕ) (v : Bool) (size : length work ≡ 8192)
    (told : v ≡ is_there (state_of image)) (passed : not v ≡ false) where
  answer_is : (st : State) → state_of image ≡ some st
      → step_answer image r (length out) (length work) ≡ outcome_answer (length out) (step r st)
  unfolding step_answer
  answer_is st g =
      right_work (length work) (stepped_from r (length out) (state_of image)) size
      ∙ ap (stepped_from r (length out)) g

  -- what the step came to, told of the state that the image is of
  told_of : (s : Result Stepped StepError) (out' : List ℕ) → ((st : State) → Valid st → image ≡ image_of st
      → Told (outcome_answer (length out) (step r st)) (stepped_number s) (stepped_length s) out out')
      → StepTold image r out work s out'
  told_of s out' h =
      let (st, g) = there (state_of image) (sym told ∙ not-false v passed) in
      let (is, valid) = read_is_image image st g in
      record {
        told = along
            (λ (x : Answer). Told x (stepped_number s) (stepped_length s) out out')
            (sym (answer_is st g))
            (h st valid (sym is));
      }

  pub step_told : (m : Moved) (work' : List ℕ) (s : Result Stepped StepError) (out' : List ℕ)
      → Steps image r work (Ok m) work' → Delivers m work' out s out' → StepTold image r out work s out'
  step_told m work' s out' acts d =
      told_of s out' (λ st valid is. d.tells (step r st) work size (acts.acts st valid is))

  pub step_kept : (e : Refusal) (work' : List ℕ) → Steps image r work (Err e) work' → (s : Result Stepped StepError)
      → IsErrAnd s (λ x. x ≡ step_error e) → StepTold image r out work s out
  step_kept e work' acts s i =
      rw (err_is s i)
      (told_of (Err (step_error e)) out (λ st valid is.
      let n = no_next (step r st) work e work' (acts.acts st valid is) in
      told_kept (outcome_answer (length out) (step r st)) (stepped_number (Err (step_error e))) out
      (answer_refused (length out) (step r st) work e work' n)
      (let i = n.number in let l = n.low in omega arith)))

pub stepped : (image : List ℕ) (r : ℕ) (out work : List ℕ) (s : Result Stepped StepError) (out' work₁ work₂ : List ℕ)
    → StepTold image r out work s out' → length work₁ ≡ length work → Cleared work₁ 0 work₂
    → StepPromise image r out work s out' work₂
stepped image r out work s out' work₁ work₂ t l c =
    record {
      answered = t.told.answered;
      measured = t.told.measured;
      filled = t.told.filled;
      cleared = cleared_all c ∙ ap (λ k. replicate k 0) l;
    }
