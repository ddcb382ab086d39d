-- What one step on a valid image promises: what the calculus does, whatever state the image is of.
use Rattle.std.specs.Prelude.{ℕ, ◌+◌, ◌≡◌, true, List, length, Result}
use Rattle.calculus.specs.States.{State}
use Rattle.calculus.specs.Images.{entries, task_words, image, Valid}
use Rattle.calculus.specs.Steps.{step}
use Rattle.image.specs.Cuts.{before, hits}
use Rattle.rules.specs.declared.site.Moved.{Moved}
use Rattle.rules.specs.declared.site.Refusal.{Refusal}
use Rattle.rules.specs.Work.{Acted}

-- r is live in the state st, and `at` is where its section starts in the image
pub record Section (st : State) (r at : ℕ) : Type 0 where
  pub hit : hits r st ≡ true
  pub here : at ≡ 1 + length (entries task_words (before r st))

-- s is the image of a valid state in which r is live, with its section at `at`
pub record LiveAt (s : List ℕ) (r at : ℕ) : Type 0 where
  pub state : State
  pub valid : Valid state
  pub is : s ≡ image state
  pub section : Section state r at

pub record StepsAt (s : List ℕ) (r at : ℕ) (o : List ℕ) (a : Result Moved Refusal) (o' : List ℕ) : Type 0 where
  pub acts : (st : State) → Valid st → s ≡ image st → Section st r at → Acted (step r st) o a o'

pub record Steps (s : List ℕ) (r : ℕ) (o : List ℕ) (a : Result Moved Refusal) (o' : List ℕ) : Type 0 where
  pub acts : (st : State) → Valid st → s ≡ image st → Acted (step r st) o a o'
