-- What the parts of step, load and run promise: an answer told, a step delivered, a pick tried, all picks tried.
use Rattle.std.specs.Prelude.{ℕ, ◌≤◌, ◌≡◌, List, ◌∷◌, ◌++◌, length, take, drop, Result, Ok}
use Rattle.calculus.specs.States.{State}
use Rattle.calculus.specs.Images.{image, Valid, ValidImage}
use Rattle.calculus.specs.Steps.{Outcome, step}
use Rattle.calculus.specs.Answers.{Answer, answer, out_after, within, image_room, outcome_answer, step_answer}
use Rattle.calculus.specs.Answers.{picked_state, last_state, pick_numbers}
use Rattle.rules.specs.declared.site.Moved.{Moved}
use Rattle.rules.specs.Work.{Acted}
use Rattle.engine.specs.declared.answers.Stepped.{Stepped}
use Rattle.engine.specs.declared.answers.StepError.{StepError}
use Rattle.engine.specs.declared.answers.LoadError.{LoadError}
use Rattle.engine.specs.Answers.{stepped_number, stepped_length, length_after, loaded_number, loaded_length}

-- an answer's number and length, and the out buffer, are those of a
pub record Told (a : Answer) (number written : ℕ) (out out' : List ℕ) : Type 0 where
  pub answered : number ≡ a.number
  pub measured : written ≡ length a.written
  pub filled : out' ≡ out_after out a

-- the answer to whatever a step came to that moved so and left the words of the work buffer
pub record Delivers (moved : Moved) (work out : List ℕ) (s : Result Stepped StepError) (out' : List ℕ) : Type 0 where
  pub tells : (o : Outcome) (before : List ℕ) → length before ≡ 8192 → Acted o before (Ok moved) work
      → Told (outcome_answer (length out) o) (stepped_number s) (stepped_length s) out out'

pub record StepTold (image : List ℕ) (r : ℕ) (out work : List ℕ) (s : Result Stepped StepError) (out' : List ℕ) : Type 0 where
  pub told : Told (step_answer image r (length out) (length work)) (stepped_number s) (stepped_length s) out out'

-- the image of the script's first state, as far as there is room
pub record FirstTold (script out : List ℕ) (s : Result ℕ LoadError) (out' : List ℕ) : Type 0 where
  pub told : Told (within (image_room (length out)) (answer 0 (1 ∷ 0 ∷ 0 ∷ 0 ∷ script)))
      (loaded_number s) (loaded_length s) out out'

-- the first n words of the state buffer are the image of the valid state st
pub record Holds (state : List ℕ) (n : ℕ) (st : State) : Type 0 where
  pub valid : Valid st
  pub shown : take n state ≡ image st
  pub short : n ≤ length state

-- the buffers of a run have their lengths, and the first n words of the state buffer are a valid image
pub record Ready (state : List ℕ) (n : ℕ) (work : List ℕ) : Type 0 where
  pub image : ValidImage (take n state)
  pub short : n ≤ 8192
  pub room : length state ≡ 8192
  pub size : length work ≡ 8192

-- and there is a place for each pick's answer
pub record ReadyFor (state : List ℕ) (n : ℕ) (picks answers work : List ℕ) : Type 0 where
  pub ready : Ready state n work
  pub enough : length picks ≤ length answers

-- one pick: its answer's number, and what the state buffer holds after it
pub record Tries
    (state : List ℕ) (n r : ℕ) (p : Result Stepped StepError) (state' work' : List ℕ) : Type 0 where
  pub number : (st : State) → Holds state n st → stepped_number p ≡ (outcome_answer 8192 (step r st)).number
  pub holds : (st : State) → Holds state n st → Holds state' (length_after n p) (picked_state st r)
  pub ready : Ready state' (length_after n p) work'

-- every pick in turn
pub record Tried
    (state : List ℕ) (n : ℕ) (picks answers state' : List ℕ) (n' : ℕ) (answers' work' : List ℕ) : Type 0 where
  pub holds : (st : State) → Holds state n st → Holds state' n' (last_state st picks)
  pub told : (st : State) → Holds state n st → answers' ≡ pick_numbers st picks ++ drop (length picks) answers
  pub ready : Ready state' n' work'
