-- Demand 2: save for want of room or numbers, a task steps exactly when the calculus lets it, and the state after is
-- its.
use Rattle.std.specs.Prelude.{ℕ, ◌-◌, ◌≤◌, ◌<◌, ◌≡◌, ◌↔◌, List, ◌++◌, length, replicate}
use Rattle.std.proofs.Math.Option.{none}
use Rattle.calculus.specs.Maps.{get}
use Rattle.calculus.specs.States.{State}
use Rattle.calculus.specs.Images.{image}
use Rattle.calculus.specs.Rules.{Step}
use Rattle.calculus.specs.Conditions.{AtWork, Finished, NoRedex, Unseen, Numberless, WaitsFor}
use Rattle.calculus.specs.Answers.{image_room, picked_state}

-- there is room for the state's image in an out buffer
abbrev pub Room : List ℕ → State → Type 0
Room out t = length (image t) ≤ image_room (length out)

-- what step answers (its number, and the out buffer after it) to a pick r on the image of the valid state s
pub record StepByRules (s : State) (r : ℕ) (out : List ℕ) (number : ℕ) (out' : List ℕ) : Type 0 where
  -- a step of the rules that has room is taken, and the words after are the image of its state, then zeros
  pub taken : (t : State) → Step r s t → Room out t
      → (number ≤ 1) × (out' ≡ image t ++ replicate (length out - length (image t)) 0)
  -- and only such a step
  pub only : number ≤ 1 → (t : State) × Step r s t × Room out t
  -- each refusal exactly under its condition
  pub finished : (number ≡ 2) ↔ Finished r s
  pub waits : (number ≡ 3) ↔ WaitsFor r s
  pub stuck_by_shape : (number ≡ 4) ↔ NoRedex r s
  pub stuck_by_location : (number ≡ 5) ↔ AtWork r s Unseen
  pub not_live : (number ≡ 6) ↔ (get r s ≡ none)
  pub no_number : (number ≡ 7) ↔ AtWork r s (Numberless s)
  pub no_room : (number ≡ 9) ↔ ((t : State) × Step r s t × (image_room (length out) < length (image t)))

-- a pick of a run: a step of the rules that has room in 8,192 words, or refused and the state as it was
pub record PickByRules (s : State) (r number : ℕ) : Type 0 where
  pub moves : (t : State) → Step r s t → length (image t) ≤ 8192 → (number ≤ 1) × (picked_state s r ≡ t)
  pub refused : 2 ≤ number → picked_state s r ≡ s
  pub only : number ≤ 1 → (t : State) × Step r s t × (length (image t) ≤ 8192)
