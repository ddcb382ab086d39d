-- New numbers: the smallest number that is not taken.
use Rattle.std.specs.Prelude.{ℕ, ◌≡◌, Bool, List, Option, Some, None}
use Rattle.std.proofs.Math.Option.{Option as Maybe, none, some}
use Rattle.calculus.specs.States.{State}
use Rattle.calculus.specs.Images.{image, Valid}
use Rattle.calculus.specs.NewNumbers.{smallest, new_location, new_revision}
use Rattle.calculus.specs.Answers.{marks_of}

-- the number, where there is one
abbrev pub as_option : Option ℕ → Maybe ℕ
as_option (Some n) = some n
as_option None = none

-- r is the smallest number that is not among those that are marked
pub record SmallestClear (m : List Bool) (r : Option ℕ) : Type 0 where
  pub free : (n : ℕ) (taken : List ℕ) → m ≡ marks_of n 0 taken → as_option r ≡ smallest n 0 taken

-- the new numbers of the state whose image the words are
pub record NewRevision (s : List ℕ) (r : Option ℕ) : Type 0 where
  pub is : (x : State) → Valid x → s ≡ image x → as_option r ≡ new_revision x

pub record NewLocation (s : List ℕ) (r : Option ℕ) : Type 0 where
  pub is : (x : State) → Valid x → s ≡ image x → as_option r ≡ new_location x
