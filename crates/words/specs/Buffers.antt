-- What clearing a buffer promises.
use Rattle.std.specs.Prelude.{ℕ, ◌-◌, ◌≡◌, List, ◌++◌, length, take, replicate}

-- zeros from `from` on
pub record Cleared (o : List ℕ) (from : ℕ) (o' : List ℕ) : Type 0 where
  pub zeros : o' ≡ take from o ++ replicate (length o - from) 0
