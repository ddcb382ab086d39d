-- What filling a buffer with a result promises.
use Rattle.std.specs.Prelude.{ℕ, ◌-◌, ◌≡◌, List, ◌++◌, length, replicate}

-- the words, then zeros
pub record Filled (words o o' : List ℕ) : Type 0 where
  pub holds : o' ≡ words ++ replicate (length o - length words) 0
