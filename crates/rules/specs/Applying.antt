-- Where a type that stands at a position ends.
use Rattle.std.specs.Prelude.{ℕ, ◌+◌, ◌≤◌, ◌≡◌, List, length}
use Rattle.calculus.specs.Types.{ScriptType}
use Rattle.calculus.specs.Words.{type_words}
use Rattle.image.specs.Standing.{Stands}

-- r is in s and is where the type that stands at `at` ends
pub record TypeEnds (s : List ℕ) (at r : ℕ) : Type 0 where
  pub high : r ≤ length s
  pub ends : (A : ScriptType) → Stands s at (type_words A) → r ≡ at + length (type_words A)
