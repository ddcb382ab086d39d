-- Words that stand at a position, and where an expression that stands there ends.
use Rattle.std.specs.Prelude.{ℕ, ◌+◌, ◌≤◌, ◌<◌, ◌≡◌, List, ◌++◌, length, drop}
use Rattle.calculus.specs.Expressions.{Expression}
use Rattle.calculus.specs.Words.{words}
use Rattle.calculus.specs.Formed.{Formed}

-- ws stands in s at `at`
pub record Stands (s : List ℕ) (at : ℕ) (ws : List ℕ) : Type 0 where
  pub rest : List ℕ
  pub eq : drop at s ≡ ws ++ rest

-- r is in s and is where the expression that stands at `at` ends
pub record EndsAt (s : List ℕ) (at r : ℕ) : Type 0 where
  pub high : r ≤ length s
  pub low : at < length s → at < r
  pub from : at ≤ length s → at ≤ r
  pub ends : (e : Expression) → Formed e → Stands s at (words e) → r ≡ at + length (words e)
