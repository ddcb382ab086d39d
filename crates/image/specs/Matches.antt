-- A walk over words that matches a reader of calculus: it ends where the reader stops, or both refuse.
use Rattle.std.specs.Prelude.{ℕ, ◌≤◌, ◌≡◌, List, length, drop, Option, Some, None}
use Rattle.std.proofs.Math.Option.{Option as Maybe, none, some}
use Rattle.calculus.specs.Maps.{Map}
use Rattle.calculus.specs.Reading.{Reader}
use Rattle.calculus.specs.Images.{read_entries, read_map}

abbrev pub Matches : {A : Type 0} → List ℕ → Maybe (A × List ℕ) → Option ℕ → Type 0
Matches s none None = Unit {0}
Matches s none (Some e) = ⊥
Matches s (some p) None = ⊥
Matches s (some p) (Some e) = (p.1 ≡ drop e s) × (e ≤ length s)

-- the walk from `at` on, against a reader as deep as there are words
pub record Matched {A : Type 0} (read : ℕ → Reader A) (s : List ℕ) (at : ℕ) (w : Option ℕ) : Type 0 where
  pub matches : Matches s (read (length s) (drop at s)) w

-- n entries by rising key, none over `top`; and such entries after their count, which is at most `most`
unfoldable pub list_of : {A : Type 0} → (ℕ → Reader A) → ℕ → ℕ → ℕ → Reader (Map A)
list_of read top n depth ws = read_entries (read depth) top n 0 ws

unfoldable pub map_of : {A : Type 0} → (ℕ → Reader A) → ℕ → ℕ → ℕ → Reader (Map A)
map_of read most top depth ws = read_map (read depth) most top ws
