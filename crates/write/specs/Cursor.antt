-- What a write through a cursor promises.
use Rattle.std.specs.Prelude.{ℕ, ◌+◌, ◌-◌, min, ◌≡◌, List, length, take, drop}
use Rattle.std.proofs.lemmas.List.Edits.{sets}

-- the words of s from a to b
unfoldable pub part : List ℕ → ℕ → ℕ → List ℕ
part s a b = take (b - a) (drop a s)

-- ws was written into o at `to`, as far as there is room, and r is the cursor after it
pub record Wrote (ws o : List ℕ) (to r : ℕ) (o' : List ℕ) : Type 0 where
  pub at : r ≡ min (to + length ws) (length o + 1)
  pub out : o' ≡ sets o to ws
