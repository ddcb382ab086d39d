-- Stores (01, "State": a store maps locations to values), and what assign writes in one (01, "One step").
use Rattle.std.specs.Prelude.{ℕ}
use Rattle.std.proofs.Math.Option.{Option, some}
use Rattle.calculus.specs.Options.{◌▸◌}
use Rattle.calculus.specs.Maps.{Map, get}
use Rattle.calculus.specs.Expressions.{Expression, One, ref}

-- what a store holds at a location
pub data Cell : Type 0 where
  plain : Expression → Cell

abbrev pub content : Cell → Expression
content (plain v) = v

-- the operator that makes such a cell of its value
abbrev pub maker : Cell → One
maker (plain v) = ref

abbrev pub Store : Type 0
Store = Map Cell

-- the cell that an assignment of v leaves at l, in a view; none where the view lacks l
unfoldable pub written : Store → ℕ → Expression → Option Cell
written view l v = get l view ▸ λ c. some (plain v)
