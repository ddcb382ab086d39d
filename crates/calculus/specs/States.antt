-- States (01, "State"): revision numbers map to a snapshot, a local store and an expression; views; the first state.
use Rattle.std.specs.Prelude.{[], ◌∷◌}
use Rattle.calculus.specs.Expressions.{Expression}
use Rattle.calculus.specs.Maps.{Map, overlaid}
use Rattle.calculus.specs.Stores.{Store}

-- what a revision number maps to
pub record Task : Type 0 where
  pub snapshot : Store
  pub local : Store
  pub expression : Expression

abbrev pub State : Type 0
State = Map Task

-- "A revision's view is its snapshot overlaid by its local store"
abbrev pub view : Task → Store
view me = overlaid me.snapshot me.local

-- "r's local store is overlaid by that of r'": a joiner's local store after the join
unfoldable pub absorbed : Task → Task → Store
absorbed me other = overlaid me.local other.local

-- "revision 0 with empty stores and the script"
abbrev pub first : Expression → State
first script = (0, record { snapshot = []; local = []; expression = script }) ∷ []
