-- One step of revision r as rules (01, "One step"; 001): a constructor for each rule, the place of work by decompose.
use Rattle.std.specs.Prelude.{ℕ, ◌≡◌, [], Bool, true}
use Rattle.std.proofs.Math.Option.{none, some}
use Rattle.calculus.specs.Maps.{get, put, remove}
use Rattle.calculus.specs.Expressions.{unit, location, revision, Arithmetic, Expression, constant, leaf}
use Rattle.calculus.specs.Formed.{value}
use Rattle.calculus.specs.Numbers.{choose, calculated}
use Rattle.calculus.specs.Stores.{Cell, content, Store, written}
use Rattle.calculus.specs.States.{Task, State, view, absorbed}
use Rattle.calculus.specs.Substitution.{substituted}
use Rattle.calculus.specs.Redexes.{Lambda, Redex, applying, choosing, making, reading, assigning}
use Rattle.calculus.specs.Redexes.{forking, joining, calculating}
use Rattle.calculus.specs.Places.{Context, plug, Decomposed}
use Rattle.calculus.specs.NewNumbers.{new_location, new_revision}

-- the task with another local store and another expression; a forked child
abbrev pub become : Task → Store → Expression → Task
become me m e = record { snapshot = me.snapshot; local = m; expression = e }

abbrev pub child : Task → Expression → Task
child me e = record { snapshot = view me; local = []; expression = e }

-- `Rule r s me E R t`: task `me`, which is r in the state s, works off its redex R in the context E, and t is the
-- state after
pub data Rule (r : ℕ) (s : State) (me : Task) (E : Context) : Redex → State → Type 0 where
  -- the body with the value for each free occurrence of x
  by_apply : (f : Lambda) (v : Expression)
      → Rule r s me E (applying f v) (put r (become me me.local (plug E (substituted f.variable v f.body))) s)
  -- the chosen branch
  by_if : (t : Bool) (b c : Expression)
      → Rule r s me E (choosing t b c) (put r (become me me.local (plug E (choose t b c))) s)
  -- the new location joins the local store with the value; result the location
  by_ref : (c : Cell) (l : ℕ) → new_location s ≡ some l
      → Rule r s me E (making c) (put r (become me (put l c me.local) (plug E (leaf location l))) s)
  -- the view's value
  by_read : (l : ℕ) (c : Cell) → get l (view me) ≡ some c
      → Rule r s me E (reading l) (put r (become me me.local (plug E (content c))) s)
  -- the local store takes the value; result unit
  by_assign : (l : ℕ) (v : Expression) (c : Cell) → written (view me) l v ≡ some c
      → Rule r s me E (assigning l v) (put r (become me (put l c me.local) (plug E (constant unit))) s)
  -- the snapshot is r's view, the local store empty, the expression the fork's body; result r'
  by_fork : (e : Expression) (r' : ℕ) → new_revision s ≡ some r'
      → Rule r s me E (forking e) (put r' (child me e) (put r (become me me.local (plug E (leaf revision r'))) s))
  -- r' is live with a value: its local store lies over r's, r' is removed, result unit
  by_join : (r' : ℕ) (other : Task) → get r' s ≡ some other → value other.expression ≡ true
      → Rule r s me E (joining r') (put r (become me (absorbed me other) (plug E (constant unit))) (remove r' s))
  -- r' isn't live: the whole state becomes empty
  by_join_gone : (r' : ℕ) → get r' s ≡ none → Rule r s me E (joining r') []
  -- wrapping sums and differences, the signed order
  by_arithmetic : (o : Arithmetic) (m n : ℕ)
      → Rule r s me E (calculating o m n) (put r (become me me.local (plug E (calculated o m n))) s)

-- a step of r from s to t by the rules
pub record Step (r : ℕ) (s t : State) : Type 0 where
  pub task : Task
  pub live : get r s ≡ some task
  pub context : Context
  pub redex : Redex
  pub place : Decomposed task.expression context redex
  pub rule : Rule r s task context redex t
