-- When each outcome of a step is given (01, "What comes back", the column "When"), by the rules and not the function.
use Rattle.std.specs.Prelude.{ℕ, ◌≡◌, ◌≢◌, ◌⊎◌, [], true, false}
use Rattle.std.proofs.Math.Option.{none, some}
use Rattle.calculus.specs.Maps.{get}
use Rattle.calculus.specs.Expressions.{Expression}
use Rattle.calculus.specs.Formed.{value}
use Rattle.calculus.specs.Stores.{Cell, written}
use Rattle.calculus.specs.States.{Task, State, view}
use Rattle.calculus.specs.Redexes.{Redex, applying, choosing, making, reading, assigning}
use Rattle.calculus.specs.Redexes.{forking, joining, calculating}
use Rattle.calculus.specs.Places.{Context, Decomposed}
use Rattle.calculus.specs.NewNumbers.{new_location, new_revision}
use Rattle.calculus.specs.Rules.{Step}
use Rattle.calculus.specs.Steps.{by_shape, by_location, Outcome, next, emptied, finished, waits, stuck}
use Rattle.calculus.specs.Steps.{not_live, no_number}

-- `AtWork r s P`: r is live, and P holds of its task and of the redex at its place of work
pub record AtWork (r : ℕ) (s : State) (P : Task → Redex → Type 0) : Type 0 where
  pub task : Task
  pub live : get r s ≡ some task
  pub context : Context
  pub redex : Redex
  pub place : Decomposed task.expression context redex
  pub holds : P task redex

-- r is live with a value
pub record Finished (r : ℕ) (s : State) : Type 0 where
  pub task : Task
  pub live : get r s ≡ some task
  pub is_finished : value task.expression ≡ true

-- r is live without a value, and no decomposition of its expression gives a redex
pub record NoRedex (r : ℕ) (s : State) : Type 0 where
  pub task : Task
  pub live : get r s ≡ some task
  pub unfinished : value task.expression ≡ false
  pub nowhere : (E : Context) (R : Redex) → Decomposed task.expression E R → ⊥

-- a join of a task that is live without a value: "r waits; so does a revision that joins itself"
pub data Awaits (s : State) (me : Task) : Redex → Type 0 where
  awaits : (r' : ℕ) (other : Task) → get r' s ≡ some other → value other.expression ≡ false
      → Awaits s me (joining r')

-- a join of a task that isn't live
pub data Misses (s : State) (me : Task) : Redex → Type 0 where
  misses : (r' : ℕ) → get r' s ≡ none → Misses s me (joining r')

-- a read or assign of a location that isn't in the task's view
pub data Unseen (me : Task) : Redex → Type 0 where
  unseen_read : (l : ℕ) → get l (view me) ≡ none → Unseen me (reading l)
  unseen_assign : (l : ℕ) (v : Expression) → get l (view me) ≡ none → Unseen me (assigning l v)

-- a redex that makes a cell or forks where no new number is left
pub data Numberless (s : State) (me : Task) : Redex → Type 0 where
  no_location : (c : Cell) → new_location s ≡ none → Numberless s me (making c)
  no_revision : (e : Expression) → new_revision s ≡ none → Numberless s me (forking e)

abbrev pub WaitsFor : ℕ → State → Type 0
WaitsFor r s = AtWork r s (Awaits s)

abbrev pub JoinsGone : ℕ → State → Type 0
JoinsGone r s = AtWork r s (Misses s)

-- the table: 0, 1, 2, 3, 4, 5, 6, 7
abbrev pub Condition : ℕ → State → Outcome → Type 0
Condition r s (next t) = Step r s t × (t ≢ [])
Condition r s emptied = JoinsGone r s
Condition r s finished = Finished r s
Condition r s waits = WaitsFor r s
Condition r s (stuck by_shape) = NoRedex r s
Condition r s (stuck by_location) = AtWork r s Unseen
Condition r s not_live = get r s ≡ none
Condition r s no_number = AtWork r s (Numberless s)

-- what the redex's rule asks for, but for a new number
abbrev pub Able : State → Task → Redex → Type 0
Able s me (applying f v) = Unit {0}
Able s me (choosing t b c) = Unit {0}
Able s me (making c) = Unit {0}
Able s me (reading l) = (c : Cell) × (get l (view me) ≡ some c)
Able s me (assigning l v) = (c : Cell) × (written (view me) l v ≡ some c)
Able s me (forking e) = Unit {0}
Able s me (joining r') =
    (get r' s ≡ none) ⊎ ((other : Task) × (get r' s ≡ some other) × (value other.expression ≡ true))
Able s me (calculating o m n) = Unit {0}

-- r has a step by the rules that only want of room or numbers can refuse
abbrev pub Ready : ℕ → State → Type 0
Ready r s = AtWork r s (Able s)
