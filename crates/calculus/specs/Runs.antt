-- Runs over picks, and demand 3: what holds of every state that a script reaches which the check has passed.
use Rattle.std.specs.Prelude.{ℕ, ◌≡◌, ◌≢◌, ◌⊎◌, List, [], ◌∷◌, ◌++◌, true}
use Rattle.std.proofs.Math.Option.{some}
use Rattle.calculus.specs.Maps.{get}
use Rattle.calculus.specs.Types.{ScriptType}
use Rattle.calculus.specs.Expressions.{Expression}
use Rattle.calculus.specs.Formed.{value}
use Rattle.calculus.specs.States.{Task, State, first}
use Rattle.calculus.specs.Rules.{Step}
use Rattle.calculus.specs.Steps.{Reason, stuck, step}
use Rattle.calculus.specs.Typing.{TypedIn}
use Rattle.calculus.specs.Conditions.{Ready, WaitsFor, JoinsGone}

-- `Picks s picks t`: from s to t, each pick a step by the rules, or refused for whatever reason and the state as it was
pub data Picks : State → List ℕ → State → Type 0 where
  no_pick : {s : State} → Picks s [] s
  stepped : {s t u : State} {r : ℕ} {picks : List ℕ} → Step r s t → Picks t picks u → Picks s (r ∷ picks) u
  refused_pick : {s u : State} {r : ℕ} {picks : List ℕ} → Picks s picks u → Picks s (r ∷ picks) u

-- every live task is finished
abbrev pub AllFinished : State → Type 0
AllFinished s = (r : ℕ) (me : Task) → get r s ≡ some me → value me.expression ≡ true

-- of the picks from s, one was the join of a task already gone, and that step emptied the state
pub record Emptied (s : State) (picks : List ℕ) : Type 0 where
  pub before : List ℕ
  pub pick : ℕ
  pub after : List ℕ
  pub in_order : picks ≡ before ++ (pick ∷ after)
  pub state : State
  pub reached : Picks s before state
  pub joins_gone : JoinsGone pick state
  pub empties : Step pick state []

-- demand 3, of the state s that a script e of type A reaches by the picks
pub record Safe (e : Expression) (A : ScriptType) (picks : List ℕ) (s : State) : Type 0 where
  -- no task is stuck, for any reason
  pub never_stuck : (r : ℕ) (ρ : Reason) → step r s ≢ stuck ρ
  -- each live task is finished, has a step by the rules, or waits for a live task that isn't finished
  pub each_goes : (r : ℕ) (me : Task) → get r s ≡ some me
      → (value me.expression ≡ true) ⊎ (Ready r s ⊎ WaitsFor r s)
  -- all live tasks are finished, or some live task has a step that only want of room or numbers can refuse
  pub some_goes : AllFinished s ⊎ ((r : ℕ) × Ready r s)
  -- unless joining a task already gone has emptied the state, main, which is revision 0, is live
  pub main_lives : (Emptied (first e) picks × (s ≡ [])) ⊎ ((main : Task) × (get 0 s ≡ some main))
  -- main's expression, so its value once it is finished, has the type that the check reported
  pub main_typed : (main : Task) → get 0 s ≡ some main → TypedIn s main.expression A
