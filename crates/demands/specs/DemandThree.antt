-- Demand 3: what holds of a script that the check passed, loaded and run over any picks, refused ones included.
use Rattle.std.specs.Prelude.{ℕ, ◌≡◌, ◌≢◌, List, T}
use Rattle.calculus.specs.Types.{ScriptType}
use Rattle.calculus.specs.Expressions.{Expression}
use Rattle.calculus.specs.Words.{type_words, words}
use Rattle.calculus.specs.Formed.{member}
use Rattle.calculus.specs.States.{State}
use Rattle.calculus.specs.Images.{image}
use Rattle.calculus.specs.Typing.{nothing, no_world, HasType}
use Rattle.calculus.specs.Runs.{Safe}

-- of the script's words, the words that the check wrote, the picks, the answers to them, and the last image
pub record SafeRun (script reported picks answers last : List ℕ) : Type 0 where
  -- the script is one expression, which has by the rules the type that the check reported
  pub expression : Expression
  pub type : ScriptType
  pub is_script : script ≡ words expression
  pub typed : HasType no_world nothing expression type
  pub is_type : reported ≡ type_words type
  -- no pick was answered 4 or 5
  pub never_stuck : (n : ℕ) → T (member n answers) → (n ≢ 4) × (n ≢ 5)
  -- the last image is that of a state which is safe: no task stuck, all finished or one ready, main typed
  pub state : State
  pub is_state : last ≡ image state
  pub safe : Safe expression type picks state
