-- The image of a state and its validity (01, "State"), and the state that a valid image is of.
use Rattle.std.specs.Prelude.{ℕ, zero, suc, ◌≤◌, ◌≡◌, List, [], ◌∷◌, ◌++◌, ◌&&◌, length, T, leb}
use Rattle.std.proofs.Math.Option.{Option, none, some}
use Rattle.calculus.specs.Options.{◌▸◌, test}
use Rattle.calculus.specs.Maps.{Map}
use Rattle.calculus.specs.Expressions.{Expression}
use Rattle.calculus.specs.Words.{words}
use Rattle.calculus.specs.Formed.{Formed, value, closed}
use Rattle.calculus.specs.Reading.{Reader, read_word, read_expression, wholly}
use Rattle.calculus.specs.Stores.{Cell, plain, content, Store}
use Rattle.calculus.specs.States.{Task, State}

-- a map's entries, each a key and what `w` writes of it; their count before them
abbrev pub entries : {A : Type 0} → (A → List ℕ) → Map A → List ℕ
entries w [] = []
entries w (e ∷ m) = e.0 ∷ (w e.1 ++ entries w m)

abbrev pub counted : {A : Type 0} → (A → List ℕ) → Map A → List ℕ
counted w m = length m ∷ entries w m

abbrev pub cell_words : Cell → List ℕ
cell_words (plain v) = words v

-- "count of snapshot entries, entries, count of local entries, entries, expression"
unfoldable pub task_words : Task → List ℕ
task_words me = counted cell_words me.snapshot ++ (counted cell_words me.local ++ words me.expression)

-- "the count of live revisions (0..64); then for each, by rising number"
unfoldable pub image : State → List ℕ
image s = counted task_words s

-- keys strictly rise from `low` to at most `high`, and every entry is ok
unfoldable pub Listed : {A : Type 0} → (A → Type 0) → ℕ → ℕ → Map A → Type 0
Listed ok high low [] = Unit {0}
Listed ok high low (e ∷ m) = (low ≤ e.0) × (e.0 ≤ high) × ok e.1 × Listed ok high (suc e.0) m

-- own words in range, and "every expression and value closed"
abbrev pub ValidExpression : Expression → Type 0
ValidExpression e = Formed e × T (closed e)

abbrev pub ValidCell : Cell → Type 0
ValidCell c = ValidExpression (content c) × T (value (content c))

abbrev pub ValidStore : Store → Type 0
ValidStore m = Listed ValidCell 255 0 m

pub record ValidTask (me : Task) : Type 0 where
  pub snapshot : ValidStore me.snapshot
  pub local : ValidStore me.local
  pub expression : ValidExpression me.expression

-- a state whose image is valid: "at most 8,192 words"
pub record Valid (s : State) : Type 0 where
  pub tasks : Listed ValidTask 63 0 s
  pub short : length (image s) ≤ 8192

-- "An image is valid if it is exactly this"
pub record ValidImage (ws : List ℕ) : Type 0 where
  pub state : State
  pub valid : Valid state
  pub exactly : ws ≡ image state

-- the same as a function: the state whose image the words are
-- n entries, keys rising from k, none over b
unfoldable pub read_entries : {A : Type 0} → Reader A → ℕ → ℕ → ℕ → Reader (Map A)
read_entries r b zero k ws = some ([], ws)
read_entries r b (suc n) k [] = none
read_entries r b (suc n) k (w ∷ ws) =
    test (leb k w && leb w b) ▸ λ u.
    r ws ▸ λ p. read_entries r b n (suc w) p.1 ▸ λ q. some ((w, p.0) ∷ q.0, q.1)

-- a count, at most c, and so many entries
abbrev pub read_map : {A : Type 0} → Reader A → ℕ → ℕ → Reader (Map A)
read_map r c b ws = read_word c ws ▸ λ n. read_entries r b n.0 0 n.1

abbrev pub read_closed : ℕ → Reader Expression
read_closed n ws = read_expression n ws ▸ λ p. test (closed p.0) ▸ λ u. some p

abbrev pub read_cell : ℕ → Reader Cell
read_cell n ws = read_closed n ws ▸ λ p. test (value p.0) ▸ λ u. some (plain p.0, p.1)

abbrev pub read_task : ℕ → Reader Task
read_task n ws =
    read_map (read_cell n) 256 255 ws ▸ λ a.
    read_map (read_cell n) 256 255 a.1 ▸ λ b.
    read_closed n b.1 ▸ λ e. some (record { snapshot = a.0; local = b.0; expression = e.0 }, e.1)

unfoldable pub state_of : List ℕ → Option State
state_of ws = test (leb (length ws) 8192) ▸ λ u. wholly (read_map (read_task (length ws)) 64 63 ws)
