-- Maps cut at a key; what the functions on the words of stores and sections promise of every valid one that stands
-- there.
use Rattle.std.specs.Prelude.{ℕ, ◌+◌, ◌≤◌, ◌≡◌, Bool, true, false, cond, List, [], ◌∷◌, length, eqb, ltb}
use Rattle.std.specs.Prelude.{Option, Some, None, Result, Ok, Err}
use Rattle.std.proofs.Math.Option.{Option as Maybe, none, some}
use Rattle.calculus.specs.Maps.{Map, get}
use Rattle.calculus.specs.Stores.{Cell, Store}
use Rattle.calculus.specs.States.{Task, view}
use Rattle.calculus.specs.Images.{entries, counted, cell_words, task_words, Listed, ValidCell, ValidStore, ValidTask}
use Rattle.image.specs.declared.parts.Parts.{Parts}
use Rattle.image.specs.Standing.{Stands}

module _ {A : Type 0} where
  -- the entries before k; those from k onward; those beyond k; is there one at k?
  unfoldable pub before : ℕ → Map A → Map A
  before k [] = []
  before k (e ∷ m) = cond (ltb e.0 k) (e ∷ before k m) []

  unfoldable pub onward : ℕ → Map A → Map A
  onward k [] = []
  onward k (e ∷ m) = cond (ltb e.0 k) (onward k m) (e ∷ m)

  unfoldable pub beyond : ℕ → Map A → Map A
  beyond k [] = []
  beyond k (e ∷ m) = cond (ltb e.0 k) (beyond k m) (cond (eqb e.0 k) m (e ∷ m))

  unfoldable pub hits : ℕ → Map A → Bool
  hits k [] = false
  hits k (e ∷ m) = cond (ltb e.0 k) (hits k m) (eqb e.0 k)

-- r is where n entries of a store that stand at `at` end
pub record Skips (s : List ℕ) (at n r : ℕ) : Type 0 where
  pub high : r ≤ length s
  pub ends : (m : Store) (low : ℕ) → Listed ValidCell 255 low m → Stands s at (entries cell_words m) → length m ≡ n
      → at ≤ length s → r ≡ at + length (entries cell_words m)

-- the place, as that of an entry that is there or of one that would go there
abbrev pub place_if : Bool → ℕ → Result ℕ ℕ
place_if true at = Ok at
place_if false at = Err at

abbrev pub place_in : Result ℕ ℕ → ℕ
place_in (Ok at) = at
place_in (Err at) = at

abbrev pub seek_of : {A : Type 0} → (A → List ℕ) → ℕ → ℕ → Map A → Result ℕ ℕ
seek_of w at k m = place_if (hits k m) (at + length (entries w (before k m)))

-- r is in s and is where the item ends that stands at `at`, written by w
pub record Past {A : Type 0} (w : A → List ℕ) (ok : A → Type 0) (s : List ℕ) (at r : ℕ) : Type 0 where
  pub high : r ≤ length s
  pub ends : (a : A) → ok a → Stands s at (w a) → r ≡ at + length (w a)

-- the place of k among n entries, each written by w, that stand at `at`
pub record Seeks {A : Type 0} (w : A → List ℕ) (ok : A → Type 0) (top : ℕ)
    (s : List ℕ) (at n k : ℕ) (r : Result ℕ ℕ) : Type 0 where
  pub high : at ≤ length s → place_in r ≤ length s
  pub answer : (m : Map A) (low : ℕ) → Listed ok top low m → Stands s at (entries w m) → length m ≡ n
      → r ≡ seek_of w at k m

-- the parts of a task whose words start at `at`
pub record Cut (at : ℕ) (me : Task) (r : Parts) : Type 0 where
  pub local : r.local ≡ at + length (counted cell_words me.snapshot)
  pub expression : r.expression ≡ r.local + length (counted cell_words me.local)
  pub end : r.end ≡ at + length (task_words me)

pub record PartsAt (s : List ℕ) (at : ℕ) (r : Parts) : Type 0 where
  pub local : r.local ≤ length s
  pub expression : r.expression ≤ length s
  pub order : r.expression ≤ r.end
  pub end : r.end ≤ length s
  pub cut : (me : Task) → ValidTask me → Stands s at (task_words me) → Cut at me r

-- the cell, if any, stands where it is said to
abbrev pub CellAt : List ℕ → Maybe Cell → Option ℕ → Type 0
CellAt s none None = Unit {0}
CellAt s none (Some p) = ⊥
CellAt s (some c) None = ⊥
CellAt s (some c) (Some p) = Stands s p (cell_words c)

-- l in the store that stands there
pub record ValueIn (s : List ℕ) (store l : ℕ) (r : Option ℕ) : Type 0 where
  pub answer : (m : Store) → ValidStore m → Stands s store (counted cell_words m) → CellAt s (get l m) r

-- l in the view of the task whose stores stand there
pub record Found (s : List ℕ) (snapshot local l : ℕ) (r : Option ℕ) : Type 0 where
  pub answer : (me : Task) → ValidTask me → Stands s snapshot (counted cell_words me.snapshot)
      → Stands s local (counted cell_words me.local) → CellAt s (get l (view me)) r
