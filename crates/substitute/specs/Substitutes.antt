-- What substitution on words promises, said of every formed expression and every value that stand in the words.
use Rattle.std.specs.Prelude.{ℕ, ◌+◌, ◌≤◌, ◌≡◌, List, [], ◌∷◌, ◌++◌, length, get_or, Bool, true, false, Option, Some, None}
use Rattle.calculus.specs.Expressions.{Expression}
use Rattle.calculus.specs.Words.{words}
use Rattle.calculus.specs.Formed.{Formed}
use Rattle.calculus.specs.Substitution.{substituted}
use Rattle.words.specs.Names.{all_words, AllFormed}
use Rattle.image.specs.Standing.{Stands}
use Rattle.write.specs.Cursor.{part, Wrote}
use Rattle.substitute.specs.declared.Filling.{Filling}
use Rattle.substitute.specs.declared.Children.{Children}
use Rattle.substitute.specs.declared.Piece.{Piece}
use Rattle.substitute.specs.declared.Opened.{Opened}
use Rattle.substitute.specs.declared.Reached.{Reached}

-- v for each free x in each of the expressions
unfoldable pub all_substituted : ℕ → Expression → List Expression → List Expression
all_substituted x v [] = []
all_substituted x v (e ∷ es) = substituted x v e ∷ all_substituted x v es

-- e, which stands at `at`, in two: what is passed, and the inner expressions, which stand as r says;
-- in e with v for x `written` stands for what is passed
pub record Cut (at x : ℕ) (v e : Expression) (written : List ℕ) (r : Children) : Type 0 where
  pub passed : List ℕ
  pub inner : List Expression
  pub whole : words e ≡ passed ++ all_words inner
  pub result : words (substituted x v e) ≡ written ++ all_words (all_substituted x v inner)
  pub some : 1 ≤ length passed
  pub next : r.at ≡ at + length passed
  pub count : length inner ≡ r.count
  pub formed : AllFormed inner

-- does a node of tag t whose own word is x stand at `at`?
abbrev pub Named : List ℕ → ℕ → ℕ → ℕ → Bool → Type 0
Named s at t x true = (get_or s at 0 ≡ t) × (get_or s (at + 1) 0 ≡ x)
Named s at t x false = get_or s at 0 ≡ t → get_or s (at + 1) 0 ≡ x → ⊥

pub record PieceOf (s : List ℕ) (at : ℕ) (f : Filling) (r : Piece) : Type 0 where
  pub cut : (e v : Expression) → Formed e → Stands s at (words e) → f.value.now ≡ words v
      → Cut at f.x v e r.words.now r.children

-- there is a piece, unless no well-formed expression stands at `at`
abbrev pub PieceAt : List ℕ → ℕ → Filling → Option Piece → Type 0
PieceAt s at f (Some r) = PieceOf s at f r
PieceAt s at f None = (e : Expression) → Formed e → Stands s at (words e) → ⊥

pub record NodeWritten (at x : ℕ) (v e : Expression) (o : List ℕ) (to : ℕ) (r : Opened) (o' : List ℕ) : Type 0 where
  pub written : List ℕ
  pub wrote : Wrote written o to r.to o'
  pub cut : Cut at x v e written r.children

pub record WritesNode (s : List ℕ) (at : ℕ) (f : Filling) (o : List ℕ) (to : ℕ) (r : Opened) (o' : List ℕ) : Type 0 where
  pub high : r.to ≤ length o + 1
  pub same : length o' ≡ length o
  pub node : (e v : Expression) → Formed e → Stands s at (words e) → f.value.now ≡ words v
      → NodeWritten at f.x v e o to r o'

-- the expressions were read and written
pub record AllReplaced (at x : ℕ) (v : Expression) (es : List Expression) (o : List ℕ) (to : ℕ) (r : Reached)
    (o' : List ℕ) : Type 0 where
  pub read : r.read ≡ at + length (all_words es)
  pub wrote : Wrote (all_words (all_substituted x v es)) o to r.to o'

pub record Replaces (s : List ℕ) (n : Children) (f : Filling) (o : List ℕ) (to left : ℕ) (r : Reached) (o' : List ℕ)
    : Type 0 where
  pub high : r.to ≤ length o + 1
  pub same : length o' ≡ length o
  pub all : (es : List Expression) (v : Expression) → AllFormed es → Stands s n.at (all_words es) → length es ≡ n.count
      → length (all_words es) ≤ left → f.value.now ≡ words v → AllReplaced n.at f.x v es o to r o'

pub record Substitutes (s : List ℕ) (at x a b : ℕ) (o : List ℕ) (to r : ℕ) (o' : List ℕ) : Type 0 where
  pub high : r ≤ length o + 1
  pub same : length o' ≡ length o
  pub wrote : (e v : Expression) → Formed e → Stands s at (words e) → part s a b ≡ words v
      → Wrote (words (substituted x v e)) o to r o'
