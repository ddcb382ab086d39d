-- Which numbers an image takes, as marks: what the walk over its items promises of every valid one.
use Rattle.std.specs.Prelude.{ℕ, ◌+◌, ◌≡◌, Bool, List, [], ◌∷◌, ◌++◌, length}
use Rattle.calculus.specs.Maps.{Map, keys}
use Rattle.calculus.specs.Expressions.{Expression, revision}
use Rattle.calculus.specs.Words.{words}
use Rattle.calculus.specs.Formed.{Formed}
use Rattle.calculus.specs.Stores.{Cell, content}
use Rattle.calculus.specs.States.{Task, State}
use Rattle.calculus.specs.Images.{task_words, image, ValidTask, Valid}
use Rattle.calculus.specs.NewNumbers.{named, named_in_task}
use Rattle.calculus.specs.Answers.{marks_of}
use Rattle.words.specs.declared.in_use.InUse.{InUse}
use Rattle.words.specs.Marks.{mark_all}
use Rattle.image.specs.declared.parts.Parts.{Parts}
use Rattle.image.specs.Standing.{Stands}
use Rattle.image.specs.Cuts.{Cut}

-- the numbers that an entry of a store takes, that a section itself takes, and that an expression takes
pub record Taking : Type 0 where
  pub entry : ℕ → Cell → List ℕ
  pub section : ℕ → List ℕ
  pub expression : Expression → List ℕ

-- the locations of entries; the numbers of sections with those of the revisions that are named anywhere
abbrev pub locations : Taking
locations = record { entry = λ l c. l ∷ []; section = λ r. []; expression = λ e. [] }

abbrev pub revisions : Taking
revisions =
    record {
      entry = λ l c. named revision (content c);
      section = λ r. r ∷ [];
      expression = named revision;
    }

-- the numbers that the items of a map take, and the section of a revision
unfoldable pub in_map : {A : Type 0} → (ℕ → A → List ℕ) → Map A → List ℕ
in_map each [] = []
in_map each (e ∷ m) = each e.0 e.1 ++ in_map each m

abbrev pub in_section : Taking → ℕ → Task → List ℕ
in_section t r me =
    t.section r ++ (in_map t.entry me.snapshot ++ (in_map t.entry me.local ++ t.expression me.expression))

-- r are the marks m with those of the numbers of what the words are, or of what stands in them at `at`
pub record MarksOf {A : Type 0} (w : A → List ℕ) (ok : A → Type 0) (numbers : A → List ℕ)
    (ws : List ℕ) (m r : List Bool) : Type 0 where
  pub marks : (a : A) → ok a → ws ≡ w a → r ≡ mark_all (numbers a) m

pub record MarksAt {A : Type 0} (w : A → List ℕ) (ok : A → Type 0) (numbers : A → List ℕ)
    (s : List ℕ) (at : ℕ) (m r : List Bool) : Type 0 where
  pub marks : (a : A) → ok a → Stands s at (w a) → r ≡ mark_all (numbers a) m

-- of the task that stands at `at`, cut at its parts
pub record SectionMarks (numbers : Task → List ℕ) (s : List ℕ) (at : ℕ) (parts : Parts) (m r : List Bool) : Type 0 where
  pub marks : (me : Task) → ValidTask me → Stands s at (task_words me) → Cut at me parts → r ≡ mark_all (numbers me) m

-- the locations of a task's stores; the revision numbers of a section: its own, and those that its task names
abbrev pub task_keys : Task → List ℕ
task_keys me = keys me.snapshot ++ keys me.local

abbrev pub section_revisions : ℕ → Task → List ℕ
section_revisions k me = k ∷ named_in_task revision me

-- of the revisions that are named in the expression that stands from `from` to `to`
pub record NamesMarked (s : List ℕ) (from to : ℕ) (u r : InUse) : Type 0 where
  pub marks : (e : Expression) → Formed e → Stands s from (words e) → to ≡ from + length (words e)
      → r.marks ≡ mark_all (named revision e) u.marks

-- of the state whose image the words are, from no marks
pub record ImageMarks (numbers : State → List ℕ) (n : ℕ) (s : List ℕ) (r : List Bool) : Type 0 where
  pub marks : (x : State) → Valid x → s ≡ image x → r ≡ marks_of n 0 (numbers x)
