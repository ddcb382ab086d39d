-- The locations that the stores of an image take.
use Prim.Native.Nat.{ℕ}
use mathlib.Core.Bool.{Bool, true, false}
use mathlib.Core.List.{List, [], ◌∷◌, append_assoc, append-nil}
use mathlib.Core.Path.{◌≡◌, refl, ap, ◌∙◌}
use lib.ListN.{set, replicate}
use Rattle.calculus.specs.Maps.{keys}
use Rattle.calculus.specs.Words.{words}
use Rattle.calculus.specs.Formed.{Formed}
use Rattle.calculus.specs.Stores.{Store}
use Rattle.calculus.specs.States.{Task, State}
use Rattle.calculus.specs.Images.{counted, cell_words, task_words, ValidCell, ValidStore, ValidTask, Listed}
use Rattle.calculus.specs.NewNumbers.{taken_locations}
use Rattle.words.specs.Marks.{mark_all}
use Rattle.image.specs.declared.parts.Parts.{Parts}
use Rattle.image.specs.Marks.{locations, in_map, in_section, task_keys, MarksOf, MarksAt, SectionMarks, ImageMarks}
use Rattle.image.proofs.Gathering.{parts_marks}
use Rattle.image.proofs.Images.{image_marks}

-- an entry takes its location
pub location_taken : (l : ℕ) (ws : List ℕ) (m r : List Bool) → r ≡ set m l true
    → MarksOf cell_words ValidCell (locations.entry l) ws m r
unfolding mark_all
location_taken l ws m r e = record { marks = λ c v q. e }

-- a section's number and an expression take none
pub section_none : (r : ℕ) (m : List Bool) → m ≡ mark_all (locations.section r) m
unfolding mark_all
section_none r m = refl

pub expression_none : (ws : List ℕ) (m : List Bool) → MarksOf words Formed locations.expression ws m m
unfolding mark_all
expression_none ws m = record { marks = λ e f q. refl }

-- those of a store, of a task and of an image
pub in_store : (x : Store) → in_map locations.entry x ≡ keys x
unfolding in_map keys
in_store [] = refl
in_store (e ∷ x) = ap (λ (l : List ℕ). e.0 ∷ l) (in_store x)

pub in_task : (r : ℕ) (me : Task) → in_section locations r me ≡ task_keys me
in_task r me = simp (in_store, append-nil)

in_state : (x : State) → in_map (in_section locations) x ≡ taken_locations x
unfolding in_map taken_locations
in_state [] = refl
in_state (e ∷ x) = simp (in_store, append-nil, append_assoc, in_state x)

-- the two stores of a section
pub section_keys : (s : List ℕ) (at : ℕ) (parts : Parts) (m a r : List Bool)
    → MarksAt (counted cell_words) ValidStore (in_map locations.entry) s at m a
    → MarksAt (counted cell_words) ValidStore (in_map locations.entry) s parts.local a r
    → SectionMarks task_keys s at parts m r
section_keys s at parts m a r ga gr =
    let g = parts_marks locations s at 0 parts m m a r r (section_none 0 m) ga gr
    (λ e f h l. (expression_none (words e) r).marks e f refl) in
    record { marks = λ me v h c. g.marks me v h c ∙ ap (λ (ns : List ℕ). mark_all ns m) (in_task 0 me) }

-- an image
pub taken : (s : List ℕ) (r : List Bool)
    → MarksAt (counted task_words) (Listed ValidTask 63 0) (in_map (in_section locations)) s 0 (replicate 256 false) r
    → ImageMarks taken_locations 256 s r
taken s r g = image_marks (in_section locations) taken_locations in_state 256 s r g
