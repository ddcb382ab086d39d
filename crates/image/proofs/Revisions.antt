-- The revision numbers that an image takes: its sections', and those that its values and expressions name.
use Prim.Native.Nat.{ℕ, ◌+◌, ◌-◌, ◌≤◌, ◌<◌}
use mathlib.Core.Bool.{Bool, true}
use mathlib.Core.List.{List, [], ◌∷◌, ◌++◌}
use mathlib.Core.Logic.{◌⊎◌, inl, inr}
use mathlib.Core.Path.{◌≡◌, refl, sym, ap, ◌∙◌}
use native.Mathlib.Omega.{arith}
use lib.ListN.{length, take, drop, set, length-append, length-drop}
use Rattle.std.proofs.Common.{Bor, Some, None}
use Rattle.std.specs.Slice.{IsGetRangeResult}
use Rattle.calculus.specs.Expressions.{Expression, revision}
use Rattle.calculus.specs.Words.{words}
use Rattle.calculus.specs.Formed.{Formed}
use Rattle.calculus.specs.Stores.{Cell, plain, Store}
use Rattle.calculus.specs.States.{Task, State}
use Rattle.calculus.specs.Images.{counted, cell_words, task_words, ValidCell, ValidStore, ValidTask, Listed}
use Rattle.calculus.specs.NewNumbers.{named, named_in_store, named_in_task, taken_revisions}
use Rattle.words.specs.declared.in_use.InUse.{InUse}
use Rattle.words.specs.Marks.{mark_all, Clear, RevisionsMarked}
use Rattle.words.proofs.Ends.{words_long}
use Rattle.image.specs.declared.parts.Parts.{Parts}
use Rattle.image.specs.Standing.{Stands}
use Rattle.image.specs.Marks.{revisions, section_revisions, in_map, in_section, MarksOf, MarksAt}
use Rattle.image.specs.Marks.{NamesMarked, SectionMarks, ImageMarks}
use Rattle.image.proofs.Standing.{stands_take}
use Rattle.image.proofs.Gathering.{parts_marks}
use Rattle.image.proofs.Images.{image_marks}

-- an entry takes what its value names
pub value_names : (l : ℕ) (ws : List ℕ) (u r : InUse) → RevisionsMarked ws u r
    → MarksOf cell_words ValidCell (revisions.entry l) ws u.marks r.marks
value_names l ws u r g = record { marks = go }
  where
    go : (c : Cell) → ValidCell c → ws ≡ cell_words c → r.marks ≡ mark_all (revisions.entry l c) u.marks
    go (plain e) v q = g.marks e q v.0.0

-- a section itself takes its number
pub number_taken : (k : ℕ) (m r : List Bool) → r ≡ set m k true → r ≡ mark_all (revisions.section k) m
unfolding mark_all
number_taken k m r e = e

-- an expression takes what it names
pub expression_names : (ws : List ℕ) (u r : InUse) → RevisionsMarked ws u r
    → MarksOf words Formed revisions.expression ws u.marks r.marks
expression_names ws u r g = record { marks = λ e f q. g.marks e q f }

-- those of a store, of a section and of an image
pub in_store : (x : Store) → in_map revisions.entry x ≡ named_in_store revision x
unfolding in_map named_in_store
in_store [] = refl
in_store (e ∷ x) = ap (λ (l : List ℕ). revisions.entry e.0 e.1 ++ l) (in_store x)

pub in_task : (k : ℕ) (me : Task) → in_section revisions k me ≡ section_revisions k me
unfolding named_in_task
in_task k me = simp in_store

in_state : (x : State) → in_map (in_section revisions) x ≡ taken_revisions x
unfolding in_map taken_revisions named_in_task
in_state [] = refl
in_state (e ∷ x) = simp (in_store, in_state x)

-- an expression that stands takes up words of s
expression_fits : (s : List ℕ) (from : ℕ) (e : Expression) → Stands s from (words e)
    → from + length (words e) ≤ length s
expression_fits s from e h =
    let l = ap length h.eq ∙ length-append (words e) h.rest in
    omega (arith, length-drop from s, words_long e)

-- what `get` lends of a range is the expression that stands there; where it lends none, none does
pub names_between : (s : List ℕ) (from to : ℕ) (u r : InUse) (x : Bor (List ℕ)) → IsGetRangeResult s from to (Some x)
    → RevisionsMarked x.now u r → NamesMarked s from to u r
names_between s from to u r x ((i, j, is, m), k) g =
    record {
      marks = λ e f h t.
          let l : to - from ≡ length (words e) = omega arith in
          g.marks e (is ∙ ap (λ (n : ℕ). take n (drop from s)) l ∙ stands_take h) f;
    }

pub names_off : (s : List ℕ) (from to : ℕ) (u : InUse) → IsGetRangeResult s from to None → NamesMarked s from to u u
names_off s from to u (o, k) = record { marks = λ e f h t. go e h t o }
  where
    go : (e : Expression) → Stands s from (words e) → to ≡ from + length (words e) → (to < from) ⊎ (length s < to)
        → u.marks ≡ mark_all (named revision e) u.marks
    go e h t (inl o) = absurd (omega arith)
    go e h t (inr o) = absurd (omega (arith, expression_fits s from e h))

-- a section: its number, its two stores and its expression
pub section_uses : (s : List ℕ) (number at : ℕ) (parts : Parts) (u a b d r : InUse)
    → a.marks ≡ mark_all (revisions.section number) u.marks
    → MarksAt (counted cell_words) ValidStore (in_map revisions.entry) s at a.marks b.marks
    → MarksAt (counted cell_words) ValidStore (in_map revisions.entry) s parts.local b.marks d.marks
    → NamesMarked s parts.expression parts.end d r
    → SectionMarks (section_revisions number) s at parts u.marks r.marks
section_uses s number at parts u a b d r ga gb gd gr =
    let g = parts_marks revisions s at number parts u.marks a.marks b.marks d.marks r.marks ga gb gd gr.marks in
    record {
      marks = λ me v h c. g.marks me v h c ∙ ap (λ (ns : List ℕ). mark_all ns u.marks) (in_task number me);
    }

-- an image
pub in_use : (s : List ℕ) (u : InUse) (r : List Bool) → Clear u
    → MarksAt (counted task_words) (Listed ValidTask 63 0) (in_map (in_section revisions)) s 0 u.marks r
    → ImageMarks taken_revisions 64 s r
in_use s u r c g = image_marks (in_section revisions) taken_revisions in_state 64 s r (rw (sym c.marks) g)
