-- The marks of the sections that stand at the start of an image are those of its state.
use Prim.Native.Nat.{ℕ}
use mathlib.Core.Bool.{Bool, false}
use mathlib.Core.List.{List, [], append-nil}
use mathlib.Core.Path.{◌≡◌, sym, ap, ◌∙◌}
use lib.ListN.{replicate}
use Rattle.calculus.specs.States.{Task, State}
use Rattle.calculus.specs.Images.{counted, task_words, image, ValidTask, Listed}
use Rattle.words.specs.Marks.{mark_all}
use Rattle.words.proofs.Marks.{marks_of_mark_all}
use Rattle.image.specs.Standing.{Stands}
use Rattle.image.specs.Marks.{in_map, MarksAt, ImageMarks}

image_stands : (s : List ℕ) (x : State) → s ≡ image x → Stands s 0 (counted task_words x)
unfolding image
image_stands s x e = record { rest = []; eq = e ∙ sym (append-nil (counted task_words x)) }

pub image_marks : (each : ℕ → Task → List ℕ) (numbers : State → List ℕ)
    → ((x : State) → in_map each x ≡ numbers x) → (n : ℕ) (s : List ℕ) (r : List Bool)
    → MarksAt (counted task_words) (Listed ValidTask 63 0) (in_map each) s 0 (replicate n false) r
    → ImageMarks numbers n s r
image_marks each numbers same n s r g =
    record {
      marks = λ x v e.
          g.marks x v.tasks (image_stands s x e)
          ∙ ap (λ (ns : List ℕ). mark_all ns (replicate n false)) (same x)
          ∙ marks_of_mark_all n (numbers x);
    }
