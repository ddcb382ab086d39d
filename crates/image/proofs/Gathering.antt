-- Marks gathered over items that stand one after the other: an entry, a section, and the loop over the items of a map.
use Prim.Native.Nat.{ℕ, ◌+◌, ◌-◌, ◌≤◌, ◌<◌}
use mathlib.Core.Bool.{Bool}
use mathlib.Core.List.{List, ◌++◌}
use mathlib.Core.Path.{◌≡◌, refl, sym, ap, ◌∙◌}
use native.Mathlib.Omega.{arith}
use lib.ListN.{length, get_or, take, drop, length-append}
use Rattle.calculus.specs.Maps.{Map}
use Rattle.calculus.specs.Expressions.{Expression}
use Rattle.calculus.specs.Words.{words}
use Rattle.calculus.specs.Formed.{Formed}
use Rattle.calculus.specs.Images.{counted, cell_words, task_words, Listed, ValidCell, ValidStore, ValidTask}
use Rattle.words.specs.Marks.{mark_all}
use Rattle.words.proofs.Marks.{mark_all_append}
use Rattle.image.specs.declared.parts.Parts.{Parts}
use Rattle.image.specs.Standing.{Stands, EndsAt}
use Rattle.image.specs.Cuts.{Past, PartsAt}
use Rattle.image.specs.Marks.{Taking, in_map, in_section, MarksOf, MarksAt, SectionMarks}
use Rattle.image.proofs.Standing.{headed, stands_left, stands_right, stands_at, stands_take}
use Rattle.image.proofs.Left.{Left, left_none, left_some, left_next}
use Rattle.image.proofs.Seeking.{cell_ends}

-- an entry
pub entry_marks : (t : Taking) (s : List ℕ) (at k q : ℕ) (m r : List Bool) → EndsAt s at q
    → MarksOf cell_words ValidCell (t.entry k) (take (q - at) (drop at s)) m r
    → MarksAt cell_words ValidCell (t.entry k) s at m r
entry_marks t s at k q m r e g =
    record {
      marks = λ c v h.
          let f = cell_ends s at q e c v h in
          let l : q - at ≡ length (cell_words c) = omega arith in
          g.marks c v (ap (λ (n : ℕ). take n (drop at s)) l ∙ stands_take h);
    }

-- a section that is cut at its parts
module _ (t : Taking) (s : List ℕ) (at k : ℕ) (parts : Parts) (m a b d r : List Bool) where
  pub parts_marks : a ≡ mark_all (t.section k) m → MarksAt (counted cell_words) ValidStore (in_map t.entry) s at a b
      → MarksAt (counted cell_words) ValidStore (in_map t.entry) s parts.local b d
      → ((e : Expression) → Formed e → Stands s parts.expression (words e)
      → parts.end ≡ parts.expression + length (words e) → r ≡ mark_all (t.expression e) d)
      → SectionMarks (in_section t k) s at parts m r
  unfolding task_words
  parts_marks ga gb gd gr =
      record {
        marks = λ me v h c.
            let f = counted cell_words me.snapshot in
            let o = counted cell_words me.local in
            let x = words me.expression in
            let K = t.section k in
            let X = in_map t.entry me.snapshot in
            let Y = in_map t.entry me.local in
            let Z = t.expression me.expression in
            let h2 : Stands s parts.local (o ++ x)
            = stands_at parts.local (sym c.local) (stands_right f (o ++ x) h) in
            let h3 : Stands s parts.expression x
            = stands_at parts.expression (sym c.expression) (stands_right o x h2) in
            let la = length-append f (o ++ x) in
            let lb = length-append o x in
            let l : parts.end ≡ parts.expression + length x
            = let e1 = c.local in let e2 = c.expression in let e3 = c.end in omega arith in
            gr me.expression v.expression.0 h3 l
            ∙ ap (mark_all Z) (gd.marks me.local v.local (stands_left o x h2))
            ∙ ap (λ (n : List Bool). mark_all Z (mark_all Y n)) (gb.marks me.snapshot v.snapshot (stands_left f (o ++ x) h))
            ∙ ap (λ (n : List Bool). mark_all Z (mark_all Y (mark_all X n))) ga
            ∙ sym
            (mark_all_append K (X ++ (Y ++ Z)) m
            ∙ mark_all_append X (Y ++ Z) (mark_all K m)
            ∙ mark_all_append Y Z (mark_all X (mark_all K m)));
      }

-- and one whose parts were found
module _ (t : Taking) (s : List ℕ) (at k : ℕ) (parts : Parts) (p : PartsAt s at parts) (m a b d r : List Bool) where
  pub section_marks : a ≡ mark_all (t.section k) m → MarksAt (counted cell_words) ValidStore (in_map t.entry) s at a b
      → MarksAt (counted cell_words) ValidStore (in_map t.entry) s parts.local b d
      → MarksOf words Formed t.expression (take (parts.end - parts.expression) (drop parts.expression s)) d r
      → MarksAt task_words ValidTask (in_section t k) s at m r
  section_marks ga gb gd gr =
      let g = parts_marks t s at k parts m a b d r ga gb gd
      (λ e f h l.
      let n : parts.end - parts.expression ≡ length (words e) = omega arith in
      gr.marks e f (ap (λ (n : ℕ). take n (drop parts.expression s)) n ∙ stands_take h)) in
      record { marks = λ me v h. g.marks me v h (p.cut me v h) }

-- the items of a map, each written by w
module _ {A : Type 0} (w : A → List ℕ) (ok : A → Type 0) (top : ℕ) (each : ℕ → A → List ℕ) where
  -- the items that are left are still to be marked
  pub record Marking (s : List ℕ) (at n : ℕ) (m₀ m : List Bool) (p i : ℕ) : Type 0 where
    pub sees : (x : Map A) → Listed ok top 0 x → Stands s at (counted w x)
        → Left w ok top s n p i (λ y. mark_all (in_map each x) m₀ ≡ mark_all (in_map each y) m)

  pub marking_start : (s : List ℕ) (at n : ℕ) (m : List Bool) → n ≡ get_or s at 0 → Marking s at n m m (at + 1) 0
  marking_start s at n m is =
      record {
        sees = λ x u h.
            let d = headed h in
            let e = d.is in
            record { map = x; low = 0; listed = u; stand = d.more; count = omega arith; holds = refl };
      }

  -- past the end of s no map stands
  pub marking_none : (s : List ℕ) (at : ℕ) (m : List Bool) → length s ≤ at
      → MarksAt (counted w) (Listed ok top 0) (in_map each) s at m m
  marking_none s at m o = record { marks = λ x u h. let q = (headed h).inside in absurd (omega arith) }

  module _ (s : List ℕ) (at n : ℕ) (m₀ m : List Bool) (p i : ℕ) (g : Marking s at n m₀ m p i) where
    -- at the end of the map
    pub marking_done : n ≤ i → MarksAt (counted w) (Listed ok top 0) (in_map each) s at m₀ m
    unfolding in_map mark_all
    marking_done l = record { marks = λ x u h. sym (left_none w ok top (g.sees x u h) l) }

    -- past the end of s
    pub marking_out : i < n → length s ≤ p → MarksAt (counted w) (Listed ok top 0) (in_map each) s at m₀ m
    marking_out l o =
        record {
          marks = λ x u h. left_some w ok top (g.sees x u h) l (λ y z t e. let q = t.inside in absurd (omega arith));
        }

    -- one item more
    pub marking_next : i < n → (q : ℕ) (v : List Bool) → Past w ok s (p + 1) q
        → MarksAt w ok (each (get_or s p 0)) s (p + 1) m v → Marking s at n m₀ v q (i + 1)
    unfolding in_map
    marking_next l q v past turn =
        record {
          sees = λ x u h.
              left_next w ok top (g.sees x u h) l q past
              (λ y z t e f.
              let made : v ≡ mark_all (each y.0 y.1) m
              = turn.marks y.1 t.valid t.item ∙ ap (λ (k : ℕ). mark_all (each k y.1) m) t.key in
              f
              ∙ mark_all_append (each y.0 y.1) (in_map each z) m
              ∙ ap (mark_all (in_map each z)) (sym made));
        }
