-- An image in chunks around the redex of a revision at work: what stands where, and the next image in the same chunks.
use Prim.Native.Nat.{ℕ, suc, ◌+◌, ◌<◌, ◌≤◌}
use mathlib.Core.Path.{◌≡◌, refl, sym, ap, ap₂, ◌∙◌, subst}
use mathlib.Core.List.{List, [], ◌∷◌, ◌++◌, append_assoc, append-nil}
use native.Mathlib.Omega.{arith}
use lib.ListN.{length, get_or, length-append}
use Rattle.calculus.specs.Maps.{Map, put}
use Rattle.calculus.specs.Expressions.{Expression}
use Rattle.calculus.specs.Words.{words}
use Rattle.calculus.specs.Stores.{Store}
use Rattle.calculus.specs.States.{Task, State}
use Rattle.calculus.specs.Images.{entries, counted, cell_words, task_words, image, Listed, ValidCell, ValidTask}
use Rattle.calculus.specs.Redexes.{Redex, expression_at}
use Rattle.calculus.specs.Places.{Context, plug}
use Rattle.calculus.specs.Rules.{become}
use Rattle.calculus.proofs.Places.{decomposed_plug}
use Rattle.image.specs.Standing.{Stands}
use Rattle.image.proofs.Seeking.{entries_append}
use Rattle.image.proofs.Around.{Below, put_here}
use Rattle.image.proofs.Standing.{headed, stands_left, stands_right, stands_at, stands_as}
use Rattle.place.specs.Search.{prefix, suffix}
use Rattle.place.proofs.Contexts.{words_plug}
use Rattle.write.specs.Cursor.{part}
use Rattle.write.proofs.Cursors.{part_stands}
use Rattle.rules.specs.declared.site.Site.{Site}
use Rattle.rules.specs.Work.{Work, Working}
use Rattle.words.proofs.Ends.{words_long}
use Rattle.calculus.proofs.Images.{listed_length}

pub stands_all : (s ws : List ℕ) → s ≡ ws → Stands s 0 ws
stands_all s ws e = record { rest = []; eq = e ∙ sym (append-nil ws) }

-- a listed map is listed on either side of an entry, whose key is above those before it
module _ {A : Type 0} (ok : A → Type 0) (b : ℕ) where
  pub listed_here : (X : Map A) (low k : ℕ) (a : A) (Y : Map A) → Listed ok b low (X ++ ((k, a) ∷ Y))
      → (low ≤ k) × (k ≤ b) × ok a × Listed ok b (suc k) Y × Below k X
  unfolding Listed
  listed_here [] low k a Y (x, y, o, r) = (x, y, o, r, tt)
  listed_here (e ∷ X) low k a Y (x, y, o, r) =
      let (p, q, s, t, u) = listed_here X (suc e.0) k a Y r in (omega arith, q, s, t, (p, u))

-- the image of a state after a task is put in the place of another
pub image_put : (r : ℕ) (K J : Task) (st X Y : State) → Below r X → st ≡ X ++ ((r, J) ∷ Y)
    → image (put r K st) ≡ length st ∷ (entries task_words X ++ (r ∷ (task_words K ++ entries task_words Y)))
unfolding image
image_put r K J st X Y b h =
    let e : put r K st ≡ X ++ ((r, K) ∷ Y) = ap (put r K) h ∙ put_here r K Y J X b in
    let n : length (put r K st) ≡ length st
    = ap length e ∙ length-append X ((r, K) ∷ Y) ∙ sym (ap length h ∙ length-append X ((r, J) ∷ Y)) in
    ap₂ (λ (n : ℕ) (l : List ℕ). n ∷ l) n (ap (entries task_words) e ∙ entries_append task_words X _)

-- the words of a task with another local store and another expression in its context
pub task_words_lem : (me : Task) (m : Store) (E : Context) (e : Expression) → task_words (become me m (plug E e))
    ≡ counted cell_words me.snapshot ++ (counted cell_words m ++ (prefix E ++ (words e ++ suffix E)))
unfolding task_words
task_words_lem me m E e = ap (λ l. counted cell_words me.snapshot ++ (counted cell_words m ++ l)) (words_plug E e)

module _ (s : List ℕ) (site : Site) (st : State) (me : Task) (E : Context) (R : Redex) (w : Work s site st me E R) where
  -- the words before the task's, and those after them
  abbrev pub A : List ℕ
  A = length st ∷ (entries task_words w.lower ++ (site.revision ∷ []))

  abbrev pub B : List ℕ
  B = entries task_words w.upper

  -- the image's words after the snapshot, after the local store, after the context's front
  abbrev C₃ : List ℕ
  C₃ = words (expression_at R) ++ (suffix E ++ B)

  abbrev C₂ : List ℕ
  C₂ = prefix E ++ C₃

  abbrev C₁ : List ℕ
  C₁ = counted cell_words me.local ++ C₂

  pub plugged : plug E (expression_at R) ≡ me.expression
  plugged = decomposed_plug w.decomposed

  pub image_split : s ≡ length st ∷ (entries task_words w.lower ++ (site.revision ∷ (task_words me ++ B)))
  unfolding image
  image_split =
      w.is ∙ ap (λ l. length st ∷ l) (ap (entries task_words) w.split ∙ entries_append task_words w.lower _)

  around : s ≡ A ++ (task_words me ++ B)
  around =
      image_split ∙ ap (λ l. length st ∷ l) (sym (append_assoc (entries task_words w.lower) (site.revision ∷ []) _))

  pub all : s ≡ A ++ (counted cell_words me.snapshot ++ C₁)
  unfolding task_words
  all =
      around
      ∙ ap (λ l. A ++ ((counted cell_words me.snapshot ++ (counted cell_words me.local ++ l)) ++ B))
      (ap words (sym plugged) ∙ words_plug E (expression_at R))
      ∙ simp append_assoc

  start : site.snapshot ≡ length A
  start =
      let h = w.snapshot in let l = length-append (entries task_words w.lower) (site.revision ∷ []) in omega arith

  at_snapshot : Stands s site.snapshot (counted cell_words me.snapshot ++ C₁)
  at_snapshot = stands_at site.snapshot (let h = start in omega arith) (stands_right A _ (stands_all s _ all))

  at_local : Stands s site.local C₁
  at_local = stands_at site.local (sym w.local) (stands_right (counted cell_words me.snapshot) _ at_snapshot)

  at_expression : Stands s site.expression C₂
  at_expression =
      stands_at site.expression (sym w.expression) (stands_right (counted cell_words me.local) _ at_local)

  at_place : Stands s site.place C₃
  at_place = stands_at site.place (sym w.place) (stands_right (prefix E) _ at_expression)

  pub snapshot_stands : Stands s site.snapshot (counted cell_words me.snapshot)
  snapshot_stands = stands_left (counted cell_words me.snapshot) _ at_snapshot

  pub local_stands : Stands s site.local (counted cell_words me.local)
  local_stands = stands_left (counted cell_words me.local) _ at_local

  pub redex_stands : Stands s site.place (words (expression_at R))
  redex_stands = stands_left (words (expression_at R)) _ at_place

  pub size : length s ≡ site.place + (length (words (expression_at R)) + length (suffix E ++ B))
  size =
      let h = start in
      let i = w.local in
      let j = w.expression in
      let k = w.place in
      let l₀ = length-append A (counted cell_words me.snapshot ++ C₁) in
      let l₁ = length-append (counted cell_words me.snapshot) C₁ in
      let l₂ = length-append (counted cell_words me.local) C₂ in
      let l₃ = length-append (prefix E) C₃ in
      let l₄ = length-append (words (expression_at R)) (suffix E ++ B) in
      let l = ap length all in
      omega arith

  -- the sections from the first on, their count, and where the site's ends
  pub sections_stand : Stands s 1 (entries task_words w.lower ++ (site.revision ∷ (task_words me ++ B)))
  sections_stand = stands_at 1 refl (headed (stands_all s _ image_split)).more

  pub count_is : get_or s 0 0 ≡ length st
  count_is = (headed (stands_all s _ image_split)).is

  -- the words of the task's section up to the redex
  unfoldable pub front : List ℕ
  front = counted cell_words me.snapshot ++ (counted cell_words me.local ++ prefix E)

  pub section_around : Stands s 1 ((entries task_words w.lower ++ (site.revision ∷ front))
      ++ (words (expression_at R) ++ (suffix E ++ B)))
  unfolding task_words front
  section_around =
      stands_as (ap (λ l. entries task_words w.lower
      ++ (site.revision ∷ ((counted cell_words me.snapshot ++ (counted cell_words me.local ++ l)) ++ B)))
      (ap words (sym plugged) ∙ words_plug E (expression_at R)) ∙ simp append_assoc) sections_stand

  pub place_is : site.place ≡ 1 + length (entries task_words w.lower ++ (site.revision ∷ front))
  unfolding front
  place_is =
      let h = w.snapshot in
      let i = w.local in
      let j = w.expression in
      let k = w.place in
      let l = length-append (entries task_words w.lower) (site.revision ∷ front) in
      let l₁ = length-append (counted cell_words me.snapshot) (counted cell_words me.local ++ prefix E) in
      let l₂ = length-append (counted cell_words me.local) (prefix E) in
      omega arith

  pub section_ends : 1 + (length (entries task_words w.lower) + (1 + length (task_words me)))
      ≡ site.place + (length (words (expression_at R)) + length (suffix E))
  section_ends =
      let z = size in
      let l = ap length image_split in
      let l₁ = length-append (entries task_words w.lower) (site.revision ∷ (task_words me ++ B)) in
      let l₂ = length-append (task_words me) B in
      let l₃ = length-append (suffix E) B in
      omega arith

  pub me_valid : ValidTask me
  me_valid =
      let (p, q, v, r, u) = listed_here ValidTask 63 w.lower 0 site.revision me w.upper
      (subst (Listed ValidTask 63 0) w.split w.valid.tasks) in
      v

  pub below : Below site.revision w.lower
  below =
      let (p, q, v, r, u) = listed_here ValidTask 63 w.lower 0 site.revision me w.upper
      (subst (Listed ValidTask 63 0) w.split w.valid.tasks) in
      u

  -- the parts that are copied
  pub part_front : part s 0 site.local ≡ A ++ counted cell_words me.snapshot
  part_front =
      part_stands site.local
      (stands_left (A ++ counted cell_words me.snapshot) _
      (stands_all s _ (all ∙ sym (append_assoc A (counted cell_words me.snapshot) _))))
      (let h = start in
      let i = w.local in
      let l = length-append A (counted cell_words me.snapshot) in
      omega arith)

  pub part_prefix : part s site.expression site.place ≡ prefix E
  part_prefix = part_stands site.place (stands_left (prefix E) _ at_expression) w.place

  pub rest_stands : (e : ℕ) → e ≡ site.place + length (words (expression_at R)) → Stands s e (suffix E ++ B)
  rest_stands e i = stands_at e (sym i) (stands_right (words (expression_at R)) _ at_place)

  pub part_rest : (e : ℕ) → e ≡ site.place + length (words (expression_at R)) → part s e (length s) ≡ suffix E ++ B
  part_rest e i = part_stands (length s) (rest_stands e i) (let z = size in omega arith)

  pub part_before : part s 0 site.place ≡ (A ++ counted cell_words me.snapshot) ++
      (counted cell_words me.local ++ prefix E)
  part_before =
      part_stands site.place
      (stands_left ((A ++ counted cell_words me.snapshot) ++ (counted cell_words me.local ++ prefix E)) C₃
      (stands_all s _ (all ∙ simp append_assoc)))
      (let h = start in
      let i = w.local in
      let j = w.expression in
      let k = w.place in
      let l = length-append A (counted cell_words me.snapshot) in
      let l₁ = length-append (A ++ counted cell_words me.snapshot) (counted cell_words me.local ++ prefix E) in
      let l₂ = length-append (counted cell_words me.local) (prefix E) in
      omega arith)

  -- the next image
  anew : (K : Task) → image (put site.revision K st) ≡ A ++ (task_words K ++ B)
  anew K =
      image_put site.revision K me st w.lower w.upper below w.split
      ∙ ap (λ l. length st ∷ l) (sym (append_assoc (entries task_words w.lower) (site.revision ∷ []) _))

  pub next_image : (m : Store) (e : Expression) → image (put site.revision (become me m (plug E e)) st)
      ≡ (A ++ counted cell_words me.snapshot) ++ (counted cell_words m ++ (prefix E ++ (words e ++ (suffix E ++ B))))
  next_image m e =
      anew (become me m (plug E e)) ∙ ap (λ l. A ++ (l ++ B)) (task_words_lem me m E e) ∙ simp append_assoc

  -- where only the expression changes: the words up to the redex, the new ones, and those after the redex
  pub replaced_image : (e : Expression) (end : ℕ) → end ≡ site.place + length (words (expression_at R))
      → image (put site.revision (become me me.local (plug E e)) st)
      ≡ part s 0 site.place ++ (words e ++ part s end (length s))
  replaced_image e end i =
      next_image me.local e ∙ sym
      (ap₂ (λ a b. a ++ (words e ++ b)) part_before (part_rest end i) ∙ simp append_assoc)

-- the positions of a site lie in the words
pub record Bounds (s : List ℕ) (site : Site) : Type 0 where
  pub snapshot : site.snapshot < length s
  pub local : site.local < length s
  pub expression : site.expression ≤ length s
  pub place : site.place < length s
  pub old : get_or s site.snapshot 0 ≤ 256
  pub own : get_or s site.local 0 ≤ 256
  pub some : 0 < get_or s 0 0
  pub few : get_or s 0 0 ≤ 64

pub bounds : {tag : ℕ} {s : List ℕ} {site : Site} → Working tag s site → Bounds s site
bounds {s = s} {site} k =
    let w = k.work in
    let h₁ = headed (snapshot_stands s site k.state k.me k.context k.redex w) in
    let h₂ = headed (local_stands s site k.state k.me k.context k.redex w) in
    let v = me_valid s site k.state k.me k.context k.redex w in
    let z = size s site k.state k.me k.context k.redex w in
    let l = words_long (expression_at k.redex) in
    let i = w.place in
    let n₁ = listed_length ValidCell 255 k.me.snapshot 0 v.snapshot (omega arith) in
    let n₂ = listed_length ValidCell 255 k.me.local 0 v.local (omega arith) in
    let e₁ = h₁.is in
    let e₂ = h₂.is in
    let n = count_is s site k.state k.me k.context k.redex w in
    let n₃ = listed_length ValidTask 63 k.state 0 w.valid.tasks (omega arith) in
    let n₄ = ap length w.split ∙ length-append w.lower ((site.revision, k.me) ∷ w.upper) in
    record {
      snapshot = h₁.inside;
      local = h₂.inside;
      expression = omega arith;
      place = omega arith;
      old = omega arith;
      own = omega arith;
      some = omega arith;
      few = omega arith;
    }
