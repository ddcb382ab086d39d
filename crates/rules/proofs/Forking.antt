-- fork: the child's section among words, the new number, and the image with the child.
use Prim.Native.Nat.{ℕ, ◌+◌, ◌<◌}
use mathlib.Core.Path.{◌≡◌, refl, sym, ap, ap₂, ◌∙◌}
use mathlib.Core.Logic.{◌≢◌, ◌⊎◌}
use mathlib.Core.Bool.{Bool, true, false, cond, ◌||◌}
use mathlib.Core.List.{List, [], ◌∷◌, ◌++◌, append_assoc}
use mathlib.Core.Option.{none, some}
use native.Mathlib.Omega.{arith}
use lib.ListN.{length, get_or, length-append}
use lib.Dec.{eqb, ltb}
use borrow.Author.Tests.{le-ltb, eq-eqb, ne_eqb}
use denote.MutBor.{MutBor}
use Rattle.std.specs.Fn.{Once}
use Rattle.calculus.specs.Maps.{put}
use Rattle.calculus.specs.Expressions.{revision, fork, Expression, leaf}
use Rattle.calculus.specs.Tags.{one_tag}
use Rattle.calculus.specs.Words.{words}
use Rattle.calculus.specs.Formed.{Formed, member}
use Rattle.calculus.specs.States.{Task, State, view}
use Rattle.calculus.specs.Images.{entries, counted, cell_words, task_words, image}
use Rattle.calculus.specs.Redexes.{Redex, forking, expression_at}
use Rattle.calculus.specs.Places.{Context, plug}
use Rattle.calculus.specs.NewNumbers.{named_in_task, taken_revisions, new_revision}
use Rattle.calculus.specs.Rules.{become, child as forked}
use Rattle.calculus.specs.Steps.{act}
use Rattle.calculus.proofs.Options.{false→ne}
use Rattle.calculus.proofs.Maps.{Tri, below as smaller, same, above, tri}
use Rattle.calculus.proofs.Members.{member_append}
use Rattle.calculus.proofs.NewNumbers.{smallest_is}
use Rattle.image.specs.Standing.{Stands, EndsAt}
use Rattle.image.specs.Cuts.{before, beyond, hits}
use Rattle.image.specs.Fresh.{as_option, NewRevision}
use Rattle.image.proofs.Standing.{headed, stands_left, stands_right, stands_at, stands_as}
use Rattle.image.proofs.Seeking.{before_onward, put_cut, miss_onward, entries_append}
use Rattle.image.proofs.Around.{put_here, put_left, put_right, before_left, before_right, hits_left, hits_right}
use Rattle.image.proofs.Around.{hits_past}
use Rattle.place.specs.Search.{suffix}
use Rattle.words.proofs.Ends.{words_long}
use Rattle.write.specs.Cursor.{part, Wrote}
use Rattle.write.proofs.Cursors.{part_stands, wrote_as, wrote_size, then}
use Rattle.rules.specs.declared.site.Site.{Site}
use Rattle.std.specs.Prelude.{Option, Some, None, Result, Ok, Err}
use Rattle.rules.specs.declared.site.Moved.TheVariants.{To}
use Rattle.rules.specs.declared.site.Refusal.TheVariants.{NoNumber}
use Rattle.rules.specs.declared.fork.Child.{Child}
use Rattle.rules.specs.Work.{Work, Acted, Acts}
use Rattle.rules.specs.Sections.{Finds, WroteOverlaid}
use Rattle.rules.specs.Splicing.{Writes, Spliced}
use Rattle.rules.specs.Forks.{StoresAt, child_words, with, WroteChild, WroteForked}
use Rattle.rules.proofs.Chunks.{task_words_lem, snapshot_stands, local_stands, redex_stands, me_valid, below, size}
use Rattle.rules.proofs.Chunks.{count_is, front, section_around, place_is, section_ends, rest_stands, part_rest}
use Rattle.rules.proofs.Redexes.{Is, is_forking, redex_is}
use Rattle.rules.proofs.Replacing.{redex_formed}
use Rattle.rules.proofs.Splicing.{spliced_before, spliced_among, spliced_after}
use Rattle.rules.proofs.Joining.{at_is}

pub child_done : (s : List ℕ) (site : Site) (child : Child) (o₀ o₁ o₂ o₃ o₄ : List ℕ) (to w x y r : ℕ)
    → Wrote (child.revision ∷ []) o₀ to w o₁ → WroteOverlaid s site.snapshot site.local o₁ w x o₂
    → Wrote (0 ∷ []) o₂ x y o₃ → Wrote (part s child.from child.end) o₃ y r o₄
    → WroteChild s site child o₀ to r o₄
unfolding child_words
child_done s site child o₀ o₁ o₂ o₃ o₄ to w x y r w₁ w₂ w₃ w₄ =
    let e₁ = wrote_size w₁ in
    let e₃ = wrote_size w₃ in
    let e₄ = wrote_size w₄ in
    let n = w₂.size in
    record {
      high = omega arith;
      size = e₄.0 ∙ e₃.0 ∙ n ∙ e₁.0;
      wrote = λ me a. then w₁
          (then (w₂.wrote me.snapshot me.local a.valid.snapshot a.valid.local a.snapshot a.local) (then w₃ w₄));
    }

-- what a closure writes that writes the child
module _ {F : Type 0} (g : Once F (MutBor (List ℕ) × (ℕ × Unit {0})) (ℕ × (MutBor (List ℕ) × Unit {0}))) (f : F)
    (s : List ℕ) (site : Site) (child : Child) where
  pub record WritesChild : Type 0 where
    pub at : (o : MutBor (List ℕ)) (to r : ℕ) (o' : MutBor (List ℕ)) → g.post f (o, (to, tt)) (r, (o', tt))
        → WroteChild s site child o.now to r o'.now

  writes_child : WritesChild → (me : Task) → StoresAt s site me → Writes g f (child_words s child me)
  writes_child w me a = record { at = λ o to r o' p. (w.at o to r o' p).wrote me a }

module _ (s : List ℕ) (site : Site) (child : Child) (n : ℕ) (o₀ o₁ o₂ o₃ o₄ : List ℕ) (v w x r : ℕ)
    {F G : Type 0} (g : Once F (MutBor (List ℕ) × (ℕ × Unit {0})) (ℕ × (MutBor (List ℕ) × Unit {0}))) (f : F)
    (h : Once G (MutBor (List ℕ) × (ℕ × Unit {0})) (ℕ × (MutBor (List ℕ) × Unit {0}))) (k : G) where
  pub forked_done : WritesChild g f s site child → WritesChild h k s site child
      → n ≡ get_or s 0 0 → Wrote ((n + 1) ∷ []) o₀ 0 v o₁
      → Spliced g f s 1 site.place child.at child.at o₁ v w o₂ → Wrote (6 ∷ child.revision ∷ []) o₂ w x o₃
      → Spliced h k s child.end (length s) child.at child.at o₃ x r o₄ → WroteForked s site child o₀ r o₄
  forked_done c₁ c₂ i w₁ w₂ w₃ w₄ =
      record {
        wrote = λ me a. then (wrote_as (ap (λ (n : ℕ). (n + 1) ∷ []) i) w₁)
            (then (w₂.wrote (child_words s child me) (writes_child g f s site child c₁ me a))
            (then w₃ (w₄.wrote (child_words s child me) (writes_child h k s site child c₂ me a))));
      }

-- a new number is no live revision's
or_no : (a b : Bool) → (a || b) ≡ false → (a ≡ false) × (b ≡ false)
or_no true b h = let z : ◌≡◌ {A = ℕ} 0 1 = cc in absurd (omega arith)
or_no false b h = (refl, h)

fresh_misses : (q : ℕ) (st : State) → member q (taken_revisions st) ≡ false → hits q st ≡ false
unfolding taken_revisions member hits
fresh_misses q [] h = refl
fresh_misses q (e ∷ st) h =
    let (a, b) = or_no (eqb q e.0) (member q (named_in_task revision e.1 ++ taken_revisions st)) h in
    let (x, y) = or_no (member q (named_in_task revision e.1)) (member q (taken_revisions st))
    (sym (member_append q (named_in_task revision e.1) (taken_revisions st)) ∙ b) in
    let d = false→ne q e.0 a in
    go (ltb e.0 q) (fresh_misses q st y) (ne_eqb e.0 q (λ z. d (sym z)))
  where
    go : (b : Bool) → hits q st ≡ false → eqb e.0 q ≡ false → cond b (hits q st) (eqb e.0 q) ≡ false
    go true h i = h
    go false h i = i

-- the words of the next image, from what is copied
left_words : (n q r : ℕ) (F C G H Q B : List ℕ)
    → n ∷ ((F ++ ((q ∷ C) ++ (G ++ (r ∷ H)))) ++ (6 ∷ q ∷ (Q ++ B)))
    ≡ n ∷ ((F ++ (q ∷ (C ++ G))) ++ (r ∷ ((H ++ (6 ∷ q ∷ Q)) ++ B)))
left_words n q r F C G H Q B = simp append_assoc

right_words : (n q r : ℕ) (X H Q F C G : List ℕ)
    → n ∷ ((X ++ (r ∷ H)) ++ (6 ∷ q ∷ ((Q ++ F) ++ ((q ∷ C) ++ G))))
    ≡ n ∷ (X ++ (r ∷ ((H ++ (6 ∷ q ∷ Q)) ++ (F ++ (q ∷ (C ++ G))))))
right_words n q r X H Q F C G = simp append_assoc

swapped : (n q : ℕ) {a a' b b' : List ℕ} → a ≡ a' → b ≡ b' → n ∷ (a ++ (6 ∷ q ∷ b)) ≡ n ∷ (a' ++ (6 ∷ q ∷ b'))
swapped n q e f = cc

module _
    (s : List ℕ) (site : Site) (st : State) (me : Task) (E : Context) (z : Expression)
    (w : Work s site st me E (forking z)) (q : ℕ) (new : new_revision st ≡ some q)
  where
    abbrev r : ℕ
    r = site.revision

    abbrev p : ℕ
    p = site.place

    abbrev X : State
    X = w.lower

    abbrev Y : State
    Y = w.upper

    abbrev H : List ℕ
    H = front s site st me E (forking z) w

    -- the parent and the child after the fork
    abbrev parent : Task
    parent = become me me.local (plug E (leaf revision q))

    parent_words : task_words parent ≡ H ++ (6 ∷ q ∷ suffix E)
    unfolding front words
    parent_words = task_words_lem me me.local E (leaf revision q) ∙ simp append_assoc

    child_words_lem : task_words (forked me z) ≡ counted cell_words (view me) ++ (0 ∷ words z)
    unfolding task_words
    child_words_lem = refl

    free : hits q st ≡ false
    free = fresh_misses q st (smallest_is 64 0 (taken_revisions st) new).free

    other : q ≢ r
    unfolding hits
    other e =
        let b = below s site st me E (forking z) w in
        let h : hits r st ≡ true
        = ap (hits r) w.split ∙ hits_past r X ((r, me) ∷ Y) b
        ∙ rw (le-ltb r r (omega arith), eq-eqb r r refl) refl in
        let y : true ≡ false = sym h ∙ ap (λ k. hits k st) (sym e) ∙ free in
        let y : ◌≡◌ {A = ℕ} 0 1 = cc in omega arith

    put_parent : put r parent st ≡ X ++ ((r, parent) ∷ Y)
    put_parent = ap (put r parent) w.split ∙ put_here r parent Y me X (below s site st me E (forking z) w)

    -- the fork's body
    body : (e : ℕ) → EndsAt s (p + 1) e
        → (part s (p + 1) e ≡ words z) × (e ≡ p + length (words (expression_at (forking z))))
    unfolding words Formed
    body e ends =
        let h = headed (redex_stands s site st me E (forking z) w) in
        let i = ends.ends z (redex_formed w) h.more in
        (part_stands e h.more i, omega arith)

    module _ (at end : ℕ) (ai : at ≡ 1 + length (entries task_words (before q st))) (ends : EndsAt s (p + 1) end) where
      abbrev c : Child
      c = record { revision = q; at = at; from = p + 1; end = end }

      section : List ℕ
      section = counted cell_words (view me) ++ (0 ∷ words z)

      section_is : child_words s c me ≡ q ∷ section
      unfolding child_words section
      section_is = ap (λ l. q ∷ (counted cell_words (view me) ++ (0 ∷ l))) (body end ends).0

      abbrev after : State
      after = put q (forked me z) (put r parent st)

      left_image : q < r → (get_or s 0 0 + 1) ∷ (with s 1 p c me ++ (6 ∷ q ∷ with s end (length s) c me)) ≡ image after
      unfolding image section
      left_image l =
          let h_x : hits q X ≡ false = sym (hits_left r me Y q l X) ∙ ap (hits q) (sym w.split) ∙ free in
          let F = entries task_words (before q X) in
          let G = entries task_words (beyond q X) in
          let c_x : X ≡ before q X ++ beyond q X = before_onward q X ∙ ap (λ y. before q X ++ y) (miss_onward q X h_x) in
          let e_x : entries task_words X ≡ F ++ G
          = ap (entries task_words) c_x ∙ entries_append task_words (before q X) (beyond q X) in
          let a₁ : at ≡ 1 + length F
          = ai ∙ ap (λ y. 1 + length (entries task_words y)) (ap (before q) w.split ∙ before_left r me Y q l X) in
          let T = words (expression_at (forking z)) ++ (suffix E ++ entries task_words Y) in
          let t₁ : Stands s 1 (F ++ ((G ++ (r ∷ H)) ++ T))
          = stands_as (ap (λ y. (y ++ (r ∷ H)) ++ T) e_x ∙ simp append_assoc)
          (section_around s site st me E (forking z) w) in
          let t₂ = stands_at at (sym a₁) (stands_right F _ t₁) in
          let pl = place_is s site st me E (forking z) w in
          let l_x = length-append (entries task_words X) (r ∷ H) in
          let l_f = ap length e_x ∙ length-append F G in
          let l_g = length-append G (r ∷ H) in
          let e₁ = (body end ends).1 in
          let p₁ : with s 1 p c me ≡ F ++ ((q ∷ section) ++ (G ++ (r ∷ H)))
          = spliced_among s 1 p at at (child_words s c me) (omega arith) (omega arith)
          ∙ ap₂ (λ a b. a ++ b) (part_stands at (stands_left F _ t₁) a₁)
          (ap₂ (λ a b. a ++ b) section_is (part_stands p (stands_left (G ++ (r ∷ H)) T t₂) (omega arith))) in
          let p₂ : with s end (length s) c me ≡ suffix E ++ entries task_words Y
          = spliced_before s end (length s) at at (child_words s c me) (omega arith)
          ∙ part_rest s site st me E (forking z) w end e₁ in
          let pu : after ≡ (before q X ++ ((q, forked me z) ∷ beyond q X)) ++ ((r, parent) ∷ Y)
          = ap (put q (forked me z)) put_parent ∙ put_left r parent Y q l (forked me z) X
          ∙ ap (λ y. y ++ ((r, parent) ∷ Y)) (put_cut q (forked me z) X) in
          let n₁ = ap length pu ∙ length-append (before q X ++ ((q, forked me z) ∷ beyond q X)) ((r, parent) ∷ Y) in
          let n₂ = length-append (before q X) ((q, forked me z) ∷ beyond q X) in
          let n₃ = ap length w.split ∙ length-append X ((r, me) ∷ Y) in
          let n₄ = ap length c_x ∙ length-append (before q X) (beyond q X) in
          let n₅ = count_is s site st me E (forking z) w in
          let n : get_or s 0 0 + 1 ≡ length after = omega arith in
          swapped (get_or s 0 0 + 1) q p₁ p₂
          ∙ left_words (get_or s 0 0 + 1) q r F section G H (suffix E) (entries task_words Y)
          ∙ ap₂ (λ (n : ℕ) (y : List ℕ). n ∷ y) n (sym (ap (entries task_words) pu
          ∙ entries_append task_words (before q X ++ ((q, forked me z) ∷ beyond q X)) ((r, parent) ∷ Y)
          ∙ ap₂ (λ a b. a ++ (r ∷ (b ++ entries task_words Y)))
          (entries_append task_words (before q X) ((q, forked me z) ∷ beyond q X)
          ∙ ap (λ y. F ++ (q ∷ (y ++ G))) child_words_lem) parent_words))

      right_image : r < q → (get_or s 0 0 + 1) ∷ (with s 1 p c me ++ (6 ∷ q ∷ with s end (length s) c me)) ≡ image after
      unfolding image section
      right_image l =
          let b_x = below s site st me E (forking z) w in
          let h_y : hits q Y ≡ false = sym (hits_right r me Y q l X b_x) ∙ ap (hits q) (sym w.split) ∙ free in
          let F = entries task_words (before q Y) in
          let G = entries task_words (beyond q Y) in
          let c_y : Y ≡ before q Y ++ beyond q Y = before_onward q Y ∙ ap (λ y. before q Y ++ y) (miss_onward q Y h_y) in
          let e_y : entries task_words Y ≡ F ++ G
          = ap (entries task_words) c_y ∙ entries_append task_words (before q Y) (beyond q Y) in
          let f₁ : entries task_words (before q st) ≡ entries task_words X ++ (r ∷ (task_words me ++ F))
          = ap (entries task_words) (ap (before q) w.split ∙ before_right r me Y q l X b_x)
          ∙ entries_append task_words X ((r, me) ∷ before q Y) in
          let lf = ap length f₁ ∙ length-append (entries task_words X) (r ∷ (task_words me ++ F)) in
          let lm = length-append (task_words me) F in
          let T = words (expression_at (forking z)) ++ (suffix E ++ entries task_words Y) in
          let t₁ = section_around s site st me E (forking z) w in
          let e₁ = (body end ends).1 in
          let t₂ = stands_as (ap (λ y. suffix E ++ y) e_y ∙ sym (append_assoc (suffix E) F G))
          (rest_stands s site st me E (forking z) w end e₁) in
          let pl = place_is s site st me E (forking z) w in
          let se = section_ends s site st me E (forking z) w in
          let sz = size s site st me E (forking z) w in
          let l_x = length-append (entries task_words X) (r ∷ H) in
          let lq = length-append (suffix E) (entries task_words Y) in
          let ly = ap length e_y ∙ length-append F G in
          let l_q = length-append (suffix E) F in
          let wl = words_long (expression_at (forking z)) in
          let a₁ : at ≡ end + length (suffix E ++ F) = omega arith in
          let p₁ : with s 1 p c me ≡ entries task_words X ++ (r ∷ H)
          = spliced_after s 1 p at at (child_words s c me) (omega arith) (omega arith)
          ∙ part_stands p (stands_left (entries task_words X ++ (r ∷ H)) T t₁) pl in
          let p₂ : with s end (length s) c me ≡ (suffix E ++ F) ++ ((q ∷ section) ++ G)
          = spliced_among s end (length s) at at (child_words s c me) (omega arith) (omega arith)
          ∙ ap₂ (λ a b. a ++ b) (part_stands at (stands_left (suffix E ++ F) G t₂) a₁)
          (ap₂ (λ a b. a ++ b) section_is
          (part_stands (length s) (stands_at at (sym a₁) (stands_right (suffix E ++ F) G t₂)) (omega arith))) in
          let pu : after ≡ X ++ ((r, parent) ∷ (before q Y ++ ((q, forked me z) ∷ beyond q Y)))
          = ap (put q (forked me z)) put_parent ∙ put_right r parent Y q l X b_x (forked me z)
          ∙ ap (λ y. X ++ ((r, parent) ∷ y)) (put_cut q (forked me z) Y) in
          let n₁ = ap length pu ∙ length-append X ((r, parent) ∷ (before q Y ++ ((q, forked me z) ∷ beyond q Y))) in
          let n₂ = length-append (before q Y) ((q, forked me z) ∷ beyond q Y) in
          let n₃ = ap length w.split ∙ length-append X ((r, me) ∷ Y) in
          let n₄ = ap length c_y ∙ length-append (before q Y) (beyond q Y) in
          let n₅ = count_is s site st me E (forking z) w in
          let n : get_or s 0 0 + 1 ≡ length after = omega arith in
          swapped (get_or s 0 0 + 1) q p₁ p₂
          ∙ right_words (get_or s 0 0 + 1) q r (entries task_words X) H (suffix E) F section G
          ∙ ap₂ (λ (n : ℕ) (y : List ℕ). n ∷ y) n (sym (ap (entries task_words) pu
          ∙ entries_append task_words X ((r, parent) ∷ (before q Y ++ ((q, forked me z) ∷ beyond q Y)))
          ∙ ap₂ (λ a b. entries task_words X ++ (r ∷ (b ++ a)))
          (entries_append task_words (before q Y) ((q, forked me z) ∷ beyond q Y)
          ∙ ap (λ y. F ++ (q ∷ (y ++ G))) child_words_lem) parent_words))

      next_image : (o : List ℕ) (to : ℕ) (o' : List ℕ)
          → Wrote ((get_or s 0 0 + 1) ∷ (with s 1 p c me ++ (6 ∷ q ∷ with s end (length s) c me))) o 0 to o'
          → Wrote (image after) o 0 to o'
      next_image o to o' wr = go (tri q r)
        where
          go : Tri q r → Wrote (image after) o 0 to o'
          go (smaller l) = wrote_as (left_image l) wr
          go (same e) = absurd (other e)
          go (above l) = wrote_as (right_image l) wr

-- the answers
module _ (s : List ℕ) (site : Site) (n : Option ℕ) (f : NewRevision s n) (o : List ℕ) where
  pub fork_full : n ≡ None → Acts 13 s site o (Err NoNumber) o
  fork_full e =
      record { acts = λ st me E R w g. go st me E R w (redex_is R (one_tag fork) (redex_stands s site st me E R w) g) }
    where
      go : (st : State) (me : Task) (E : Context) (R : Redex) → Work s site st me E R → Is (one_tag fork) R
          → Acted (act site.revision st me E R) o (Err NoNumber) o
      go st me E R w (is_forking z) =
          let h : new_revision st ≡ none = sym (f.is st w.valid w.is) ∙ ap as_option e in
          rw h (refl, refl)

  pub fork_done : (q : ℕ) → n ≡ Some q → (end : ℕ) → EndsAt s (site.place + 1) end → (k : Result ℕ ℕ) → Finds s q k
      → (j at : ℕ) → (k ≡ Ok j) ⊎ (k ≡ Err j) → at ≡ j → (r : ℕ) (o' : List ℕ)
      → WroteForked s site (record { revision = q; at = at; from = site.place + 1; end = end }) o r o'
      → Acts 13 s site o (Ok (To r)) o'
  fork_done q e end ends k kf j at i ji r o' wr =
      record { acts = λ st me E R w g. go st me E R w (redex_is R (one_tag fork) (redex_stands s site st me E R w) g) }
    where
      go : (st : State) (me : Task) (E : Context) (R : Redex) → Work s site st me E R → Is (one_tag fork) R
          → Acted (act site.revision st me E R) o (Ok (To r)) o'
      go st me E R w (is_forking z) =
          let h : new_revision st ≡ some q = sym (f.is st w.valid w.is) ∙ ap as_option e in
          let a : StoresAt s site me
          = record {
            valid = me_valid s site st me E (forking z) w;
            snapshot = snapshot_stands s site st me E (forking z) w;
            local = local_stands s site st me E (forking z) w;
          } in
          let at_q = ji ∙ at_is s st w.valid w.is q k kf j i in
          let x = next_image s site st me E z w q h at end at_q ends o r o' (wr.wrote me a) in
          rw h (r, refl, x)
