-- join: the section that is joined, and the image without it.
use Prim.Native.Nat.{ℕ, suc, ◌+◌, ◌-◌, ◌<◌, ◌≤◌}
use mathlib.Core.Path.{◌≡◌, refl, sym, ap, ap₂, ◌∙◌, subst}
use mathlib.Core.Logic.{◌≢◌, ◌⊎◌, inl, inr}
use mathlib.Core.Bool.{Bool, true, false, cond}
use mathlib.Core.List.{List, [], ◌∷◌, ◌++◌, append_assoc}
use mathlib.Core.Option.{none, some}
use native.Mathlib.Omega.{arith}
use lib.ListN.{length, get_or, length-append}
use lib.Dec.{eqb}
use Rattle.calculus.specs.Maps.{Map, get, put, remove, overlaid}
use Rattle.calculus.specs.Expressions.{unit, join, Expression, constant, leaf, lambda, one, two, if}
use Rattle.calculus.specs.Tags.{one_tag}
use Rattle.calculus.specs.Words.{words}
use Rattle.calculus.specs.Formed.{value}
use Rattle.calculus.specs.States.{Task, State, absorbed}
use Rattle.calculus.specs.Images.{entries, counted, cell_words, task_words, image, Valid, ValidCell, ValidTask}
use Rattle.calculus.specs.Redexes.{Redex, joining}
use Rattle.calculus.specs.Places.{Context, plug}
use Rattle.calculus.specs.Rules.{become}
use Rattle.calculus.specs.Steps.{act}
use Rattle.calculus.proofs.Options.{some_inj}
use Rattle.calculus.proofs.Maps.{Tri, below as smaller, same, above, tri, or_else, get_none, get_head, get_tail}
use Rattle.calculus.proofs.Images.{listed_length}
use Rattle.calculus.proofs.Places.{decomposed_not_value}
use Rattle.calculus.proofs.Validity.{listed_get, listed_rising}
use Rattle.image.specs.declared.parts.Parts.{Parts}
use Rattle.image.specs.Standing.{Stands}
use Rattle.image.specs.Cuts.{before, onward, beyond, hits, Cut, PartsAt}
use Rattle.image.proofs.Standing.{headed, stands_left, stands_right, stands_at, stands_as}
use Rattle.image.proofs.Seeking.{before_onward, Hit, hit, miss, entries_append, placed_hit, placed_miss}
use Rattle.image.proofs.Around.{Below, below_parts, below_append, remove_left, remove_right, before_left, before_right}
use Rattle.image.proofs.Around.{hits_left, hits_right}
use Rattle.place.specs.Search.{top_tag, prefix, suffix}
use Rattle.place.proofs.Tags.{told_small, told_large}
use Rattle.write.specs.Cursor.{part, Wrote}
use Rattle.write.proofs.Cursors.{part_stands, wrote_as}
use Rattle.rules.specs.declared.site.Site.{Site}
use Rattle.std.specs.Prelude.{Result, Ok, Err}
use Rattle.rules.specs.declared.site.Moved.{Moved}
use Rattle.rules.specs.declared.site.Moved.TheVariants.{To, Emptied}
use Rattle.rules.specs.declared.site.Refusal.{Refusal}
use Rattle.rules.specs.declared.site.Refusal.TheVariants.{Waits}
use Rattle.rules.specs.Work.{Work, Working, Acted, Acts}
use Rattle.rules.specs.Splicing.{spliced}
use Rattle.rules.specs.Sections.{Finds, Joinable, WroteJoined}
use Rattle.rules.proofs.Chunks.{stands_all, image_put, task_words_lem, redex_stands, local_stands, me_valid}
use Rattle.rules.proofs.Chunks.{below, size, count_is, sections_stand, section_ends, rest_stands, part_prefix}
use Rattle.rules.proofs.Chunks.{part_rest}
use Rattle.rules.proofs.Redexes.{Is, is_joining, redex_is}
use Rattle.rules.proofs.Splicing.{spliced_before, spliced_among, spliced_after}

-- maps one after the other, and smaller keys
get_append : {A : Type 0} (k : ℕ) (m n : Map A) → get k (m ++ n) ≡ or_else (get k m) (get k n)
unfolding get
get_append k [] n = refl
get_append {A} k (e ∷ m) n = go (eqb k e.0) (get_append k m n)
  where
    go : (b : Bool) → get k (m ++ n) ≡ or_else (get k m) (get k n)
        → cond b (some e.1) (get k (m ++ n)) ≡ or_else (cond b (some e.1) (get k m)) (get k n)
    go true h = refl
    go false h = h

get_below : {A : Type 0} (k j : ℕ) (m : Map A) → Below k m → k ≤ j → get j m ≡ none
get_below k j [] b h = get_none j
get_below k j (e ∷ m) b h = get_tail j e m (λ z. let l = b.0 in omega arith) ∙ get_below k j m b.1 h

-- the sections around that of k
pub entries_cut : (k : ℕ) (m : State) (H : Hit k m)
    → entries task_words m ≡ entries task_words (before k m) ++
    (k ∷ (task_words H.here ++ entries task_words (beyond k m)))
entries_cut k m H =
    ap (entries task_words) (before_onward k m)
    ∙ entries_append task_words (before k m) (onward k m)
    ∙ ap (λ z. entries task_words (before k m) ++ entries task_words z) H.onward

-- an expression's tag
top_at : (s : List ℕ) (p : ℕ) (e : Expression) → Stands s p (words e) → get_or s p 0 ≡ top_tag e
unfolding top_tag words
top_at s p (constant c) h = (headed h).is
top_at s p (leaf k n) h = (headed h).is
top_at s p (lambda x A e) h = (headed h).is
top_at s p (one o a) h = (headed h).is
top_at s p (two o a b) h = (headed h).is
top_at s p (if a b c) h = (headed h).is

-- the section that is found for q
module _ (s : List ℕ) (st : State) (v : Valid st) (is : s ≡ image st) (q : ℕ) (k : Result ℕ ℕ) (f : Finds s q k) where
  pub at_is : (at : ℕ) → (k ≡ Ok at) ⊎ (k ≡ Err at) → at ≡ 1 + length (entries task_words (before q st))
  at_is at (inl e) = (placed_hit (hits q st) _ at (sym e ∙ f.answer st v is)).1
  at_is at (inr e) = (placed_miss (hits q st) _ at (sym e ∙ f.answer st v is)).1

  gone : (at : ℕ) → k ≡ Err at → get q st ≡ none
  gone at e =
      (miss q st (listed_rising ValidTask 63 st 0 v.tasks)
      (placed_miss (hits q st) _ at (sym e ∙ f.answer st v is)).0).get

  module _ (at : ℕ) (e : k ≡ Ok at) where
    found : (hits q st ≡ true) × (at ≡ 1 + length (entries task_words (before q st)))
    found = placed_hit (hits q st) _ at (sym e ∙ f.answer st v is)

    live : Hit q st
    live = hit q st found.0

    section_stands : Stands s at (q ∷ (task_words live.here ++ entries task_words (beyond q st)))
    unfolding image
    section_stands =
        let t = stands_at 1 refl (headed (stands_all s (length st ∷ entries task_words st) is)).more in
        stands_at at (sym found.1)
        (stands_right (entries task_words (before q st)) _ (stands_as (entries_cut q st live) t))

    live_valid : ValidTask live.here
    live_valid = (listed_get ValidTask 63 st 0 q live.here v.tasks live.get).2

    -- its parts
    module _ (c : Parts) (p : PartsAt s (at + 1) c) where
      task_stands : Stands s (at + 1) (task_words live.here)
      task_stands = stands_left (task_words live.here) _ (headed section_stands).more

      parts_cut : Cut (at + 1) live.here c
      parts_cut = p.cut live.here live_valid task_stands

      stores_stand : Stands s (at + 1 + length (counted cell_words live.here.snapshot))
          (counted cell_words live.here.local ++ words live.here.expression)
      unfolding task_words
      stores_stand =
          stands_right (counted cell_words live.here.snapshot)
          (counted cell_words live.here.local ++ words live.here.expression) task_stands

      store_stands : Stands s c.local (counted cell_words live.here.local)
      store_stands =
          stands_at c.local (sym parts_cut.local)
          (stands_left (counted cell_words live.here.local) (words live.here.expression) stores_stand)

      expression_stands : Stands s c.expression (words live.here.expression)
      expression_stands =
          let a = parts_cut.local in
          let b = parts_cut.expression in
          stands_at c.expression (omega arith)
          (stands_right (counted cell_words live.here.local) (words live.here.expression) stores_stand)

      tag_is : get_or s c.expression 0 ≡ top_tag live.here.expression
      tag_is = top_at s c.expression live.here.expression expression_stands

-- what the parts of the section ask
pub section_inside : (s : List ℕ) (site : Site) (q : ℕ) (k : Result ℕ ℕ) (at : ℕ) → Working 14 s site → Finds s q k
    → k ≡ Ok at → at + 1 ≤ length s
section_inside s site q k at g f e =
    let i = (headed (section_stands s g.state g.work.valid g.work.is q k f at e)).inside in omega arith

pub store_inside : (s : List ℕ) (site : Site) (q : ℕ) (k : Result ℕ ℕ) (at : ℕ) (c : Parts) → Working 14 s site
    → Finds s q k → k ≡ Ok at → PartsAt s (at + 1) c → Joinable s site c.local
store_inside s site q k at c g f h p =
    let a = headed (store_stands s g.state g.work.valid g.work.is q k f at h c p) in
    let v = live_valid s g.state g.work.valid g.work.is q k f at h in
    let n = listed_length ValidCell 255 _ 0 v.local (omega arith) in
    let e = a.is in
    record { working = g; inside = a.inside; few = omega arith }

-- the words of the next image, from what is copied
left_words : (n r : ℕ) (F G S O P Q B : List ℕ)
    → n ∷ ((F ++ (G ++ (r ∷ S))) ++ (O ++ (P ++ (0 ∷ (Q ++ B)))))
    ≡ n ∷ ((F ++ G) ++ (r ∷ ((S ++ (O ++ (P ++ (0 ∷ Q)))) ++ B)))
left_words n r F G S O P Q B = simp append_assoc

right_words : (n r : ℕ) (X S O P Q F G : List ℕ)
    → n ∷ ((X ++ (r ∷ S)) ++ (O ++ (P ++ (0 ∷ ((Q ++ F) ++ G)))))
    ≡ n ∷ (X ++ (r ∷ ((S ++ (O ++ (P ++ (0 ∷ Q)))) ++ (F ++ G))))
right_words n r X S O P Q F G = simp append_assoc

swapped : (n : ℕ) (O : List ℕ) {a a' b b' d d' : List ℕ} → a ≡ a' → b ≡ b' → d ≡ d'
    → n ∷ (a ++ (O ++ (b ++ (0 ∷ d)))) ≡ n ∷ (a' ++ (O ++ (b' ++ (0 ∷ d'))))
swapped n O p₁ p₂ p₃ = cc

module _ (s : List ℕ) (site : Site) (st : State) (me : Task) (E : Context) (q : ℕ) (w : Work s site st me E (joining q))
  where
    abbrev r : ℕ
    r = site.revision

    abbrev p : ℕ
    p = site.place

    abbrev X : State
    X = w.lower

    abbrev Y : State
    Y = w.upper

    pub joined_is : get_or s (p + 2) 0 ≡ q
    unfolding words
    joined_is =
        let h₁ = headed (redex_stands s site st me E (joining q) w) in
        let h₂ = headed h₁.more in
        let h₃ = headed h₂.more in
        ap (λ i. get_or s i 0) (omega arith) ∙ h₃.is

    S : List ℕ
    S = counted cell_words me.snapshot

    -- a revision with a value is not the one at work
    other : (K : Task) → get q st ≡ some K → value K.expression ≡ true → q ≢ r
    other K g v z =
        let b = below s site st me E (joining q) w in
        let h : get r st ≡ some me
        = ap (get r) w.split ∙ get_append r X ((r, me) ∷ Y)
        ∙ ap (λ o. or_else o (get r ((r, me) ∷ Y))) (get_below r r X b (omega arith))
        ∙ get_head (r, me) Y in
        let e : K ≡ me = some_inj (sym g ∙ ap (λ k. get k st) z ∙ h) in
        let y : true ≡ false
        = sym v ∙ ap (λ (K : Task). value K.expression) e ∙ decomposed_not_value w.decomposed in
        let y : ◌≡◌ {A = ℕ} 0 1 = cc in omega arith

    -- what is put for the task at work, and the image then
    module _ (K : Task) where
      abbrev joined : Task
      joined = become me (absorbed me K) (plug E (constant unit))

      O : List ℕ
      O = counted cell_words (overlaid me.local K.local)

      image_of : (U W : State) → Below r U → remove q st ≡ U ++ ((r, me) ∷ W) → length st ≡ suc (length (remove q st))
          → image (put r joined (remove q st))
          ≡ (get_or s 0 0 - 1) ∷ (entries task_words U ++
          (r ∷ ((S ++ (O ++ (prefix E ++ (0 ∷ suffix E)))) ++ entries task_words W)))
      unfolding absorbed words S O
      image_of U W b e n =
          let c = count_is s site st me E (joining q) w in
          let m : length (remove q st) ≡ get_or s 0 0 - 1 = omega arith in
          image_put r joined me (remove q st) U W b e
          ∙ ap₂ (λ (n : ℕ) (l : List ℕ). n ∷ (entries task_words U ++ (r ∷ (l ++ entries task_words W)))) m
          (task_words_lem me (overlaid me.local K.local) E (constant unit))

    -- the words at the site's local store, after those before it
    local_at : site.local ≡ 1 + (length (entries task_words X) + (1 + length S))
    unfolding S
    local_at = let a = w.snapshot in let b = w.local in omega arith

    task_split : task_words me ++ entries task_words Y
        ≡ S ++ ((counted cell_words me.local ++ words me.expression) ++ entries task_words Y)
    unfolding task_words S
    task_split = append_assoc S (counted cell_words me.local ++ words me.expression) (entries task_words Y)

    module _ (H : Hit q st) (hi : hits q st ≡ true) (from end : ℕ)
        (fi : from ≡ 1 + length (entries task_words (before q st)))
        (ei : end ≡ from + 1 + length (task_words H.here)) where
      abbrev K : Task
      K = H.here

      left_image : q < r → (get_or s 0 0 - 1) ∷ (spliced s 1 site.local from end []
          ++ (O K ++ (part s site.expression p ++ (0 ∷ spliced s (p + 3) (length s) from end [])))) ≡ image (put r (joined K)
          (remove q st))
      unfolding words
      left_image l =
          let h_x : hits q X ≡ true = sym (hits_left r me Y q l X) ∙ ap (hits q) (sym w.split) ∙ hi in
          let HX = hit q X h_x in
          let e_k : HX.here ≡ K
          = some_inj (sym HX.get
          ∙ sym (ap (get q) w.split ∙ get_append q X ((r, me) ∷ Y)
          ∙ ap (λ o. or_else o (get q ((r, me) ∷ Y))) HX.get ∙ sym HX.get) ∙ H.get) in
          let F = entries task_words (before q X) in
          let G = entries task_words (beyond q X) in
          let f₁ : from ≡ 1 + length F
          = fi ∙ ap (λ z. 1 + length (entries task_words z)) (ap (before q) w.split ∙ before_left r me Y q l X) in
          let e_x : entries task_words X ≡ F ++ (q ∷ (task_words K ++ G))
          = entries_cut q X HX ∙ ap (λ z. F ++ (q ∷ (task_words z ++ G))) e_k in
          let t₁ = stands_as (ap (λ z. z ++ (r ∷ (task_words me ++ entries task_words Y))) e_x
          ∙ append_assoc F (q ∷ (task_words K ++ G)) _) (sections_stand s site st me E (joining q) w) in
          let t₂ = (headed (stands_right F _ t₁)).more in
          let t₃ = stands_right (task_words K) _ (stands_as (append_assoc (task_words K) G _) t₂) in
          let t₄ = stands_as (ap (λ z. G ++ (r ∷ z)) task_split ∙ sym (append_assoc G (r ∷ S) _))
          (stands_at end (omega arith) t₃) in
          let l_x = ap length e_x ∙ length-append F (q ∷ (task_words K ++ G)) in
          let l_k = length-append (task_words K) G in
          let l_g = length-append G (r ∷ S) in
          let la = local_at in
          let i = w.local in
          let j = w.expression in
          let k = w.place in
          let p₁ : spliced s 1 site.local from end [] ≡ F ++ (G ++ (r ∷ S))
          = spliced_among s 1 site.local from end [] (omega arith) (omega arith)
          ∙ ap₂ (λ a b. a ++ b) (part_stands from (stands_left F _ t₁) f₁)
          (part_stands site.local (stands_left (G ++ (r ∷ S)) _ t₄) (omega arith)) in
          let p₂ = part_prefix s site st me E (joining q) w in
          let p₃ : spliced s (p + 3) (length s) from end [] ≡ suffix E ++ entries task_words Y
          = spliced_before s (p + 3) (length s) from end [] (omega arith)
          ∙ part_rest s site st me E (joining q) w (p + 3) refl in
          let rm : remove q st ≡ (before q X ++ beyond q X) ++ ((r, me) ∷ Y)
          = ap (remove q) w.split ∙ remove_left r me Y q l X h_x ∙ ap (λ z. z ++ ((r, me) ∷ Y)) HX.remove in
          let bl = below_parts q r X (below s site st me E (joining q) w) in
          let n₁ = ap length w.split ∙ length-append X ((r, me) ∷ Y) in
          let n₂ = ap length (before_onward q X) ∙ length-append (before q X) (onward q X) in
          let n₃ : length (onward q X) ≡ suc (length (beyond q X)) = ap length HX.onward in
          let n₄ = ap length rm ∙ length-append (before q X ++ beyond q X) ((r, me) ∷ Y) in
          let n₅ = length-append (before q X) (beyond q X) in
          let im = image_of K (before q X ++ beyond q X) Y (below_append r (before q X) (beyond q X) bl.0 bl.1) rm
          (omega arith) in
          let e_u = entries_append task_words (before q X) (beyond q X) in
          swapped (get_or s 0 0 - 1) (O K) p₁ p₂ p₃
          ∙ left_words (get_or s 0 0 - 1) r F G S (O K) (prefix E) (suffix E) (entries task_words Y)
          ∙ sym (im ∙ ap (λ z. (get_or s 0 0 - 1) ∷
          (z ++ (r ∷ ((S ++ (O K ++ (prefix E ++ (0 ∷ suffix E)))) ++ entries task_words Y)))) e_u)

      right_image : r < q → (get_or s 0 0 - 1) ∷ (spliced s 1 site.local from end []
          ++ (O K ++ (part s site.expression p ++ (0 ∷ spliced s (p + 3) (length s) from end [])))) ≡ image (put r (joined K)
          (remove q st))
      unfolding words
      right_image l =
          let b_x = below s site st me E (joining q) w in
          let h_y : hits q Y ≡ true = sym (hits_right r me Y q l X b_x) ∙ ap (hits q) (sym w.split) ∙ hi in
          let HY = hit q Y h_y in
          let e_k : HY.here ≡ K
          = some_inj (sym HY.get
          ∙ sym (ap (get q) w.split ∙ get_append q X ((r, me) ∷ Y)
          ∙ ap (λ o. or_else o (get q ((r, me) ∷ Y))) (get_below r q X b_x (omega arith))
          ∙ get_tail q (r, me) Y (λ z. omega arith)) ∙ H.get) in
          let F = entries task_words (before q Y) in
          let G = entries task_words (beyond q Y) in
          let f₁ : entries task_words (before q st) ≡ entries task_words X ++ (r ∷ (task_words me ++ F))
          = ap (entries task_words) (ap (before q) w.split ∙ before_right r me Y q l X b_x)
          ∙ entries_append task_words X ((r, me) ∷ before q Y) in
          let lf = ap length f₁ ∙ length-append (entries task_words X) (r ∷ (task_words me ++ F)) in
          let lm = length-append (task_words me) F in
          let e_y : entries task_words Y ≡ F ++ (q ∷ (task_words K ++ G))
          = entries_cut q Y HY ∙ ap (λ z. F ++ (q ∷ (task_words z ++ G))) e_k in
          let t₁ = stands_as (ap (λ z. entries task_words X ++ (r ∷ z)) task_split
          ∙ sym (append_assoc (entries task_words X) (r ∷ S) _)) (sections_stand s site st me E (joining q) w) in
          let la = local_at in
          let l_a = length-append (entries task_words X) (r ∷ S) in
          let u₁ = stands_as (ap (λ z. suffix E ++ z) e_y ∙ sym (append_assoc (suffix E) F (q ∷ (task_words K ++ G))))
          (rest_stands s site st me E (joining q) w (p + 3) refl) in
          let sz = size s site st me E (joining q) w in
          let se = section_ends s site st me E (joining q) w in
          let lq = length-append (suffix E) (entries task_words Y) in
          let ly = ap length e_y ∙ length-append F (q ∷ (task_words K ++ G)) in
          let lk = length-append (task_words K) G in
          let l_q = length-append (suffix E) F in
          let i = w.local in
          let j = w.expression in
          let k = w.place in
          let f₂ : from ≡ p + 3 + length (suffix E ++ F) = omega arith in
          let u₂ = (headed (stands_at from (sym f₂) (stands_right (suffix E ++ F) _ u₁))).more in
          let u₃ = stands_at end (sym ei) (stands_right (task_words K) G u₂) in
          let p₁ : spliced s 1 site.local from end [] ≡ entries task_words X ++ (r ∷ S)
          = spliced_after s 1 site.local from end [] (omega arith) (omega arith)
          ∙ part_stands site.local (stands_left (entries task_words X ++ (r ∷ S)) _ t₁) (omega arith) in
          let p₂ = part_prefix s site st me E (joining q) w in
          let p₃ : spliced s (p + 3) (length s) from end [] ≡ (suffix E ++ F) ++ G
          = spliced_among s (p + 3) (length s) from end [] (omega arith) (omega arith)
          ∙ ap₂ (λ a b. a ++ b) (part_stands from (stands_left (suffix E ++ F) _ u₁) f₂)
          (part_stands (length s) u₃ (omega arith)) in
          let rm : remove q st ≡ X ++ ((r, me) ∷ (before q Y ++ beyond q Y))
          = ap (remove q) w.split ∙ remove_right r me Y q l X b_x ∙ ap (λ z. X ++ ((r, me) ∷ z)) HY.remove in
          let n₁ = ap length w.split ∙ length-append X ((r, me) ∷ Y) in
          let n₂ = ap length (before_onward q Y) ∙ length-append (before q Y) (onward q Y) in
          let n₃ : length (onward q Y) ≡ suc (length (beyond q Y)) = ap length HY.onward in
          let n₄ = ap length rm ∙ length-append X ((r, me) ∷ (before q Y ++ beyond q Y)) in
          let n₅ = length-append (before q Y) (beyond q Y) in
          let im = image_of K X (before q Y ++ beyond q Y) b_x rm (omega arith) in
          let e_u = entries_append task_words (before q Y) (beyond q Y) in
          swapped (get_or s 0 0 - 1) (O K) p₁ p₂ p₃
          ∙ right_words (get_or s 0 0 - 1) r (entries task_words X) S (O K) (prefix E) (suffix E) F G
          ∙ sym (im ∙ ap (λ z. (get_or s 0 0 - 1) ∷
          (entries task_words X ++ (r ∷ ((S ++ (O K ++ (prefix E ++ (0 ∷ suffix E)))) ++ z)))) e_u)

      next_image : q ≢ r → (o : List ℕ) (to : ℕ) (o' : List ℕ) → Wrote ((get_or s 0 0 - 1) ∷ (spliced s 1 site.local from end []
          ++ (O K ++ (part s site.expression p ++ (0 ∷ spliced s (p + 3) (length s) from end []))))) o 0 to o'
          → Wrote (image (put r (joined K) (remove q st))) o 0 to o'
      next_image d o to o' wr = go (tri q r)
        where
          go : Tri q r → Wrote (image (put r (joined K) (remove q st))) o 0 to o'
          go (smaller l) = wrote_as (left_image l) wr
          go (same e) = absurd (d e)
          go (above l) = wrote_as (right_image l) wr

-- the answers
module _ (s : List ℕ) (site : Site) (q : ℕ) (qi : q ≡ get_or s (site.place + 2) 0) (k : Result ℕ ℕ) (f : Finds s q k) where
  for_joins : (o : List ℕ) (a : Result Moved Refusal) (o' : List ℕ)
      → ((st : State) (me : Task) (E : Context) → Work s site st me E (joining q)
      → Acted (act site.revision st me E (joining q)) o a o')
      → Acts 14 s site o a o'
  for_joins o a o' h =
      record { acts = λ st me E R w g. go st me E R w (redex_is R (one_tag join) (redex_stands s site st me E R w) g) }
    where
      go : (st : State) (me : Task) (E : Context) (R : Redex) → Work s site st me E R → Is (one_tag join) R
          → Acted (act site.revision st me E R) o a o'
      go st me E R w (is_joining z) =
          let e : q ≡ z = qi ∙ joined_is s site st me E z w in
          subst (λ z. Work s site st me E (joining z) → Acted (act site.revision st me E (joining z)) o a o') e
          (h st me E) w

  pub join_gone : (at : ℕ) → k ≡ Err at → (o : List ℕ) → Acts 14 s site o (Ok Emptied) o
  join_gone at h o = for_joins o (Ok Emptied) o (λ st me E w. rw (gone s st w.valid w.is q k f at h) (refl, refl))

  module _ (at : ℕ) (h : k ≡ Ok at) (c : Parts) (p : PartsAt s (at + 1) c) (y : ℕ)
      (yi : y ≡ get_or s c.expression 0)
      (o : List ℕ) where
    pub join_waits : 7 < y → Acts 14 s site o (Err Waits) o
    join_waits l = for_joins o (Err Waits) o go
      where
        go : (st : State) (me : Task) (E : Context) → Work s site st me E (joining q)
            → Acted (act site.revision st me E (joining q)) o (Err Waits) o
        go st me E w =
            let L = live s st w.valid w.is q k f at h in
            let t = yi ∙ tag_is s st w.valid w.is q k f at h c p in
            rw (L.get, told_large L.here.expression t l) (refl, refl)

    pub join_done : y ≤ 7 → (r : ℕ) (o' : List ℕ) → WroteJoined s site at c.end c.local o r o'
        → Acts 14 s site o (Ok (To r)) o'
    unfolding O
    join_done l r o' wr = for_joins o (Ok (To r)) o' go
      where
        go : (st : State) (me : Task) (E : Context) → Work s site st me E (joining q)
            → Acted (act site.revision st me E (joining q)) o (Ok (To r)) o'
        go st me E w =
            let L = live s st w.valid w.is q k f at h in
            let v = told_small L.here.expression (yi ∙ tag_is s st w.valid w.is q k f at h c p) l in
            let (t, at_q) = found s st w.valid w.is q k f at h in
            let cut = parts_cut s st w.valid w.is q k f at h c p in
            let d = other s site st me E q w L.here L.get v in
            let x = wr.wrote me.local L.here.local (me_valid s site st me E (joining q) w).local
            (live_valid s st w.valid w.is q k f at h).local (local_stands s site st me E (joining q) w)
            (store_stands s st w.valid w.is q k f at h c p) in
            let n = next_image s site st me E q w L t at c.end at_q cut.end d o r o' x in
            rw (L.get, v) (r, refl, n)
