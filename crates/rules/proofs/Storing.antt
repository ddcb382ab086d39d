-- assign and ref: the words up to the local store, that store with one entry put, and the expression with the result.
use Prim.Native.Nat.{ℕ, ◌+◌}
use mathlib.Core.Path.{◌≡◌, refl, sym, ap, ◌∙◌, subst}
use mathlib.Core.Bool.{Bool, true, false, not, true≢false}
use mathlib.Core.List.{List, [], ◌∷◌, ◌++◌, append_assoc}
use mathlib.Core.Option.{Option as Maybe, none, some}
use native.Mathlib.Omega.{arith}
use lib.ListN.{length, get_or}
use Rattle.calculus.specs.Maps.{get, put}
use Rattle.calculus.specs.Expressions.{unit, location, ref, assign, Expression, constant, leaf}
use Rattle.calculus.specs.Tags.{one_tag, two_tag}
use Rattle.calculus.specs.Words.{words}
use Rattle.calculus.specs.Formed.{Formed}
use Rattle.calculus.specs.Stores.{Cell, plain, Store, written}
use Rattle.calculus.specs.States.{Task, State, view}
use Rattle.calculus.specs.Images.{counted, cell_words, image}
use Rattle.calculus.specs.Redexes.{Redex, making, assigning, expression_at}
use Rattle.calculus.specs.Places.{Context, plug}
use Rattle.calculus.specs.NewNumbers.{new_location}
use Rattle.calculus.specs.Rules.{become}
use Rattle.calculus.specs.Steps.{act}
use Rattle.image.specs.Standing.{Stands, EndsAt}
use Rattle.image.proofs.Standing.{headed, stands_at}
use Rattle.image.specs.Cuts.{CellAt, Found}
use Rattle.write.specs.Cursor.{part, Wrote}
use Rattle.write.specs.Entry.{WrotePut}
use Rattle.write.proofs.Cursors.{part_stands, wrote_as, wrote_size, then}
use Rattle.rules.specs.declared.site.Site.{Site}
use Rattle.std.specs.Prelude.{Option, Some, None, Ok, Err}
use Rattle.std.specs.Option.{is_some}
use Rattle.rules.specs.declared.site.Moved.TheVariants.{To}
use Rattle.rules.specs.declared.site.Reason.TheVariants.{Location}
use Rattle.rules.specs.declared.site.Refusal.TheVariants.{Stuck, NoNumber}
use Rattle.image.specs.Fresh.{as_option, NewLocation}
use Rattle.rules.specs.Work.{Work, Working, Acted, Acts}
use Rattle.rules.specs.Putting.{PutPlace, WroteStored}
use Rattle.rules.proofs.Chunks.{snapshot_stands, local_stands, redex_stands, me_valid, part_front}
use Rattle.rules.proofs.Chunks.{part_prefix, part_rest, next_image, bounds}
use Rattle.rules.proofs.Redexes.{Is, is_making, is_assigning, redex_is}
use Rattle.rules.proofs.Replacing.{redex_formed}

pub put_place : {tag : ℕ} {s : List ℕ} {site : Site} → Working tag s site → (a b : ℕ) → EndsAt s a b → PutPlace s site b
put_place k a b e =
    let n = bounds k in
    record { local = n.local; expression = n.expression; place = omega arith; count = n.own; end = e.high }

pub stored_done : (s : List ℕ) (site : Site) (l a b : ℕ) (new o o₁ o₂ o₃ o₄ o₅ : List ℕ) (w x y z r : ℕ)
    → Wrote (part s 0 site.local) o 0 w o₁ → WrotePut s site.local site.expression l a b o₁ w x o₂
    → Wrote (part s site.expression site.place) o₂ x y o₃ → Wrote new o₃ y z o₄ → Wrote (part s b (length s)) o₄ z r o₅
    → WroteStored s site l a b new o r o₅
stored_done s site l a b new o o₁ o₂ o₃ o₄ o₅ w x y z r w₁ w₂ w₃ w₄ w₅ =
    let e₁ = wrote_size w₁ in
    let e₃ = wrote_size w₃ in
    let e₄ = wrote_size w₄ in
    let e₅ = wrote_size w₅ in
    let n = w₂.size in
    record {
      high = omega arith;
      size = e₅.0 ∙ e₄.0 ∙ e₃.0 ∙ n ∙ e₁.0;
      wrote = λ m c v h i p. then (then w₁ (then (w₂.wrote m c v h i p) w₃)) (then w₄ w₅);
    }

regroup : (f m g i j : List ℕ) → (f ++ (m ++ g)) ++ (i ++ j) ≡ f ++ (m ++ (g ++ (i ++ j)))
regroup f m g i j = simp append_assoc

-- the next image, with the cell put and the words of v for the redex
module _ (s : List ℕ) (site : Site) (l a b : ℕ) (new o : List ℕ) (r : ℕ) (o' : List ℕ)
    (wr : WroteStored s site l a b new o r o') where
  after : (st : State) (me : Task) (E : Context) (R : Redex) → Work s site st me E R → (c : Cell) (v : Expression)
      → part s a b ≡ cell_words c
      → b ≡ site.place + length (words (expression_at R)) → new ≡ words v
      → Wrote (image (put site.revision (become me (put l c me.local) (plug E v)) st)) o 0 r o'
  after st me E R w c v pc ie iv =
      let f₁ = part_front s site st me E R w in
      let f₂ = part_prefix s site st me E R w in
      let f₃ = part_rest s site st me E R w b ie in
      let im = next_image s site st me E R w (put l c me.local) v in
      let k = wr.wrote me.local c (me_valid s site st me E R w).local (local_stands s site st me E R w)
      w.expression pc in
      let all = wrote_as (regroup (part s 0 site.local) (counted cell_words (put l c me.local)) _ new _) k in
      wrote_as (cc (f₁, f₂, f₃, im, iv)) all

-- where the parts of an assign stand
record Assigned (s : List ℕ) (p l e : ℕ) (k : ℕ) (v : Expression) : Type 0 where
  pub location : l ≡ k
  pub value : part s (p + 3) e ≡ words v
  pub to : e ≡ p + length (words (expression_at (assigning k v)))

assigned : (s : List ℕ) (p l e k : ℕ) (v : Expression) → Formed (expression_at (assigning k v)) → l ≡ get_or s (p + 2) 0
    → EndsAt s (p + 3) e
    → Stands s p (words (expression_at (assigning k v))) → Assigned s p l e k v
unfolding words Formed
assigned s p l e k v f li ends h =
    let h₁ = headed h in
    let h₂ = headed h₁.more in
    let h₃ = headed h₂.more in
    let hv : Stands s (p + 3) (words v) = stands_at (p + 3) (omega arith) h₃.more in
    let ie = ends.ends v f.1 hv in
    record {
      location = li ∙ ap (λ i. get_or s i 0) (omega arith) ∙ h₃.is;
      value = part_stands e hv ie;
      to = omega arith;
    }

assigned_location : (s : List ℕ) (p l k : ℕ) (v : Expression) → l ≡ get_or s (p + 2) 0
    → Stands s p (words (expression_at (assigning k v))) → l ≡ k
unfolding words
assigned_location s p l k v li h =
    let h₁ = headed h in
    let h₂ = headed h₁.more in
    let h₃ = headed h₂.more in
    li ∙ ap (λ i. get_or s i 0) (omega arith) ∙ h₃.is

-- what is written by an assignment, by what is in the view
written_none : (X : Store) (l : ℕ) (v : Expression) → get l X ≡ none → written X l v ≡ none
unfolding written
written_none X l v h = rw h refl

written_some : (X : Store) (l : ℕ) (v : Expression) (c : Cell) → get l X ≡ some c → written X l v ≡ some (plain v)
unfolding written
written_some X l v c h = rw h refl

cell_none : (s : List ℕ) (m : Maybe Cell) → CellAt s m None → m ≡ none
cell_none s none t = refl
cell_none s (some c) t = absurd t

-- whether the look-up found none
none_told : (q : Option ℕ) (b : Bool) → is_some q ≡ not b → b ≡ true → q ≡ None
none_told None b h t = refl
none_told (Some z) b h t = absurd (true≢false (h ∙ ap not t))

some_told : (q : Option ℕ) (b : Bool) → is_some q ≡ not b → b ≡ false → (z : ℕ) × (q ≡ Some z)
some_told (Some z) b h t = (z, refl)
some_told None b h t = absurd (true≢false (sym (h ∙ ap not t)))

cell_some : (s : List ℕ) (m : Maybe Cell) (p : ℕ) → CellAt s m (Some p) → (c : Cell) × (m ≡ some c)
cell_some s none p t = absurd t
cell_some s (some c) p t = (c, refl)

module _ (s : List ℕ) (site : Site) (l : ℕ) (li : l ≡ get_or s (site.place + 2) 0) (q : Option ℕ)
    (found : Found s site.snapshot site.local l q) where
  look : (st : State) (me : Task) (E : Context) (k : ℕ) (v : Expression) → Work s site st me E (assigning k v)
      → CellAt s (get k (view me)) q
  look st me E k v w =
      subst (λ k. CellAt s (get k (view me)) q)
      (assigned_location s site.place l k v li (redex_stands s site st me E (assigning k v) w))
      (found.answer me (me_valid s site st me E (assigning k v) w) (snapshot_stands s site st me E (assigning k v) w)
      (local_stands s site st me E (assigning k v) w))

  pub assign_nothing : (b : Bool) → is_some q ≡ not b → b ≡ true → (o : List ℕ) → Acts 12 s site o (Err (Stuck Location)) o
  assign_nothing b qe t o =
      record { acts = λ st me E R w g. go st me E R w (redex_is R (two_tag assign) (redex_stands s site st me E R w) g) }
    where
      go : (st : State) (me : Task) (E : Context) (R : Redex) → Work s site st me E R → Is (two_tag assign) R
          → Acted (act site.revision st me E R) o (Err (Stuck Location)) o
      go st me E R w (is_assigning k v) =
          let n = cell_none s (get k (view me)) (subst (CellAt s (get k (view me))) (none_told q b qe t) (look st me E k v w)) in
          rw (written_none (view me) k v n) (refl, refl)

  pub assign_done : (b : Bool) → is_some q ≡ not b → b ≡ false → (e : ℕ) (o : List ℕ) (r : ℕ) (o' : List ℕ)
      → EndsAt s (site.place + 3) e
      → WroteStored s site l (site.place + 3) e (0 ∷ []) o r o' → Acts 12 s site o (Ok (To r)) o'
  unfolding words
  assign_done b be bf e o r o' ends wr =
      record { acts = λ st me E R w g. go st me E R w (redex_is R (two_tag assign) (redex_stands s site st me E R w) g) }
    where
      go : (st : State) (me : Task) (E : Context) (R : Redex) → Work s site st me E R → Is (two_tag assign) R
          → Acted (act site.revision st me E R) o (Ok (To r)) o'
      go st me E R w (is_assigning k v) =
          let (z, qe) = some_told q b be bf in
          let (c, h) = cell_some s (get k (view me)) z (subst (CellAt s (get k (view me))) qe (look st me E k v w)) in
          let a = assigned s site.place l e k v (redex_formed w) li ends
          (redex_stands s site st me E (assigning k v) w) in
          let n = after s site l (site.place + 3) e (0 ∷ []) o r o' wr st me E (assigning k v) w
          (plain v) (constant unit) a.value a.to refl in
          rw (written_some (view me) k v c h) (
            r,
            refl,
            subst (λ i. Wrote
                (image (put site.revision (become me (put i (plain v) me.local) (plug E (constant unit))) st)) o 0 r
                o') a.location n,
          )

-- ref, with a new location
record Made (s : List ℕ) (p e : ℕ) (v : Expression) : Type 0 where
  pub value : part s (p + 1) e ≡ words v
  pub to : e ≡ p + length (words (expression_at (making (plain v))))

made : (s : List ℕ) (p e : ℕ) (v : Expression) → Formed (expression_at (making (plain v))) → EndsAt s (p + 1) e
    → Stands s p (words (expression_at (making (plain v)))) → Made s p e v
unfolding words Formed
made s p e v f ends h =
    let h₁ = headed h in
    let ie = ends.ends v f h₁.more in
    record { value = part_stands e h₁.more ie; to = omega arith }

module _ (s : List ℕ) (site : Site) (o : List ℕ) (q : Option ℕ) (f : NewLocation s q) where
  pub make_done : (l : ℕ) → q ≡ Some l → (e r : ℕ) (o' : List ℕ) → EndsAt s (site.place + 1) e
      → WroteStored s site l (site.place + 1) e (5 ∷ l ∷ []) o r o' → Acts 10 s site o (Ok (To r)) o'
  unfolding words
  make_done l d e r o' ends wr =
      record { acts = λ st me E R w g. go st me E R w (redex_is R (one_tag ref) (redex_stands s site st me E R w) g) }
    where
      go : (st : State) (me : Task) (E : Context) (R : Redex) → Work s site st me E R
          → Is (one_tag ref) R → Acted (act site.revision st me E R) o (Ok (To r)) o'
      go st me E R w (is_making v) =
          let n : new_location st ≡ some l = sym (f.is st w.valid w.is) ∙ ap as_option d in
          let a = made s site.place e v (redex_formed w) ends (redex_stands s site st me E (making (plain v)) w) in
          rw n (
            r,
            refl,
            after s site l (site.place + 1) e (5 ∷ l ∷ []) o r o' wr st me E (making (plain v)) w (plain v)
                (leaf location l) a.value a.to refl,
          )

  pub make_none : q ≡ None → Acts 10 s site o (Err NoNumber) o
  make_none e =
      record { acts = λ st me E R w g. go st me E R w (redex_is R (one_tag ref) (redex_stands s site st me E R w) g) }
    where
      go : (st : State) (me : Task) (E : Context) (R : Redex) → Work s site st me E R → Is (one_tag ref) R
          → Acted (act site.revision st me E R) o (Err NoNumber) o
      go st me E R w (is_making v) =
          let n : new_location st ≡ none = sym (f.is st w.valid w.is) ∙ ap as_option e in
          rw n (refl, refl)
