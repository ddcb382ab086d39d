-- if, read and arithmetic: the words up to the redex, the result's words, the words after the redex.
use Prim.Native.Nat.{ℕ, ◌+◌, ◌-◌, ◌%◌}
use mathlib.Core.Path.{◌≡◌, refl, sym, ap, ap₂, ◌∙◌, subst}
use mathlib.Core.Bool.{Bool, true, false}
use mathlib.Core.List.{List, [], ◌∷◌, ◌++◌}
use mathlib.Core.Option.{Option as Maybe, none, some}
use native.Mathlib.Omega.{arith}
use lib.ListN.{length, get_or, length-append}
use Rattle.calculus.specs.Maps.{get, put}
use Rattle.calculus.specs.Expressions.{bool, read, arithmetic, Expression}
use Rattle.calculus.specs.Tags.{constant_tag, one_tag, two_tag, if_tag, tag_word}
use Rattle.calculus.specs.Words.{words}
use Rattle.calculus.specs.Formed.{Formed}
use lib.Signed.{lt_z}
use Rattle.calculus.specs.Numbers.{choose, signed, calculated}
use Rattle.calculus.specs.Stores.{Cell, plain, content}
use Rattle.calculus.specs.States.{Task, State, view}
use Rattle.calculus.specs.Images.{ValidCell, ValidTask}
use Rattle.calculus.specs.Redexes.{Redex, choosing, reading, calculating, expression_at}
use Rattle.calculus.specs.Places.{Context, plug}
use Rattle.calculus.specs.Rules.{become}
use Rattle.calculus.specs.Steps.{Outcome, next, by_location, with_cell, act}
use Rattle.calculus.proofs.Maps.{or_else, get_overlaid}
use Rattle.calculus.proofs.Validity.{listed_get}
use Rattle.image.specs.Standing.{Stands, EndsAt}
use Rattle.image.proofs.Standing.{headed, stands_left, stands_right, stands_at}
use Rattle.image.specs.Cuts.{CellAt, Found}
use Rattle.write.specs.Cursor.{part, Wrote}
use Rattle.write.proofs.Cursors.{part_stands, wrote_as}
use Rattle.rules.specs.declared.site.Site.{Site}
use Rattle.std.specs.Prelude.{Option, Some, None, Ok, Err}
use Rattle.rules.specs.declared.site.Moved.TheVariants.{To}
use Rattle.rules.specs.declared.site.Reason.TheVariants.{Location}
use Rattle.rules.specs.declared.site.Refusal.TheVariants.{Stuck}
use Rattle.rules.specs.Work.{Work, Acted, Acts}
use Rattle.rules.specs.declared.local.Operation.{Operation}
use Rattle.rules.specs.declared.local.Operation.TheVariants.{Add, Subtract, Less}
use Rattle.rules.specs.Operations.{meant, tag_of}
use denote.MutBor.{MutBor}
use Rattle.std.specs.Fn.{Once}
use Rattle.calculus.specs.Images.{image}
use Rattle.rules.specs.Splicing.{Writes, Spliced}
use Rattle.rules.proofs.Splicing.{spliced_among, writes_as}
use Rattle.rules.proofs.Chunks.{plugged, snapshot_stands, local_stands, redex_stands, me_valid, size}
use Rattle.rules.proofs.Chunks.{replaced_image}
use Rattle.rules.proofs.Redexes.{Is, is_choosing, is_reading, is_calculating, redex_is, formed_in}

-- the redex of a valid task is formed
pub redex_formed : {s : List ℕ} {site : Site} {st : State} {me : Task} {E : Context} {R : Redex} → Work s site st me E R
    → Formed (expression_at R)
redex_formed {s} {site} {st} {me} {E} {R} w =
    formed_in E (expression_at R)
    (subst Formed (sym (plugged s site st me E R w)) (me_valid s site st me E R w).expression.0)

branches_formed : (t : Bool) (x y : Expression) → Formed (expression_at (choosing t x y)) → Formed x × Formed y
unfolding Formed
branches_formed t x y f = (f.1, f.2)

-- where the branches of an if stand and end
record Branches (s : List ℕ) (p c end : ℕ) (t : Bool) (b d : Expression) : Type 0 where
  pub test : get_or s (p + 1) 0 ≡ tag_word (constant_tag (bool t))
  pub yes : part s (p + 2) c ≡ words b
  pub no : part s c end ≡ words d
  pub to : end ≡ p + length (words (expression_at (choosing t b d)))

branches : (s : List ℕ) (p c end : ℕ) (t : Bool) (b d : Expression) → Formed b × Formed d
    → Stands s p (words (expression_at (choosing t b d))) → EndsAt s (p + 2) c → EndsAt s c end
    → Branches s p c end t b d
unfolding words
branches s p c end t b d f h e₁ e₂ =
    let h₁ = headed h in
    let h₂ = headed h₁.more in
    let h₃ : Stands s (p + 2) (words b ++ words d) = stands_at (p + 2) (omega arith) h₂.more in
    let hb = stands_left (words b) (words d) h₃ in
    let ic : c ≡ p + 2 + length (words b) = e₁.ends b f.0 hb in
    let hd : Stands s c (words d) = stands_at c (sym ic) (stands_right (words b) (words d) h₃) in
    let ie : end ≡ c + length (words d) = e₂.ends d f.1 hd in
    let l = length-append (words b) (words d) in
    record { test = h₂.is; yes = part_stands c hb ic; no = part_stands end hd ie; to = omega arith }

-- the next image, where a closure writes the words of e for the redex
module _ {F : Type 0} (g : Once F (MutBor (List ℕ) × (ℕ × Unit {0})) (ℕ × (MutBor (List ℕ) × Unit {0}))) (f : F)
    (s : List ℕ) (site : Site) (end : ℕ) (o : List ℕ) (r : ℕ) (o' : List ℕ)
    (wr : Spliced g f s 0 (length s) site.place end o 0 r o') where
  pub replaced : (st : State) (me : Task) (E : Context) (R : Redex) → Work s site st me E R → (e : Expression)
      → end ≡ site.place + length (words (expression_at R)) → Writes g f (words e)
      → Wrote (image (put site.revision (become me me.local (plug E e)) st)) o 0 r o'
  replaced st me E R w e i h =
      let z = size s site st me E R w in
      wrote_as (spliced_among s 0 (length s) site.place end (words e) (omega arith) (omega arith)
      ∙ sym (replaced_image s site st me E R w e end i)) (wr.wrote (words e) h)

  module _ (c : ℕ) (e₁ : EndsAt s (site.place + 2) c) (e₂ : EndsAt s c end) where
    chosen : (a b : ℕ) → Writes g f (part s a b) → ((t : Bool) (x y : Expression) → Branches s site.place c end t x y
        → part s a b ≡ words (choose t x y)) → Acts 9 s site o (Ok (To r)) o'
    chosen a b h is =
        record { acts = λ st me E R w g. go st me E R w (redex_is R if_tag (redex_stands s site st me E R w) g) }
      where
        go : (st : State) (me : Task) (E : Context) (R : Redex) → Work s site st me E R → Is if_tag R
            → Acted (act site.revision st me E R) o (Ok (To r)) o'
        go st me E R w (is_choosing t x y) =
            let d = redex_formed w in
            let k = branches s site.place c end t x y (branches_formed t x y d)
            (redex_stands s site st me E (choosing t x y) w) e₁ e₂ in (
              r,
              refl,
              replaced st me E (choosing t x y) w (choose t x y) k.to (writes_as (is t x y k) h),
            )

    pub choose_yes : (v : ℕ) → v ≡ get_or s (site.place + 1) 0 → v ≡ 2 → Writes g f (part s (site.place + 2) c)
        → Acts 9 s site o (Ok (To r)) o'
    choose_yes v i j h = chosen (site.place + 2) c h right
      where
        right : (t : Bool) (x y : Expression) → Branches s site.place c end t x y
            → part s (site.place + 2) c ≡ words (choose t x y)
        right true x y k = k.yes
        right false x y k = let z = k.test in absurd (omega arith)

    pub choose_no : (v : ℕ) → v ≡ get_or s (site.place + 1) 0 → (v ≡ 2 → ⊥) → Writes g f (part s c end)
        → Acts 9 s site o (Ok (To r)) o'
    choose_no v i j h = chosen c end h right
      where
        right : (t : Bool) (x y : Expression) → Branches s site.place c end t x y → part s c end ≡ words (choose t x y)
        right true x y k = absurd (j (i ∙ k.test))
        right false x y k = k.no

-- a cell in the view of a valid task is valid
pub view_valid : {me : Task} → ValidTask me → (l : ℕ) (c : Cell) → get l (view me) ≡ some c → ValidCell c
view_valid {me} v l c h = go (get l me.local) refl (sym (get_overlaid l me.snapshot me.local) ∙ h)
  where
    go : (o : Maybe Cell) → get l me.local ≡ o → or_else (get l me.local) (get l me.snapshot) ≡ some c
        → ValidCell c
    go none p q =
        (listed_get ValidCell 255 me.snapshot 0 l c v.snapshot
        (ap (λ o. or_else o (get l me.snapshot)) (sym p) ∙ q)).2
    go (some d) p q =
        (listed_get ValidCell 255 me.local 0 l c v.local
        (p ∙ (ap (λ o. or_else o (get l me.snapshot)) (sym p) ∙ q))).2

-- a read
module _ (s : List ℕ) (site : Site) (l : ℕ) (li : l ≡ get_or s (site.place + 2) 0) (q : Option ℕ)
    (found : Found s site.snapshot site.local l q) (o : List ℕ) where
  look : (st : State) (me : Task) (E : Context) (R : Redex) → Work s site st me E R → CellAt s (get l (view me)) q
  look st me E R w =
      found.answer me (me_valid s site st me E R w) (snapshot_stands s site st me E R w)
      (local_stands s site st me E R w)

  location : (st : State) (me : Task) (E : Context) (k : ℕ) → Work s site st me E (reading k) → l ≡ k
  unfolding words
  location st me E k w =
      let h₁ = headed (redex_stands s site st me E (reading k) w) in
      let h₂ = headed h₁.more in
      let h₃ = headed h₂.more in
      li ∙ ap (λ i. get_or s i 0) (omega arith) ∙ h₃.is

  pub read_nothing : q ≡ None → Acts 11 s site o (Err (Stuck Location)) o
  read_nothing e =
      record { acts = λ st me E R w g. go st me E R w (redex_is R (one_tag read) (redex_stands s site st me E R w) g) }
    where
      none_there : (m : Maybe Cell) (f : Cell → Outcome) → CellAt s m None
          → Acted (with_cell by_location m f) o (Err (Stuck Location)) o
      none_there none f t = (refl, refl)
      none_there (some c) f t = absurd t

      go : (st : State) (me : Task) (E : Context) (R : Redex) → Work s site st me E R → Is (one_tag read) R
          → Acted (act site.revision st me E R) o (Err (Stuck Location)) o
      go st me E R w (is_reading k) =
          let il = location st me E k w in
          none_there (get k (view me)) _
          (subst (λ k. CellAt s (get k (view me)) None) il
          (subst (CellAt s (get l (view me))) e (look st me E (reading k) w)))

  pub read_value : {F : Type 0} (g : Once F (MutBor (List ℕ) × (ℕ × Unit {0})) (ℕ × (MutBor (List ℕ) × Unit {0}))) (f : F)
      (v : ℕ) → q ≡ Some v → (e r : ℕ) (o' : List ℕ) → EndsAt s v e
      → Spliced g f s 0 (length s) site.place (site.place + 3) o 0 r o' → Writes g f (part s v e)
      → Acts 11 s site o (Ok (To r)) o'
  unfolding words
  read_value g f v qe e r o' ends wr h =
      record { acts = λ st me E R w g. go st me E R w (redex_is R (one_tag read) (redex_stands s site st me E R w) g) }
    where
      there : (st : State) (me : Task) (E : Context) (k : ℕ) → Work s site st me E (reading k) → (m : Maybe Cell)
          → get k (view me) ≡ m → CellAt s m (Some v)
          → Acted (with_cell by_location m
          (λ c. next (put site.revision (become me me.local (plug E (content c))) st))) o (Ok (To r)) o'
      there st me E k w none p t = absurd t
      there st me E k w (some (plain x)) p t =
          let d = view_valid (me_valid s site st me E (reading k) w) k (plain x) p in
          let ie = ends.ends x d.0.0 t in (
            r,
            refl,
            replaced g f s site (site.place + 3) o r o' wr st me E (reading k) w x (omega arith)
                (writes_as (part_stands e t ie) h),
          )

      go : (st : State) (me : Task) (E : Context) (R : Redex) → Work s site st me E R → Is (one_tag read) R
          → Acted (act site.revision st me E R) o (Ok (To r)) o'
      go st me E R w (is_reading k) =
          let il = location st me E k w in
          there st me E k w (get k (view me)) refl
          (subst (λ k. CellAt s (get k (view me)) (Some v)) il
          (subst (CellAt s (get l (view me))) qe (look st me E (reading k) w)))

-- arithmetic
module _ (operation : Operation) (m n : ℕ) (o : List ℕ) (to r : ℕ) (o' : List ℕ) where
  pub result_add : operation ≡ Add → (v : ℕ) → v ≡ (m + n) % 65536 → Wrote (3 ∷ v ∷ []) o to r o'
      → Wrote (words (calculated (meant operation) m n)) o to r o'
  unfolding words
  result_add e v i w = rw e (wrote_as (ap (λ v. 3 ∷ v ∷ []) i) w)

  pub result_subtract : operation ≡ Subtract → (v : ℕ) → v ≡ (m + (65536 - n)) % 65536 → Wrote (3 ∷ v ∷ []) o to r o'
      → Wrote (words (calculated (meant operation) m n)) o to r o'
  unfolding words
  result_subtract e v i w = rw e (wrote_as (ap (λ v. 3 ∷ v ∷ []) i) w)

  module _ (e : operation ≡ Less) (b : Bool) (i : b ≡ lt_z (signed m) (signed n)) where
    pub result_yes : b ≡ true → Wrote (2 ∷ []) o to r o' → Wrote (words (calculated (meant operation) m n)) o to r o'
    unfolding words
    result_yes t w = rw e (wrote_as (ap (λ b. tag_word (constant_tag (bool b)) ∷ []) (sym t ∙ i)) w)

    pub result_no : b ≡ false → Wrote (1 ∷ []) o to r o' → Wrote (words (calculated (meant operation) m n)) o to r o'
    unfolding words
    result_no t w = rw e (wrote_as (ap (λ b. tag_word (constant_tag (bool b)) ∷ []) (sym t ∙ i)) w)

pub calculate_done : {F : Type 0}
    (g : Once F (MutBor (List ℕ) × (ℕ × Unit {0})) (ℕ × (MutBor (List ℕ) × Unit {0}))) (f : F) (s : List ℕ) (site : Site)
    (operation : Operation) (m n : ℕ) → m ≡ get_or s (site.place + 2) 0 → n ≡ get_or s (site.place + 4) 0
    → (o : List ℕ) (r : ℕ) (o' : List ℕ) → Spliced g f s 0 (length s) site.place (site.place + 5) o 0 r o'
    → Writes g f (words (calculated (meant operation) m n)) → Acts (tag_of operation) s site o (Ok (To r)) o'
unfolding words
calculate_done g f s site operation m n mi ni o r o' wr h =
    record {
      acts = λ st me E R w g. go st me E R w
          (redex_is R (two_tag (arithmetic (meant operation))) (redex_stands s site st me E R w) g);
    }
  where
    go : (st : State) (me : Task) (E : Context) (R : Redex) → Work s site st me E R
        → Is (two_tag (arithmetic (meant operation))) R → Acted (act site.revision st me E R) o (Ok (To r)) o'
    go st me E R w (is_calculating k a b) =
        let h₁ = headed (redex_stands s site st me E (calculating k a b) w) in
        let h₂ = headed h₁.more in
        let h₃ = headed h₂.more in
        let h₄ = headed h₃.more in
        let h₅ = headed h₄.more in
        let ia : m ≡ a = mi ∙ ap (λ i. get_or s i 0) (omega arith) ∙ h₃.is in
        let ib : n ≡ b = ni ∙ ap (λ i. get_or s i 0) (omega arith) ∙ h₅.is in (
          r,
          refl,
          replaced g f s site (site.place + 5) o r o' wr st me E (calculating k a b) w (calculated k a b) (omega arith)
              (writes_as (ap₂ (λ a b. words (calculated k a b)) ia ib) h),
        )
