-- One step: the section found, the place of work found in it, and the redex worked off by the rule of its tag.
use Prim.Native.Nat.{ℕ, ◌+◌, ◌<◌, ◌≤◌}
use mathlib.Core.Path.{◌≡◌, refl, sym, ap, ◌∙◌, subst}
use mathlib.Core.List.{List, ◌∷◌, ◌++◌}
use mathlib.Core.Option.{Option as Maybe, some}
use native.Mathlib.Omega.{arith}
use lib.ListN.{length, get_or}
use Rattle.calculus.specs.Maps.{get}
use Rattle.calculus.specs.Words.{words}
use Rattle.calculus.specs.States.{Task, State}
use Rattle.calculus.specs.Images.{entries, counted, cell_words, task_words, image, Listed, Valid, ValidTask, ValidImage}
use Rattle.calculus.specs.Redexes.{Redex}
use Rattle.calculus.specs.Places.{Context, Place, is_value, works_at, stuck_at, place}
use Rattle.calculus.specs.Steps.{step_at, step_of, step}
use Rattle.calculus.proofs.Places.{place_decomposed}
use Rattle.calculus.proofs.Validity.{listed_rising}
use Rattle.image.specs.declared.parts.Parts.{Parts}
use Rattle.image.specs.Standing.{Stands}
use Rattle.image.specs.Cuts.{before, beyond, hits, PartsAt}
use Rattle.image.proofs.Standing.{headed, stands_left, stands_right, stands_at, stands_as}
use Rattle.image.proofs.Seeking.{before_onward, hit, miss_get, entries_append, placed_hit, placed_miss}
use Rattle.words.specs.declared.tags.Tag.{Tag}
use Rattle.words.specs.declared.tags.Tag.TheVariants as tag
use Rattle.words.specs.Tags.{word_of, TagTold}
use Rattle.place.specs.declared.Spot.{Spot}
use Rattle.place.specs.declared.Spot.TheVariants.{Value, RedexAt, StuckAt}
use Rattle.place.specs.Search.{prefix, spot_of, Placed}
use Rattle.rules.specs.declared.site.Site.{Site}
use Rattle.std.specs.Prelude.{Option, Some, None, IsSome, Result, Ok, Err}
use Rattle.rules.specs.declared.site.Moved.{Moved}
use Rattle.rules.specs.declared.site.Reason.TheVariants.{Shape}
use Rattle.rules.specs.declared.site.Refusal.{Refusal}
use Rattle.rules.specs.declared.site.Refusal.TheVariants.{Finished, Stuck, NotLive}
use Rattle.rules.specs.Work.{Work, Working, Acted, Acts}
use Rattle.rules.specs.Sections.{Finds}
use Rattle.rules.specs.Advancing.{Section, LiveAt, StepsAt, Steps}
use Rattle.rules.proofs.Chunks.{stands_all, listed_here, redex_stands}
use Rattle.rules.proofs.Redexes.{InTags, in_tags}

-- by the tag
pub work_in_tags : {s : List ℕ} {site : Site} (tag : ℕ) → tag ≡ get_or s site.place 0
    → Working (get_or s site.place 0) s site → InTags tag
work_in_tags {s} {site} tag i k =
    subst InTags (sym i) (in_tags k.redex (redex_stands s site k.state k.me k.context k.redex k.work))

-- the task of a live revision, and its words in the image
record Live (s : List ℕ) (st : State) (r at : ℕ) : Type 0 where
  pub me : Task
  pub live : get r st ≡ some me
  pub split : st ≡ before r st ++ ((r, me) ∷ beyond r st)
  pub stands : Stands s (at + 1) (task_words me)
  pub valid : ValidTask me

lives : (s : List ℕ) (st : State) (r at : ℕ) → Valid st → s ≡ image st → Section st r at → Live s st r at
unfolding image
lives s st r at v e h =
    let H = hit r st h.hit in
    let sp : st ≡ before r st ++ ((r, H.here) ∷ beyond r st)
    = before_onward r st ∙ ap (λ m. before r st ++ m) H.onward in
    let t = (headed (stands_all s (length st ∷ entries task_words st) e)).more in
    let u : entries task_words st ≡ entries task_words (before r st) ++
    (r ∷ (task_words H.here ++ entries task_words (beyond r st)))
    = ap (entries task_words) sp ∙ entries_append task_words (before r st) _ in
    let at-r : Stands s at (r ∷ (task_words H.here ++ entries task_words (beyond r st)))
    =
    stands_at at (let z = h.here in omega arith) (stands_right (entries task_words (before r st)) _ (stands_as u t))
    in
    let (p, q, ok, x, y) = listed_here ValidTask 63 (before r st) 0 r H.here (beyond r st)
    (subst (Listed ValidTask 63 0) sp v.tasks) in
    record {
      me = H.here;
      live = H.get;
      split = sp;
      stands = stands_left (task_words H.here) _ (headed at-r).more;
      valid = ok;
    }

module _ (s : List ℕ) (r at : ℕ) (c : Parts) (parts : PartsAt s (at + 1) c) (q : Spot)
    (found : Placed s c.expression q) (o : List ℕ) where
  -- what the search finds in r's expression, by the place there is
  spot_is : (st : State) (v : Valid st) (e : s ≡ image st) (h : Section st r at)
      → q ≡ spot_of c.expression (place (lives s st r at v e h).me.expression)
  unfolding task_words
  spot_is st v e h =
      let l = lives s st r at v e h in
      let k = parts.cut l.me l.valid l.stands in
      let t = stands_right (counted cell_words l.me.snapshot)
      (counted cell_words l.me.local ++ words l.me.expression) l.stands in
      let u = stands_right (counted cell_words l.me.local) (words l.me.expression) t in
      found.answer l.me.expression l.valid.expression.0
      (stands_at c.expression (let a = k.local in let b = k.expression in omega arith) u)

  step_is : (st : State) (v : Valid st) (e : s ≡ image st) (h : Section st r at)
      → step r st ≡ step_at r st (lives s st r at v e h).me (place (lives s st r at v e h).me.expression)
  unfolding step
  step_is st v e h = ap (step_of r st) (lives s st r at v e h).live

  pub step_value : q ≡ Value → StepsAt s r at o (Err Finished) o
  step_value d =
      record {
        acts = λ st v e h. subst (λ x. Acted x o (Err Finished) o) (sym (step_is st v e h))
            (go st v e h (place (lives s st r at v e h).me.expression) refl);
      }
    where
      go : (st : State) (v : Valid st) (e : s ≡ image st) (h : Section st r at) (p : Place)
          → place (lives s st r at v e h).me.expression ≡ p
          → Acted (step_at r st (lives s st r at v e h).me p) o (Err Finished) o
      go st v e h is_value i = (refl, refl)
      go st v e h (works_at E R) i =
          let z : Value ≡ RedexAt (c.expression + length (prefix E))
          = sym d ∙ spot_is st v e h ∙ ap (spot_of c.expression) i in
          absurd (let y : ◌≡◌ {A = ℕ} 0 1 = cc in omega arith)
      go st v e h (stuck_at E x) i =
          let z : Value ≡ StuckAt (c.expression + length (prefix E))
          = sym d ∙ spot_is st v e h ∙ ap (spot_of c.expression) i in
          absurd (let y : ◌≡◌ {A = ℕ} 0 1 = cc in omega arith)

  pub step_stuck : (p : ℕ) → q ≡ StuckAt p → StepsAt s r at o (Err (Stuck Shape)) o
  step_stuck p d =
      record {
        acts = λ st v e h. subst (λ x. Acted x o (Err (Stuck Shape)) o) (sym (step_is st v e h))
            (go st v e h (place (lives s st r at v e h).me.expression) refl);
      }
    where
      go : (st : State) (v : Valid st) (e : s ≡ image st) (h : Section st r at) (k : Place)
          → place (lives s st r at v e h).me.expression ≡ k
          → Acted (step_at r st (lives s st r at v e h).me k) o (Err (Stuck Shape)) o
      go st v e h is_value i =
          let z : StuckAt p ≡ Value = sym d ∙ spot_is st v e h ∙ ap (spot_of c.expression) i in
          absurd (let y : ◌≡◌ {A = ℕ} 0 1 = cc in omega arith)
      go st v e h (works_at E R) i =
          let z : StuckAt p ≡ RedexAt (c.expression + length (prefix E))
          = sym d ∙ spot_is st v e h ∙ ap (spot_of c.expression) i in
          absurd (let y : ◌≡◌ {A = ℕ} 0 1 = cc in omega arith)
      go st v e h (stuck_at E x) i = (refl, refl)

  module _ (p : ℕ) (d : q ≡ RedexAt p) where
    abbrev site : Site
    site = record { revision = r; snapshot = at + 1; local = c.local; expression = c.expression; place = p }

    -- the redex, and the revision at work on it
    record At (st : State) (me : Task) : Type 0 where
      pub context : Context
      pub redex : Redex
      pub place : place me.expression ≡ works_at context redex
      pub work : Work s site st me context redex

    at_work : (st : State) (v : Valid st) (e : s ≡ image st) (h : Section st r at) → At st (lives s st r at v e h).me
    at_work st v e h = go (place (lives s st r at v e h).me.expression) refl
      where
        l : Live s st r at
        l = lives s st r at v e h

        go : (k : Place) → place (lives s st r at v e h).me.expression ≡ k → At st (lives s st r at v e h).me
        go is_value i =
            let z : RedexAt p ≡ Value = sym d ∙ spot_is st v e h ∙ ap (spot_of c.expression) i in
            absurd (let y : ◌≡◌ {A = ℕ} 0 1 = cc in omega arith)
        go (stuck_at E x) i =
            let z : RedexAt p ≡ StuckAt (c.expression + length (prefix E))
            = sym d ∙ spot_is st v e h ∙ ap (spot_of c.expression) i in
            absurd (let y : ◌≡◌ {A = ℕ} 0 1 = cc in omega arith)
        go (works_at E R) i =
            let l = lives s st r at v e h in
            let k = parts.cut l.me l.valid l.stands in
            let z : RedexAt p ≡ RedexAt (c.expression + length (prefix E))
            = sym d ∙ spot_is st v e h ∙ ap (spot_of c.expression) i in
            record {
              context = E;
              redex = R;
              place = i;
              work =
                  record {
                    is = e;
                    valid = v;
                    lower = before r st;
                    upper = beyond r st;
                    split = l.split;
                    snapshot = let a = h.here in omega arith;
                    local = k.local;
                    expression = k.expression;
                    decomposed = place_decomposed l.me.expression E R i;
                    place = cc;
                  };
            }

    pub redex_working : LiveAt s r at → Working (get_or s p 0) s site
    redex_working k =
        let w = at_work k.state k.valid k.is k.section in
        record {
          state = k.state;
          me = (lives s k.state r at k.valid k.is k.section).me;
          context = w.context;
          redex = w.redex;
          work = w.work;
          tagged = refl;
        }

    pub step_redex : (a : Result Moved Refusal) (o' : List ℕ) → Acts (get_or s p 0) s site o a o' → StepsAt s r at o a o'
    step_redex a o' w = record { acts = λ st v e h. go st v e h (at_work st v e h) }
      where
        go : (st : State) (v : Valid st) (e : s ≡ image st) (h : Section st r at) → At st (lives s st r at v e h).me
            → Acted (step r st) o a o'
        go st v e h k =
            let me = (lives s st r at v e h).me in
            subst (λ x. Acted x o a o') (sym (step_is st v e h ∙ ap (step_at r st me) k.place))
            (w.acts st me k.context k.redex k.work refl)

-- r's section in the image, or none
module _ (s : List ℕ) (r : ℕ) (k : Result ℕ ℕ) (f : Finds s r k) (o : List ℕ) (at : ℕ) where
  here : k ≡ Ok at → (st : State) → Valid st → s ≡ image st → Section st r at
  here e st v i =
      let p = placed_hit (hits r st) _ at (sym e ∙ f.answer st v i) in record { hit = p.0; here = p.1 }

  pub steps_gone : k ≡ Err at → Steps s r o (Err NotLive) o
  unfolding step
  steps_gone e =
      record {
        acts = λ st v i.
            let h = (placed_miss (hits r st) _ at (sym e ∙ f.answer st v i)).0 in
            let n = miss_get r st (listed_rising ValidTask 63 st 0 v.tasks) h in
            subst (λ (m : Maybe Task). Acted (step_of r st m) o (Err NotLive) o) (sym n) (refl, refl);
      }

pub image_long : (s : List ℕ) → ValidImage s → 0 < length s
unfolding image
image_long s v = let l = ap length v.exactly in omega arith

-- where a live revision's section starts lies in the words
pub record AtBound (s : List ℕ) (at : ℕ) : Type 0 where
  pub inside : at + 1 < length s

pub at_bound : {s : List ℕ} {r at : ℕ} → LiveAt s r at → AtBound s at
unfolding task_words
at_bound {s} {r} {at} k =
    record { inside = (headed (lives s k.state r at k.valid k.is k.section).stands).inside }

-- the word at a redex is a tag, and none of a value
pub tag_there : (w : ℕ) (o : Option Tag) → TagTold w o → InTags w → IsSome o
tag_there w (Some t) h i = refl
tag_there w None h i = let l = i.high in absurd (omega arith)

none_left : (t : Tag) → 8 ≤ word_of t → (t ≡ tag.Apply → ⊥) → (t ≡ tag.If → ⊥) → (t ≡ tag.Ref → ⊥) → (t ≡ tag.Read → ⊥)
    → (t ≡ tag.Assign → ⊥) → (t ≡ tag.Fork → ⊥) → (t ≡ tag.Join → ⊥) → (t ≡ tag.Add → ⊥) → (t ≡ tag.Subtract → ⊥)
    → (t ≡ tag.Less → ⊥) → ⊥
none_left tag.Unit l a b c d e f g h i j = omega arith
none_left tag.False l a b c d e f g h i j = omega arith
none_left tag.True l a b c d e f g h i j = omega arith
none_left tag.Number l a b c d e f g h i j = omega arith
none_left tag.Variable l a b c d e f g h i j = omega arith
none_left tag.Location l a b c d e f g h i j = omega arith
none_left tag.Revision l a b c d e f g h i j = omega arith
none_left tag.Lambda l a b c d e f g h i j = omega arith
none_left tag.Apply l a b c d e f g h i j = a refl
none_left tag.If l a b c d e f g h i j = b refl
none_left tag.Ref l a b c d e f g h i j = c refl
none_left tag.Read l a b c d e f g h i j = d refl
none_left tag.Assign l a b c d e f g h i j = e refl
none_left tag.Fork l a b c d e f g h i j = f refl
none_left tag.Join l a b c d e f g h i j = g refl
none_left tag.Add l a b c d e f g h i j = h refl
none_left tag.Subtract l a b c d e f g h i j = i refl
none_left tag.Less l a b c d e f g h i j = j refl

pub no_other : (w : ℕ) (o : Option Tag) (t : Tag) → TagTold w o → o ≡ Some t → InTags w
    → (t ≡ tag.Apply → ⊥) → (t ≡ tag.If → ⊥) → (t ≡ tag.Ref → ⊥) → (t ≡ tag.Read → ⊥)
    → (t ≡ tag.Assign → ⊥) → (t ≡ tag.Fork → ⊥) → (t ≡ tag.Join → ⊥) → (t ≡ tag.Add → ⊥) → (t ≡ tag.Subtract → ⊥)
    → (t ≡ tag.Less → ⊥) → ⊥
no_other w o t h e i =
    let k : word_of t ≡ w = subst (TagTold w) e h in
    let l = i.low in
    none_left t (omega arith)
