-- Each rule but fork and join keeps a good state good: it changes one task, in its expression or at one location.
use Prim.Native.Nat.{ℕ}
use mathlib.Core.Option.{some}
use mathlib.Core.Path.{subst as along, ◌≡◌, refl, ap, sym, ◌∙◌}
use Rattle.calculus.specs.Maps.{get, put}
use Rattle.calculus.specs.Types.{ScriptType, basic, unit_type, reference}
use Rattle.calculus.specs.Expressions.{one, location, Expression, unit, constant, leaf}
use Rattle.calculus.specs.Stores.{Cell, content, written, plain, maker}
use Rattle.calculus.specs.States.{State, Task, view}
use Rattle.calculus.specs.Redexes.{Redex, expression_at, reading, assigning, making}
use Rattle.calculus.specs.Places.{Context, plug}
use Rattle.calculus.specs.NewNumbers.{new_location}
use Rattle.calculus.specs.Rules.{become}
use Rattle.calculus.specs.Typing.{World, HasType, nothing, Assignment, read_rule, location_rule, assign_rule}
use Rattle.calculus.specs.Typing.{constant_rule, ref_rule, bind}
use Rattle.calculus.proofs.Options.{▸-some, some_inj, eqb_same, eqb_other, none≢some}
use Rattle.calculus.proofs.Maps.{get_put_same}
use Rattle.calculus.proofs.Stores.{every_put, written_is}
use Rattle.calculus.proofs.TypingRules.{types_unique}
use Rattle.calculus.proofs.TypingLaws.{SubW}
use Rattle.calculus.proofs.Views.{within_same, Within, put_grows, seen_written, over_seen}
use Rattle.calculus.proofs.Taken.{new_location_unseen}
use Rattle.calculus.proofs.Retyping.{plugged, replace, same_world, weaken}
use Rattle.calculus.proofs.Safety.{Good, world, changed_good, Agree, fits_grows, snapshot_seen, Fits}
use Rattle.calculus.proofs.Safety.{local_seen, fine_agrees, world_grows, fits_view}

module _ {A : ScriptType} {s : State} (g : Good A s) (r : ℕ) {me : Task} (live : get r s ≡ some me) (E : Context) where
  abbrev pub own : World
  own = world g.cells (g.may r) me

  module _ (R : Redex) (place : plug E (expression_at R) ≡ me.expression) where
    whole : HasType own nothing (plug E (expression_at R)) (g.types r)
    whole = rw place (g.fine r me live).expression

    -- the redex has a type
    pub redex_typed : (B : ScriptType) × HasType own nothing (expression_at R) B
    redex_typed = plugged E (expression_at R) whole

    -- a rule that changes the expression only
    pub expression_good : (e : Expression)
        → ((B : ScriptType) → HasType own nothing (expression_at R) B → HasType own nothing e B)
        → Good A (put r (become me me.local (plug E e)) s)
    expression_good e f =
        let fine = g.fine r me live in
        changed_good g r live (become me me.local (plug E e)) g.cells refl (within_same (view me))
        (record {
          expression = replace E (expression_at R) e (same_world own) f whole;
          snapshot = fine.snapshot;
          local = fine.local;
        })
        g.fine

    -- a rule that puts a cell into the local store
    abbrev pub storing : ℕ → Cell → Expression → Task
    storing l c e = become me (put l c me.local) (plug E e)

    abbrev pub after : Assignment → ℕ → Cell → Expression → World
    after D l c e = world D (g.may r) (storing l c e)

    pub store_good : (l : ℕ) (c : Cell) (e : Expression) (B : ScriptType) (D : Assignment) → D l ≡ some B
        → ((q : ℕ) (M : Task) → get q s ≡ some M → Agree g.cells D M) → HasType own nothing (content c) B
        → ((C : ScriptType) → HasType own nothing (expression_at R) C → HasType (after D l c e) nothing e C)
        → Good A (put r (storing l c e) s)
    store_good l c e B D typed agree d f =
        let fine = g.fine r me live in
        changed_good g r live (storing l c e) D refl grows
        (record {
          expression = replace E (expression_at R) e wider f whole;
          snapshot =
              fits_grows g.cells D me me.snapshot (snapshot_seen me) (agree r me live) wider fine.snapshot;
          local =
              every_put (Fits D (after D l c e)) l c me.local (B, typed, weaken wider d)
              (fits_grows g.cells D me me.local (local_seen me) (agree r me live) wider fine.local);
        })
        (λ q M h. fine_agrees (agree q M h) (g.fine q M h))
      where
        grows : Within (view me) (view (storing l c e))
        grows = put_grows me.snapshot me.local l c

        wider : SubW own (after D l c e)
        wider =
            world_grows g.cells D (g.may r) (g.may r) me (storing l c e) grows (agree r me live) (λ n t. t)

  -- a location that has a type is in the view
  location_seen : {l : ℕ} {B : ScriptType} → own.cells l ≡ some B
      → ((c : Cell) × (get l (view me) ≡ some c)) × (g.cells l ≡ some B)
  location_seen {l} h = let (c, p, q) = ▸-some (get l (view me)) (λ c. g.cells l) h in ((c, p), q)

  read_seen : {l : ℕ} {B : ScriptType} → HasType own nothing (expression_at (reading l)) B
      → ((c : Cell) × (get l (view me) ≡ some c)) × (g.cells l ≡ some B)
  read_seen (read_rule (location_rule h)) = location_seen h

  pub read_able : (l : ℕ) → plug E (expression_at (reading l)) ≡ me.expression → (c : Cell) × (get l (view me) ≡ some c)
  read_able l place = (read_seen (redex_typed (reading l) place).1).0

  pub read_good : (l : ℕ) (c : Cell) → plug E (expression_at (reading l)) ≡ me.expression → get l (view me) ≡ some c
      → Good A (put r (become me me.local (plug E (content c))) s)
  read_good l c place h = expression_good (reading l) place (content c) typed
    where
      typed : (B : ScriptType) → HasType own nothing (expression_at (reading l)) B → HasType own nothing (content c) B
      typed B d =
          let (C, p, q) = fits_view (g.fine r me live) l c h in
          along (HasType own nothing (content c)) (some_inj (sym p ∙ (read_seen d).1)) q

  record Assigned (l : ℕ) (v : Expression) (C : ScriptType) : Type 0 where
    seen : (c : Cell) × (get l (view me) ≡ some c)
    type : ScriptType
    typed : g.cells l ≡ some type
    fits : HasType own nothing v type
    result : basic unit_type ≡ C

  assign_parts : {l : ℕ} {v : Expression} {C : ScriptType} → HasType own nothing (expression_at (assigning l v)) C
      → Assigned l v C
  assign_parts (assign_rule {A = B} (location_rule h) d) =
      let (p, q) = location_seen h in record { seen = p; type = B; typed = q; fits = d; result = refl }

  pub assign_able : (l : ℕ) (v : Expression) → plug E (expression_at (assigning l v)) ≡ me.expression
      → (c : Cell) × (written (view me) l v ≡ some c)
  assign_able l v place =
      let (c, h) = (assign_parts (redex_typed (assigning l v) place).1).seen in
      (plain v, seen_written (view me) l v c h)

  pub assign_good : (l : ℕ) (v : Expression) (c : Cell) → plug E (expression_at (assigning l v)) ≡ me.expression
      → written (view me) l v ≡ some c → Good A (put r (become me (put l c me.local) (plug E (constant unit))) s)
  assign_good l v c place h =
      let parts = assign_parts (redex_typed (assigning l v) place).1 in
      store_good (assigning l v) place l c (constant unit) parts.type g.cells parts.typed
      (λ q M k l c B x y. y)
      (along (λ v. HasType own nothing v parts.type) (sym (written_is (view me) l v c h)) parts.fits)
      (λ C d. along (HasType _ nothing (constant unit)) (assign_parts d).result (constant_rule unit))

  -- a cell is made of a value of its location's type
  made_of : (c : Cell) {C : ScriptType} → HasType own nothing (one (maker c) (content c)) C
      → (B : ScriptType) × HasType own nothing (content c) B × (reference B ≡ C)
  made_of (plain v) (ref_rule {A = B} d) = (B, d, refl)

  pub ref_good : (l : ℕ) (c : Cell) → plug E (expression_at (making c)) ≡ me.expression → new_location s ≡ some l
      → Good A (put r (become me (put l c me.local) (plug E (leaf location l))) s)
  ref_good l c place new =
      let (B, d, e) = made_of c (redex_typed (making c) place).1 in
      store_good (making c) place l c (leaf location l) B (bind l B g.cells) (rw (eqb_same l) refl) (agree B) d
      (result B d)
    where
      agree : (B : ScriptType) (q : ℕ) (M : Task) → get q s ≡ some M → Agree g.cells (bind l B g.cells) M
      agree B q M k i b C x y =
          let unseen = new_location_unseen s l new q M k in
          rw (eqb_other i l (λ e. none≢some (sym unseen ∙ ap (λ i. get i (view M)) (sym e) ∙ x))) y

      now : Task
      now = become me (put l c me.local) (plug E (leaf location l))

      result : (B : ScriptType) → HasType own nothing (content c) B → (C : ScriptType)
          → HasType own nothing (expression_at (making c)) C
          → HasType (world (bind l B g.cells) (g.may r) now) nothing (leaf location l) C
      result B d C k =
          let (B', d', e) = made_of c k in
          let seen = over_seen me.snapshot (put l c me.local) l c (get_put_same l c me.local) in
          let alike : reference B ≡ C = ap reference (types_unique d d') ∙ e in
          along (HasType (world (bind l B g.cells) (g.may r) now) nothing (leaf location l)) alike
          (location_rule (rw (seen, eqb_same l) refl))
