-- A join keeps a good state good: whom the joined task may name ranks below it, and it below its joiner.
use Prim.Native.Nat.{ℕ, ◌<◌}
use mathlib.Core.Bool.{Bool, ◌||◌, true, false}
use mathlib.Core.Logic.{◌⊎◌, inl, inr, ◌≢◌}
use mathlib.Core.Option.{some}
use mathlib.Core.Path.{subst as along, ◌≡◌, refl, sym, ◌∙◌}
use native.Mathlib.Decide.{ℕ_discrete}
use native.Mathlib.Omega.{arith}
use lib.Dec.{T}
use Rattle.calculus.specs.Maps.{get, put, remove}
use Rattle.calculus.specs.Types.{ScriptType, basic, unit_type}
use Rattle.calculus.specs.Expressions.{constant, unit}
use Rattle.calculus.specs.States.{State, Task, absorbed, view}
use Rattle.calculus.specs.Redexes.{expression_at, joining}
use Rattle.calculus.specs.Places.{Context, plug}
use Rattle.calculus.specs.Rules.{become}
use Rattle.calculus.specs.Typing.{World, HasType, nothing, join_rule, revision_rule, constant_rule}
use Rattle.calculus.proofs.Options.{none≢some, eqb_same, eqb_other}
use Rattle.calculus.proofs.Maps.{put_cases, get_remove_same, get_remove_other, rising_put, rising_remove}
use Rattle.calculus.proofs.Stores.{every_absorbed}
use Rattle.calculus.proofs.TypingLaws.{SubW}
use Rattle.calculus.proofs.Views.{Within, join_grows, join_holds}
use Rattle.calculus.proofs.Retyping.{replace, update}
use Rattle.calculus.proofs.Safety.{Good, world, world_grows, Fine, fits_grows, snapshot_seen, Fits, local_seen}
use Rattle.calculus.proofs.Safety.{Was, was, main_here, put_keeps_main}
use Rattle.calculus.proofs.Keeping.{redex_typed}

either : (a b : Bool) → T (a || b) → T a ⊎ T b
either true b t = inl tt
either false b t = inr t

or_first : (a b : Bool) → T a → T (a || b)
or_first true b t = tt
or_first false b t = absurd t

or_second : (a b : Bool) → T b → T (a || b)
or_second true b t = tt
or_second false b t = t

module _ {A : ScriptType} {s : State} (g : Good A s) (r : ℕ) {me : Task} (live : get r s ≡ some me) (E : Context)
    (r' : ℕ) (place : plug E (expression_at (joining r')) ≡ me.expression) {other : Task}
    (found : get r' s ≡ some other) where
  abbrev joiner : Task
  joiner = become me (absorbed me other) (plug E (constant unit))

  abbrev mine : World
  mine = world g.cells (g.may r) me

  join_parts : {C : ScriptType} → HasType mine nothing (expression_at (joining r')) C
      → T (g.may r r') × (basic unit_type ≡ C)
  join_parts (join_rule (revision_rule h)) = (h, refl)

  -- who may be named ranks below
  named_below : T (g.may r r')
  named_below = (join_parts (redex_typed g r live E (joining r') place).1).0

  pub joined_below : (g.rank r' < g.rank r) × Within other.snapshot (view me)
  joined_below = g.below r me live r' other found named_below

  -- the joiner may name whom it or the joined task might, and sees what both saw
  abbrev both : ℕ → Bool
  both n = g.may r n || g.may r' n

  abbrev after : World
  after = world g.cells both joiner

  grows : Within (view me) (view joiner)
  grows = join_grows me other

  holds : Within (view other) (view joiner)
  holds = join_holds me other joined_below.1

  wider : SubW mine after
  wider =
      world_grows g.cells g.cells (g.may r) both me joiner grows (λ l c B h k. k)
      (λ n t. or_first (g.may r n) (g.may r' n) t)

  wider_other : SubW (world g.cells (g.may r') other) after
  wider_other =
      world_grows g.cells g.cells (g.may r') both other joiner holds (λ l c B h k. k)
      (λ n t. or_second (g.may r n) (g.may r' n) t)

  joiner_fine : Fine g.cells both (g.types r) joiner
  joiner_fine =
      let fine = g.fine r me live in
      let fine-other = g.fine r' other found in
      record {
        expression =
            replace E (expression_at (joining r')) (constant unit) wider
            (λ C d. along (HasType after nothing (constant unit)) (join_parts d).1 (constant_rule unit))
            (rw place fine.expression);
        snapshot =
            fits_grows g.cells g.cells me me.snapshot (snapshot_seen me) (λ l c B h k. k) wider
            fine.snapshot;
        local =
            every_absorbed (Fits g.cells after) me other
            (fits_grows g.cells g.cells me me.local (local_seen me) (λ l c B h k. k) wider fine.local)
            (fits_grows g.cells g.cells other other.local (local_seen other) (λ l c B h k. k) wider_other
            fine-other.local);
      }

  abbrev may' : ℕ → ℕ → Bool
  may' = update r both g.may

  -- the tasks now: the joiner and the others, but for the joined one
  abbrev Now' : ℕ → Task → Type 0
  Now' q M = ((q ≡ r) × (joiner ≡ M)) ⊎ ((q ≢ r) × (get q s ≡ some M))

  cases : (q : ℕ) (M : Task) → get q (put r joiner (remove r' s)) ≡ some M → Now' q M
  cases q M h = go (put_cases q r joiner M (remove r' s) h) (ℕ_discrete q r')
    where
      go : ((q ≡ r) × (joiner ≡ M)) ⊎ ((q ≢ r) × (get q (remove r' s) ≡ some M)) → Dec (q ≡ r') → Now' q M
      go (inl x) d = inl x
      go (inr (c, k)) (yes p) = none≢some (sym (get_remove_same r' s g.rising) ∙ (rw p at k))
      go (inr (c, k)) (no d) = inr (c, sym (get_remove_other r' q s d) ∙ k)

  before : (q : ℕ) (M : Task) → Now' q M → Was s q M
  before = was g r live joiner refl grows

  fine' : (q : ℕ) (M : Task) → Now' q M → Fine g.cells (may' q) (g.types q) M
  fine' q M (inl (p, i)) = rw (p, ← i, eqb_same r) joiner_fine
  fine' q M (inr (d, h)) = rw (eqb_other q r d) (g.fine q M h)

  below' : (q : ℕ) (M : Task) → Now' q M → (x : ℕ) (N : Task) → Now' x N → T (may' q x)
      → (g.rank x < g.rank q) × Within N.snapshot (view M)
  below' q M (inl (p, i)) x N o t =
      let (N₀, z, f, u) = before x N o in
      rw (p, ← i, ← f) (go N₀ z (either (g.may r x) (g.may r' x) (rw (p, eqb_same r) at t)))
    where
      go : (N₀ : Task) → get x s ≡ some N₀ → T (g.may r x) ⊎ T (g.may r' x)
          → (g.rank x < g.rank r) × Within N₀.snapshot (view joiner)
      go N₀ z (inl a) =
          let (lower, seen) = g.below r me live x N₀ z a in
          (lower, λ l c h. let (d, k) = seen l c h in grows l d k)
      go N₀ z (inr b) =
          let (lower, seen) = g.below r' other found x N₀ z b in
          let beneath = joined_below.0 in
          (omega arith, λ l c h. let (d, k) = seen l c h in holds l d k)
  below' q M (inr (d, h)) x N o t =
      let (N₀, z, f, u) = before x N o in
      let (lower, seen) = g.below q M h x N₀ z (rw (eqb_other q r d) at t) in
      (lower, rw (← f) seen)

  -- main is nobody's to join
  main_now : (M : Task) × (get 0 (remove r' s) ≡ some M)
  main_now =
      let (M, h) = main_here r live g.main_lives in
      (M, get_remove_other r' 0 s (λ e. g.main_unnamed r (rw e named_below)) ∙ h)

  main_unnamed_lem : (q : ℕ) → T (may' q 0) → ⊥
  main_unnamed_lem q t = go (ℕ_discrete q r)
    where
      neither : T (g.may r 0) ⊎ T (g.may r' 0) → ⊥
      neither (inl x) = g.main_unnamed r x
      neither (inr x) = g.main_unnamed r' x

      go : Dec (q ≡ r) → ⊥
      go (yes p) = neither (either (g.may r 0) (g.may r' 0) (rw (p, eqb_same r) at t))
      go (no d) = g.main_unnamed q (rw (eqb_other q r d) at t)

  pub join_good : Good A (put r (become me (absorbed me other) (plug E (constant unit))) (remove r' s))
  join_good =
      record {
        rising = rising_put r joiner (remove r' s) (rising_remove r' s g.rising);
        cells = g.cells;
        types = g.types;
        main_type = g.main_type;
        may = may';
        main_unnamed = main_unnamed_lem;
        main_lives = inr (put_keeps_main (remove r' s) r joiner main_now);
        fine = λ q M h. fine' q M (cases q M h);
        rank = g.rank;
        below = λ q M h x N k t. below' q M (cases q M h) x N (cases x N k) t;
      }
