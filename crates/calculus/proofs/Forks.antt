-- A fork keeps a good state good: only the parent may name the child, which ranks just under it and sees what it saw.
use Prim.Native.Nat.{ℕ, ◌*◌, ◌+◌, ◌<◌}
use mathlib.Core.Bool.{Bool, false, true, cond}
use mathlib.Core.Logic.{◌≢◌, ◌⊎◌, inl, inr}
use mathlib.Core.Option.{some}
use mathlib.Core.Path.{subst as along, ap, ◌≡◌, refl, ◌∙◌, sym}
use native.Mathlib.Decide.{ℕ_discrete}
use native.Mathlib.Omega.{arith}
use lib.Dec.{T, eqb}
use Rattle.calculus.specs.Maps.{get, overlaid, put}
use Rattle.calculus.specs.Types.{ScriptType, basic, rev_type}
use Rattle.calculus.specs.Expressions.{fork, Expression, leaf, revision, one}
use Rattle.calculus.specs.Formed.{member}
use Rattle.calculus.specs.States.{Task, State, view}
use Rattle.calculus.specs.Redexes.{expression_at, forking}
use Rattle.calculus.specs.Places.{Context, plug}
use Rattle.calculus.specs.NewNumbers.{named, new_revision}
use Rattle.calculus.specs.Rules.{child, become}
use Rattle.calculus.specs.Typing.{Assignment, World, HasType, nothing, fork_rule, revision_rule}
use Rattle.calculus.proofs.Options.{eqb_same, eqb_other}
use Rattle.calculus.proofs.Maps.{put_cases, rising_put}
use Rattle.calculus.proofs.Stores.{every_overlaid, every_none}
use Rattle.calculus.proofs.TypingLaws.{SubW}
use Rattle.calculus.proofs.Views.{within_same, Within}
use Rattle.calculus.proofs.Taken.{Unnamed, new_revision_unnamed, NotIn}
use Rattle.calculus.proofs.Retyping.{update, unnamed_forbidden, replace, unnamed_inside}
use Rattle.calculus.proofs.Safety.{Fine, Good, world, world_grows, fits_grows, snapshot_seen, local_seen}
use Rattle.calculus.proofs.Safety.{fits_view, Fits, Was, was, main_here, put_keeps_main}
use Rattle.calculus.proofs.Keeping.{redex_typed}

fine_forbids : {C : Assignment} {P : ℕ → Bool} {A : ScriptType} {me : Task} (r : ℕ) → Unnamed r me → Fine C P A me
    → Fine C (update r false P) A me
fine_forbids r u f =
    record {
      expression = unnamed_forbidden r u.expression f.expression;
      snapshot = λ l c h. let (B, p, d) = f.snapshot l c h in (B, p, unnamed_forbidden r (u.snapshot l c h) d);
      local = λ l c h. let (B, p, d) = f.local l c h in (B, p, unnamed_forbidden r (u.local l c h) d);
    }

allows : (n r : ℕ) (P : ℕ → Bool) → T (P n) → T (update r true P n)
allows n r P t = go (eqb n r)
  where
    go : (b : Bool) → T (cond b true (P n))
    go true = tt
    go false = t

module _ {A : ScriptType} {s : State} (g : Good A s) (r : ℕ) {me : Task} (live : get r s ≡ some me) (E : Context)
    (e : Expression) (place : plug E (expression_at (forking e)) ≡ me.expression) (r' : ℕ)
    (new : new_revision s ≡ some r') where
  abbrev parent : Task
  parent = become me me.local (plug E (leaf revision r'))

  abbrev mine : World
  mine = world g.cells (g.may r) me

  untaken : (q : ℕ) (M : Task) → get q s ≡ some M → (r' ≢ q) × Unnamed r' M
  untaken = new_revision_unnamed s r' new

  -- the parent
  fork_parts : {C : ScriptType} → HasType mine nothing (expression_at (forking e)) C
      → ((B : ScriptType) × HasType mine nothing e B) × (basic rev_type ≡ C)
  fork_parts (fork_rule {A = B} d) = ((B, d), refl)

  wider : SubW mine (world g.cells (update r' true (g.may r)) parent)
  wider =
      world_grows g.cells g.cells (g.may r) (update r' true (g.may r)) me parent (within_same (view me))
      (λ l c B h k. k) (λ n t. allows n r' (g.may r) t)

  parent_fine : Fine g.cells (update r' true (g.may r)) (g.types r) parent
  parent_fine =
      let fine = g.fine r me live in
      record {
        expression =
            replace E (expression_at (forking e)) (leaf revision r') wider
            (λ C d. along (HasType _ nothing (leaf revision r')) (fork_parts d).1 (revision_rule (rw (eqb_same r') tt)))
            (rw place fine.expression);
        snapshot =
            fits_grows g.cells g.cells me me.snapshot (snapshot_seen me) (λ l c B h k. k) wider
            fine.snapshot;
        local =
            fits_grows g.cells g.cells me me.local (local_seen me) (λ l c B h k. k) wider fine.local;
      }

  -- the child
  body : (B : ScriptType) × HasType mine nothing e B
  body = (fork_parts (redex_typed g r live E (forking e) place).1).0

  body_unnamed : member r' (named revision e) ≡ false
  unfolding named
  body_unnamed = unnamed_inside r' E (one fork e) (rw place (untaken r me live).1.expression)

  child_fine : Fine g.cells (update r' false (g.may r)) body.0 (child me e)
  unfolding overlaid
  child_fine =
      let u = (untaken r me live).1 in
      let unnamed = every_overlaid (NotIn r') me.snapshot me.local u.snapshot u.local in
      record {
        expression = unnamed_forbidden r' body_unnamed body.1;
        snapshot =
            λ l c h.
            let (B, p, d) = fits_view (g.fine r me live) l c h in (B, p, unnamed_forbidden r' (unnamed l c h) d);
        local = every_none (Fits g.cells (world g.cells (update r' false (g.may r)) (child me e)));
      }

  -- who may name whom now, with which types and ranks
  abbrev may' : ℕ → ℕ → Bool
  may' =
      update r' (update r' false (g.may r))
      (update r (update r' true (g.may r)) (λ q. update r' false (g.may q)))

  abbrev types' : ℕ → ScriptType
  types' = update r' body.0 g.types

  abbrev rank' : ℕ → ℕ
  rank' = update r' (2 * g.rank r) (λ q. 1 + 2 * g.rank q)

  rank_new : rank' r' ≡ 2 * g.rank r
  rank_new = rw (eqb_same r') refl

  rank_old : (q : ℕ) → q ≢ r' → rank' q ≡ 1 + 2 * g.rank q
  rank_old q d = rw (eqb_other q r' d) refl

  -- the tasks now: the child, the parent, the others
  abbrev Old : ℕ → Task → Type 0
  Old q M = ((q ≡ r) × (parent ≡ M)) ⊎ ((q ≢ r) × (get q s ≡ some M))

  abbrev Now' : ℕ → Task → Type 0
  Now' q M = ((q ≡ r') × (child me e ≡ M)) ⊎ ((q ≢ r') × Old q M)

  cases : (q : ℕ) (M : Task) → get q (put r' (child me e) (put r parent s)) ≡ some M → Now' q M
  cases q M h = go (put_cases q r' (child me e) M (put r parent s) h)
    where
      go : ((q ≡ r') × (child me e ≡ M)) ⊎ ((q ≢ r') × (get q (put r parent s) ≡ some M)) → Now' q M
      go (inl x) = inl x
      go (inr (d, k)) = inr (d, put_cases q r parent M s k)

  before : (q : ℕ) (M : Task) → Old q M → Was s q M
  before = was g r live parent refl (within_same (view me))

  fine' : (q : ℕ) (M : Task) → Now' q M → Fine g.cells (may' q) (types' q) M
  fine' q M (inl (p, i)) = rw (p, ← i, eqb_same r') child_fine
  fine' q M (inr (d, inl (p, i))) = rw (eqb_other q r' d, p, ← i, eqb_same r) parent_fine
  fine' q M (inr (d, inr (c, h))) =
      rw (eqb_other q r' d, eqb_other q r c) (fine_forbids r' (untaken q M h).1 (g.fine q M h))

  -- the old ones may name of the old ones whom they might
  might : (q : ℕ) (M : Task) → q ≢ r' → Old q M → (x : ℕ) → x ≢ r' → T (may' q x) → T (g.may q x)
  might q M d (inl (p, i)) x c t = rw p (rw (eqb_other q r' d, p, eqb_same r, eqb_other x r' c) at t)
  might q M d (inr (b, h)) x c t = rw (eqb_other q r' d, eqb_other q r b, eqb_other x r' c) at t

  below' : (q : ℕ) (M : Task) → Now' q M → (x : ℕ) (N : Task) → Now' x N → T (may' q x)
      → (rank' x < rank' q) × Within N.snapshot (view M)
  unfolding overlaid
  below' q M (inl (p, i)) x N (inl (a, j)) t = absurd (rw (p, a, eqb_same r', eqb_same r') at t)
  below' q M (inl (p, i)) x N (inr (c, o)) t =
      let t' : T (g.may r x) = rw (p, eqb_same r', eqb_other x r' c) at t in
      let (N₀, y, f, u) = before x N o in
      let (lower, seen) = g.below r me live x N₀ y t' in
      let a = rank_old x c in
      let b : rank' q ≡ 2 * g.rank r = rw p rank_new in
      (omega arith, rw (← i, ← f) seen)
  below' q M (inr (d, inl (p, i))) x N (inl (a, j)) t =
      let b : rank' x ≡ 2 * g.rank r = rw a rank_new in
      let c : rank' q ≡ 1 + 2 * g.rank r = rank_old q d ∙ ap (λ q. 1 + 2 * g.rank q) p in
      (omega arith, rw (← i, ← j) (within_same (view me)))
  below' q M (inr (d, inr (c, h))) x N (inl (a, j)) t =
      absurd (rw (a, eqb_other q r' d, eqb_other q r c, eqb_same r') at t)
  below' q M (inr (d, m)) x N (inr (c, o)) t =
      let (M₀, y, e, v) = before q M m in
      let (N₀, z, f, u) = before x N o in
      let (lower, seen) = g.below q M₀ y x N₀ z (might q M d m x c t) in
      let a = rank_old x c in
      let b = rank_old q d in
      (omega arith, λ l k h. let (k', h') = seen l k (rw f h) in v l k' h')

  main_now : (M : Task) × (get 0 s ≡ some M)
  main_now = main_here r live g.main_lives

  main_old : 0 ≢ r'
  main_old x = (untaken 0 main_now.0 main_now.1).0 (sym x)

  main_unnamed_lem : (q : ℕ) → T (may' q 0) → ⊥
  main_unnamed_lem q t = go (ℕ_discrete q r') (ℕ_discrete q r)
    where
      go : Dec (q ≡ r') → Dec (q ≡ r) → ⊥
      go (yes p) d = g.main_unnamed r (rw (p, eqb_same r', eqb_other 0 r' main_old) at t)
      go (no c) (yes p) =
          g.main_unnamed r (rw (eqb_other q r' c, p, eqb_same r, eqb_other 0 r' main_old) at t)
      go (no c) (no d) = g.main_unnamed q (rw (eqb_other q r' c, eqb_other q r d, eqb_other 0 r' main_old) at t)

  pub fork_good : Good A (put r' (child me e) (put r (become me me.local (plug E (leaf revision r'))) s))
  fork_good =
      record {
        rising = rising_put r' (child me e) (put r parent s) (rising_put r parent s g.rising);
        cells = g.cells;
        types = types';
        main_type = rw (eqb_other 0 r' main_old) g.main_type;
        may = may';
        main_unnamed = main_unnamed_lem;
        main_lives = inr (put_keeps_main (put r parent s) r' (child me e) (put_keeps_main s r parent main_now));
        fine = λ q M h. fine' q M (cases q M h);
        rank = rank';
        below = λ q M h x N k t. below' q M (cases q M h) x N (cases x N k) t;
      }
