-- The first state of a passed script is good, a step of a good state leads to a good state, and in a good state each
-- live task is finished, is ready, or waits for a live task that ranks lower; so while any is unfinished some is ready.
use Prim.Native.Nat.{ℕ, ◌<◌, zero, suc}
use mathlib.Core.Bool.{false, Bool, true}
use mathlib.Core.List.{[]}
use mathlib.Core.Logic.{inl, ◌≢◌, inr, ◌⊎◌}
use mathlib.Core.Option.{some, none, Option}
use mathlib.Core.Path.{subst as along, refl, sym, ◌∙◌, ◌≡◌}
use native.Mathlib.Decide.{ℕ_discrete}
use native.Mathlib.Omega.{arith}
use Rattle.calculus.specs.Maps.{get, overlaid}
use Rattle.calculus.specs.Types.{ScriptType}
use Rattle.calculus.specs.Expressions.{Expression}
use Rattle.calculus.specs.Formed.{value}
use Rattle.calculus.specs.Numbers.{choose, calculated}
use Rattle.calculus.specs.States.{first, Task, State}
use Rattle.calculus.specs.Substitution.{substituted}
use Rattle.calculus.specs.Redexes.{Redex, expression_at, applying, choosing, calculating, making, reading}
use Rattle.calculus.specs.Redexes.{assigning, forking, joining}
use Rattle.calculus.specs.Places.{Context, plug, Decomposed}
use Rattle.calculus.specs.Rules.{Rule, by_apply, by_if, by_ref, by_read, by_assign, by_fork, by_join, by_join_gone}
use Rattle.calculus.specs.Rules.{by_arithmetic, Step}
use Rattle.calculus.specs.Steps.{step, finished, waits, stuck, Outcome, next, emptied, not_live, no_number}
use Rattle.calculus.specs.Steps.{Reason}
use Rattle.calculus.specs.Typing.{nothing, HasType, no_world}
use Rattle.calculus.specs.Answers.{leads_to}
use Rattle.calculus.specs.Conditions.{Able, Awaits, awaits, Ready, WaitsFor}
use Rattle.calculus.proofs.Options.{none≢some, some_inj}
use Rattle.calculus.proofs.Maps.{get_none, get_tail}
use Rattle.calculus.proofs.Places.{decomposed_plug}
use Rattle.calculus.proofs.Stores.{every_none}
use Rattle.calculus.proofs.TypingLaws.{SubW}
use Rattle.calculus.proofs.Outcomes.{finished_exactly, ready_exactly, waits_exactly, not_live_exactly}
use Rattle.calculus.proofs.Progress.{progress}
use Rattle.calculus.proofs.Retyping.{weaken, apply_keeps_type, if_keeps_type, arithmetic_keeps_type}
use Rattle.calculus.proofs.Safety.{Good, world, Fine, Fits}
use Rattle.calculus.proofs.Keeping.{expression_good, ref_good, read_good, assign_good, read_able, assign_able}
use Rattle.calculus.proofs.Forks.{fork_good}
use Rattle.calculus.proofs.Joins.{join_good, joined_below}

pub empty_good : (A : ScriptType) → Good A []
empty_good A =
    record {
      rising = tt;
      cells = nothing;
      types = λ r. A;
      main_type = refl;
      may = λ r q. false;
      main_unnamed = λ r t. t;
      main_lives = inl refl;
      fine = λ r me h. none≢some (sym (get_none r) ∙ h);
      rank = λ r. 0;
      below = λ r me h q other k t. absurd t;
    }

pub first_good : (e : Expression) (A : ScriptType) → HasType no_world nothing e A → Good A (first e)
unfolding get overlaid
first_good e A d =
    record {
      rising = tt;
      cells = nothing;
      types = λ r. A;
      main_type = refl;
      may = λ r q. false;
      main_unnamed = λ r t. t;
      main_lives = inr (main, refl);
      fine = λ r me h. fine r me h (ℕ_discrete r 0);
      rank = λ r. 0;
      below = λ r me h q other k t. absurd t;
    }
  where
    main : Task
    main = record { snapshot = []; local = []; expression = e }

    names_none : SubW no_world (world nothing (λ q. false) main)
    names_none = record { cells = λ l B h. none≢some h; tasks = λ q t. t }

    main_fine : Fine nothing (λ q. false) A main
    main_fine =
        record {
          expression = weaken names_none d;
          snapshot = every_none (Fits nothing (world nothing (λ q. false) main));
          local = every_none (Fits nothing (world nothing (λ q. false) main));
        }

    fine : (r : ℕ) (me : Task) → get r (first e) ≡ some me → Dec (r ≡ 0) → Fine nothing (λ q. false) A me
    fine r me h (yes p) = rw (← (some_inj (rw p at h))) main_fine
    fine r me h (no n) = none≢some (sym (get_none r) ∙ sym (get_tail r (0, main) [] n) ∙ h)

-- each rule keeps a good state good
rule_good : {A : ScriptType} {s : State} {r : ℕ} {me : Task} {E : Context} {R : Redex} {t : State} → Good A s
    → get r s ≡ some me → plug E (expression_at R) ≡ me.expression → Rule r s me E R t → Good A t
rule_good {r = r} {E = E} g live place (by_apply f v) =
    expression_good g r live E (applying f v) place (substituted f.variable v f.body)
    (λ B d. apply_keeps_type f v d)
rule_good {r = r} {E = E} g live place (by_if t b c) =
    expression_good g r live E (choosing t b c) place (choose t b c) (λ B d. if_keeps_type t b c d)
rule_good {r = r} {E = E} g live place (by_ref c l h) = ref_good g r live E l c place h
rule_good {r = r} {E = E} g live place (by_read l c h) = read_good g r live E l c place h
rule_good {r = r} {E = E} g live place (by_assign l v c h) = assign_good g r live E l v c place h
rule_good {r = r} {E = E} g live place (by_fork e r' h) = fork_good g r live E e place r' h
rule_good {r = r} {E = E} g live place (by_join r' other h v) = join_good g r live E r' place h
rule_good {A} g live place (by_join_gone r' h) = empty_good A
rule_good {r = r} {E = E} g live place (by_arithmetic o m n) =
    expression_good g r live E (calculating o m n) place (calculated o m n) (λ B d. arithmetic_keeps_type o m n d)

pub step_good : {A : ScriptType} {r : ℕ} {s t : State} → Good A s → Step r s t → Good A t
step_good g k = rule_good g k.live (decomposed_plug k.place) k.rule

-- a live task that isn't finished and ranks below r
record Lower {A : ScriptType} {s : State} (g : Good A s) (r : ℕ) : Type 0 where
  number : ℕ
  task : Task
  live : get number s ≡ some task
  unfinished : value task.expression ≡ false
  below : g.rank number < g.rank r

module _ {A : ScriptType} {s : State} (g : Good A s) (r : ℕ) {me : Task} (live : get r s ≡ some me) where
  able_or_waits : (E : Context) (R : Redex) → plug E (expression_at R) ≡ me.expression
      → Able s me R ⊎ (Awaits s me R × Lower g r)
  able_or_waits E (applying f v) place = inl tt
  able_or_waits E (choosing t b c) place = inl tt
  able_or_waits E (making c) place = inl tt
  able_or_waits E (reading l) place = inl (read_able g r live E l place)
  able_or_waits E (assigning l v) place = inl (assign_able g r live E l v place)
  able_or_waits E (forking e) place = inl tt
  able_or_waits E (joining r') place = go (get r' s) refl
    where
      found : (other : Task) → get r' s ≡ some other → (b : Bool) → value other.expression ≡ b
          → Able s me (joining r') ⊎ (Awaits s me (joining r') × Lower g r)
      found other p true v = inl (inr (other, p, v))
      found other p false v =
          inr (
            awaits r' other p v,
            record {
              number = r';
              task = other;
              live = p;
              unfinished = v;
              below = (joined_below g r live E r' place p).0;
            },
          )

      go : (o : Option Task) → get r' s ≡ o → Able s me (joining r') ⊎ (Awaits s me (joining r') × Lower g r)
      go none p = inl (inl p)
      go (some other) p = found other p (value other.expression) refl
  able_or_waits E (calculating o m n) place = inl tt

  -- an unfinished task is ready, or waits for one below it
  ready_or_waits : value me.expression ≡ false → Ready r s ⊎ (WaitsFor r s × Lower g r)
  ready_or_waits v =
      let (E, R, d) = progress (g.fine r me live).expression (λ n. refl) v in
      go E R d (able_or_waits E R (decomposed_plug d))
    where
      go : (E : Context) (R : Redex) → Decomposed me.expression E R
          → Able s me R ⊎ (Awaits s me R × Lower g r) → Ready r s ⊎ (WaitsFor r s × Lower g r)
      go E R d (inl a) =
          inl (record { task = me; live = live; context = E; redex = R; place = d; holds = a })
      go E R d (inr (w, lower)) =
          inr (record { task = me; live = live; context = E; redex = R; place = d; holds = w }, lower)

  pub each_goes_lem : (value me.expression ≡ true) ⊎ (Ready r s ⊎ WaitsFor r s)
  each_goes_lem = go (value me.expression) refl
    where
      wait : Ready r s ⊎ (WaitsFor r s × Lower g r) → Ready r s ⊎ WaitsFor r s
      wait (inl a) = inl a
      wait (inr (w, lower)) = inr w

      go : (b : Bool) → value me.expression ≡ b → (value me.expression ≡ true) ⊎ (Ready r s ⊎ WaitsFor r s)
      go true v = inl v
      go false v = inr (wait (ready_or_waits v))

-- while a task is unfinished some task is ready: follow the waiting down the ranks
pub some_ready : {A : ScriptType} {s : State} (g : Good A s) (n r : ℕ) {me : Task} → get r s ≡ some me
    → value me.expression ≡ false → g.rank r < n → (q : ℕ) × Ready q s
some_ready g zero r live v h = absurd (omega arith)
some_ready {A} {s} g (suc n) r live v h =
    go (ready_or_waits g r live v) (λ q other a b c. some_ready g n q {me = other} a b c)
  where
    go : Ready r s ⊎ (WaitsFor r s × Lower g r)
        → ((q : ℕ) (other : Task) → get q s ≡ some other → value other.expression ≡ false → g.rank q < n
        → (x : ℕ) × Ready x s) → (q : ℕ) × Ready q s
    go (inl a) ih = (r, a)
    go (inr (w, lower)) ih =
        let b = lower.below in
        ih lower.number lower.task lower.live lower.unfinished (omega arith)

-- no pick is answered stuck, for any reason
abbrev IsStuck : Outcome → Type 0
IsStuck (next t) = ⊥
IsStuck emptied = ⊥
IsStuck finished = ⊥
IsStuck waits = ⊥
IsStuck (stuck ρ) = Unit {0}
IsStuck not_live = ⊥
IsStuck no_number = ⊥

leads_unstuck : (o : Outcome) {t : State} → leads_to o ≡ some t → IsStuck o → ⊥
leads_unstuck (next t) h k = k
leads_unstuck emptied h k = k
leads_unstuck finished h k = k
leads_unstuck waits h k = k
leads_unstuck (stuck ρ) h k = none≢some h
leads_unstuck not_live h k = k
leads_unstuck no_number h k = k

pub never_stuck_lem : {A : ScriptType} {s : State} → Good A s → (r : ℕ) (ρ : Reason) → step r s ≢ stuck ρ
never_stuck_lem {A} {s} g r ρ h = go (get r s) refl
  where
    but : IsStuck (step r s)
    but = along IsStuck (sym h) tt

    ready : ((t : State) × (leads_to (step r s) ≡ some t)) ⊎ (step r s ≡ no_number) → ⊥
    ready (inl (t, k)) = leads_unstuck (step r s) k but
    ready (inr k) = along IsStuck k but

    answered : (me : Task) → get r s ≡ some me → (value me.expression ≡ true) ⊎ (Ready r s ⊎ WaitsFor r s) → ⊥
    answered me p (inl v) =
        along IsStuck ((finished_exactly r s).1 (record { task = me; live = p; is_finished = v })) but
    answered me p (inr (inl a)) = ready ((ready_exactly r s).0 a)
    answered me p (inr (inr w)) = along IsStuck ((waits_exactly r s).1 w) but

    go : (o : Option Task) → get r s ≡ o → ⊥
    go none p = along IsStuck ((not_live_exactly r s).1 p) but
    go (some me) p = answered me p (each_goes_lem g r p)
