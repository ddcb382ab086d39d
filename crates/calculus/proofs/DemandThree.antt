-- Demand 3: take any script that the check passes, start it as the main task alone, pick tasks in any order, for any
-- number of picks, refused ones included; then the state reached is safe.
use Prim.Native.Nat.{ℕ, suc}
use mathlib.Core.Bool.{false, Bool, true}
use mathlib.Core.List.{List, [], ◌∷◌}
use mathlib.Core.Logic.{◌⊎◌, inl, ◌≢◌, inr}
use mathlib.Core.Option.{some}
use mathlib.Core.Path.{subst as along, ◌≡◌, sym, ◌∙◌, refl, ap}
use native.Mathlib.Omega.{arith}
use Rattle.calculus.specs.Maps.{get, Rising}
use Rattle.calculus.specs.Types.{ScriptType}
use Rattle.calculus.specs.Expressions.{Expression}
use Rattle.calculus.specs.Formed.{value}
use Rattle.calculus.specs.States.{State, Task, view, first}
use Rattle.calculus.specs.Redexes.{Redex}
use Rattle.calculus.specs.Places.{Context}
use Rattle.calculus.specs.Rules.{Rule, by_apply, by_if, by_ref, by_read, by_assign, by_fork, by_join, by_join_gone}
use Rattle.calculus.specs.Rules.{by_arithmetic, Step}
use Rattle.calculus.specs.Typing.{TypedIn, HasType, typed_by, nothing, no_world}
use Rattle.calculus.specs.Answers.{last_state}
use Rattle.calculus.specs.Conditions.{Misses, misses, Ready}
use Rattle.calculus.specs.Runs.{Picks, no_pick, stepped, refused_pick, AllFinished, Emptied, Safe}
use Rattle.calculus.proofs.Options.{none≢some, ▸-some}
use Rattle.calculus.proofs.Maps.{get_none, above_rising, get_head, get_above, get_tail}
use Rattle.calculus.proofs.TypingLaws.{SubW}
use Rattle.calculus.proofs.Outcomes.{put_nonempty, step_work}
use Rattle.calculus.proofs.Taken.{each_get}
use Rattle.calculus.proofs.Retyping.{weaken}
use Rattle.calculus.proofs.Safety.{Good, world}
use Rattle.calculus.proofs.Soundness.{step_good, never_stuck_lem, each_goes_lem, first_good, some_ready}
use Rattle.calculus.proofs.Runs.{run_picks}

picks_good : {A : ScriptType} {s t : State} {picks : List ℕ} → Picks s picks t → Good A s → Good A t
picks_good no_pick g = g
picks_good (stepped k ks) g = picks_good ks (step_good g k)
picks_good (refused_pick ks) g = picks_good ks g

-- all live tasks are finished, or one is not
record Unfinished (s : State) : Type 0 where
  number : ℕ
  task : Task
  live : get number s ≡ some task
  unfinished : value task.expression ≡ false

all_or_one : (s : State) → Rising s → AllFinished s ⊎ Unfinished s
all_or_one [] up = inl (λ r me h. none≢some (sym (get_none r) ∙ h))
all_or_one (e ∷ s) up = go (value e.1.expression) refl (all_or_one s (above_rising e.0 s up))
  where
    go : (b : Bool) → value e.1.expression ≡ b → AllFinished s ⊎ Unfinished s
        → AllFinished (e ∷ s) ⊎ Unfinished (e ∷ s)
    go false v ih = inr (record { number = e.0; task = e.1; live = get_head e s; unfinished = v })
    go true v (inr u) =
        let later : u.number ≢ e.0
        = λ p. none≢some (sym (get_above e.0 u.number s up (omega arith)) ∙ u.live) in
        inr (record {
          number = u.number;
          task = u.task;
          live = get_tail u.number e s later ∙ u.live;
          unfinished = u.unfinished;
        })
    go true v (inl f) = inl (each_get (λ r me. value me.expression ≡ true) e s v f)

-- the state becomes empty only by a join of a task already gone
rule_empties : {r : ℕ} {s : State} {me : Task} {E : Context} {R : Redex} {t : State} → Rule r s me E R t → t ≡ []
    → Misses s me R
rule_empties (by_apply f v) e = absurd (put_nonempty _ _ _ e)
rule_empties (by_if t b c) e = absurd (put_nonempty _ _ _ e)
rule_empties (by_ref c l h) e = absurd (put_nonempty _ _ _ e)
rule_empties (by_read l c h) e = absurd (put_nonempty _ _ _ e)
rule_empties (by_assign l v c h) e = absurd (put_nonempty _ _ _ e)
rule_empties (by_fork b r' h) e = absurd (put_nonempty _ _ _ e)
rule_empties (by_join r' other h v) e = absurd (put_nonempty _ _ _ e)
rule_empties (by_join_gone r' h) e = misses r' h
rule_empties (by_arithmetic o m n) e = absurd (put_nonempty _ _ _ e)

emptied_now : {r : ℕ} {s t : State} (picks : List ℕ) → Step r s t → t ≡ [] → Emptied s (r ∷ picks)
emptied_now {r} {s} {t} picks k p =
    record {
      before = [];
      pick = r;
      after = picks;
      in_order = refl;
      state = s;
      reached = no_pick;
      joins_gone = step_work (Misses s) k (rule_empties k.rule p);
      empties = along (Step r s) p k;
    }

emptied_later : {s t : State} {picks : List ℕ} (r : ℕ)
    → ((u : State) (qs : List ℕ) → Picks t qs u → Picks s (r ∷ qs) u) → Emptied t picks → Emptied s (r ∷ picks)
emptied_later r more x =
    record {
      before = r ∷ x.before;
      pick = x.pick;
      after = x.after;
      in_order = ap (λ ps. r ∷ ps) x.in_order;
      state = x.state;
      reached = more x.state x.before x.reached;
      joins_gone = x.joins_gone;
      empties = x.empties;
    }

some_entry : (e : ℕ × Task) (s : State) → e ∷ s ≢ []
some_entry e s h = none≢some (sym (get_none e.0) ∙ ap (get e.0) (sym h) ∙ get_head e s)

pub emptied_only : {s t : State} {picks : List ℕ} → Picks s picks t → s ≢ [] → t ≡ [] → Emptied s picks
emptied_only no_pick n e = absurd (n e)
emptied_only (refused_pick {r = r} ks) n e = emptied_later r (λ u qs x. refused_pick x) (emptied_only ks n e)
emptied_only (stepped {s = s} {t = t} {r = r} {picks = picks} k ks) n e = go t refl k (λ m. emptied_only ks m e)
  where
    go : (u : State) → t ≡ u → Step r s t → (t ≢ [] → Emptied t picks) → Emptied s (r ∷ picks)
    go [] p k later = emptied_now picks k p
    go (a ∷ u) p k later = emptied_later r (λ u qs x. stepped k x) (later (λ q. some_entry a u (sym p ∙ q)))

-- "its value has the type", by the one assignment of the good state
typed_in : {A : ScriptType} {s : State} (g : Good A s) (main : Task) → get 0 s ≡ some main
    → TypedIn s main.expression A
typed_in {A} {s} g main live =
    record {
      cells = g.cells;
      fits =
          record {
            snapshots =
                λ r me h l c k. let (B, p, d) = (g.fine r me h).snapshot l c k in (B, p, weaken (all_known r me) d);
            locals =
                λ r me h l c k. let (B, p, d) = (g.fine r me h).local l c k in (B, p, weaken (all_known r me) d);
          };
      typed =
          along (HasType (typed_by g.cells) nothing main.expression) g.main_type
          (weaken (all_known 0 main) (g.fine 0 main live).expression);
    }
  where
    all_known : (r : ℕ) (me : Task) → SubW (world g.cells (g.may r) me) (typed_by g.cells)
    all_known r me =
        record {
          cells = λ l B h. (▸-some (get l (view me)) (λ c. g.cells l) h).2;
          tasks = λ q t. tt;
        }

pub passed_scripts_are_safe : (e : Expression) (A : ScriptType) → HasType no_world nothing e A → (picks : List ℕ)
    (s : State) → Picks (first e) picks s → Safe e A picks s
passed_scripts_are_safe e A d picks s k =
    record {
      never_stuck = never_stuck_lem good;
      each_goes = λ r me h. each_goes_lem good r h;
      some_goes = some_goes_lem (all_or_one s good.rising);
      main_lives = main_lives_lem good.main_lives;
      main_typed = typed_in good;
    }
  where
    good : Good A s
    good = picks_good k (first_good e A d)

    some_goes_lem : AllFinished s ⊎ Unfinished s → AllFinished s ⊎ ((r : ℕ) × Ready r s)
    some_goes_lem (inl f) = inl f
    some_goes_lem (inr u) =
        inr (some_ready good (suc (good.rank u.number)) u.number u.live u.unfinished (omega arith))

    main_lives_lem : (s ≡ []) ⊎ ((M : Task) × (get 0 s ≡ some M))
        → (Emptied (first e) picks × (s ≡ [])) ⊎ ((main : Task) × (get 0 s ≡ some main))
    main_lives_lem (inl p) = inl (emptied_only k (some_entry _ []) p, p)
    main_lives_lem (inr x) = inr x

-- and so is the state that a run leaves, with its room for 8,192 words
pub run_is_safe : (e : Expression) (A : ScriptType) → HasType no_world nothing e A → (picks : List ℕ)
    → Safe e A picks (last_state (first e) picks)
run_is_safe e A d picks =
    passed_scripts_are_safe e A d picks (last_state (first e) picks) (run_picks (first e) picks)
