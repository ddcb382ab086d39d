-- Each outcome of a step is given exactly under its condition: some condition always holds, and under each the step
-- gives its outcome. So the outcome determines the condition, and no two conditions hold at once.
use Prim.Native.Nat.{ℕ}
use mathlib.Core.Bool.{Bool, true, false}
use mathlib.Core.List.{[]}
use mathlib.Core.Logic.{◌≢◌, ◌↔◌, ◌⊎◌, inl, inr}
use mathlib.Core.Option.{some, none, Option}
use mathlib.Core.Path.{subst as along, ◌≡◌, ap, sym, ◌∙◌, refl}
use native.Mathlib.Omega.{arith}
use Rattle.calculus.specs.Maps.{put, Map, get}
use Rattle.calculus.specs.Expressions.{Expression}
use Rattle.calculus.specs.Formed.{value}
use Rattle.calculus.specs.Stores.{Cell, plain}
use Rattle.calculus.specs.States.{State, Task, view}
use Rattle.calculus.specs.Redexes.{Redex, applying, choosing, making, reading, assigning, forking, joining}
use Rattle.calculus.specs.Redexes.{calculating}
use Rattle.calculus.specs.Places.{Context, stuck_at, works_at, Decomposed, place, Place, is_value}
use Rattle.calculus.specs.NewNumbers.{new_location, new_revision}
use Rattle.calculus.specs.Rules.{Rule, Step, by_apply, by_if, by_ref, by_read, by_assign, by_fork, by_join}
use Rattle.calculus.specs.Rules.{by_arithmetic, by_join_gone}
use Rattle.calculus.specs.Steps.{step, act, stuck, Outcome, next, no_number, by_location, waits, emptied}
use Rattle.calculus.specs.Steps.{finished, by_shape, not_live, step_at}
use Rattle.calculus.specs.Answers.{leads_to}
use Rattle.calculus.specs.Conditions.{Condition, AtWork, Numberless, no_location, Unseen, unseen_read}
use Rattle.calculus.specs.Conditions.{unseen_assign, no_revision, Awaits, awaits, Misses, misses, Finished}
use Rattle.calculus.specs.Conditions.{NoRedex, JoinsGone, WaitsFor, Able, Ready}
use Rattle.calculus.proofs.Options.{none≢some, some_inj}
use Rattle.calculus.proofs.Maps.{get_none, get_put_same}
use Rattle.calculus.proofs.Places.{place_decomposed, decomposed_place}
use Rattle.calculus.proofs.ValuePlaces.{not_value_place, value_place}
use Rattle.calculus.proofs.Rules.{rules_step, step_rules}
use Rattle.calculus.proofs.Views.{seen_written, unseen_written}

stuck≢work : {D E : Context} {e : Expression} {R : Redex} {C : Type 0} → stuck_at D e ≡ works_at E R → C
stuck≢work h = absurd (let z : ◌≡◌ {A = ℕ} 0 1 = cc in omega arith)

-- what a rule puts into a state leaves it not empty
pub put_nonempty : {A : Type 0} (k : ℕ) (a : A) (m : Map A) → put k a m ≢ []
put_nonempty k a m h = none≢some (sym (get_none k) ∙ ap (get k) (sym h) ∙ get_put_same k a m)

module _ (r : ℕ) (s : State) where
  -- some condition holds
  abbrev Comes : Type 0
  Comes = (o : Outcome) × Condition r s o

  module _ (me : Task) (live : get r s ≡ some me) where
    at_work : (P : Task → Redex → Type 0) (E : Context) (R : Redex) → Decomposed me.expression E R → P me R
        → AtWork r s P
    at_work P E R d p = record { task = me; live = live; context = E; redex = R; place = d; holds = p }

    by_rule : (E : Context) (R : Redex) {t : State} → Decomposed me.expression E R → Rule r s me E R t → t ≢ []
        → Comes
    by_rule E R {t} d rule n =
        let k : Step r s t = record { task = me; live = live; context = E; redex = R; place = d; rule = rule } in
        (next t, (k, n))

    comes_at : (E : Context) (R : Redex) → Decomposed me.expression E R → Comes
    comes_at E (applying f v) d = by_rule E (applying f v) d (by_apply f v) (put_nonempty _ _ _)
    comes_at E (choosing t b c) d = by_rule E (choosing t b c) d (by_if t b c) (put_nonempty _ _ _)
    comes_at E (making c) d = go (new_location s) refl
      where
        go : (o : Option ℕ) → new_location s ≡ o → Comes
        go none p = (no_number, at_work (Numberless s) E (making c) d (no_location c p))
        go (some l) p = by_rule E (making c) d (by_ref c l p) (put_nonempty _ _ _)
    comes_at E (reading l) d = go (get l (view me)) refl
      where
        go : (o : Option Cell) → get l (view me) ≡ o → Comes
        go none p = (stuck by_location, at_work Unseen E (reading l) d (unseen_read l p))
        go (some c) p = by_rule E (reading l) d (by_read l c p) (put_nonempty _ _ _)
    comes_at E (assigning l v) d = go (get l (view me)) refl
      where
        go : (o : Option Cell) → get l (view me) ≡ o → Comes
        go none p = (stuck by_location, at_work Unseen E (assigning l v) d (unseen_assign l v p))
        go (some c) p =
            let w = seen_written (view me) l v c p in
            by_rule E (assigning l v) d (by_assign l v (plain v) w) (put_nonempty _ _ _)
    comes_at E (forking e) d = go (new_revision s) refl
      where
        go : (o : Option ℕ) → new_revision s ≡ o → Comes
        go none p = (no_number, at_work (Numberless s) E (forking e) d (no_revision e p))
        go (some r') p = by_rule E (forking e) d (by_fork e r' p) (put_nonempty _ _ _)
    comes_at E (joining r') d = go (get r' s) refl
      where
        found : (other : Task) → get r' s ≡ some other → (b : Bool) → value other.expression ≡ b → Comes
        found other p true v = by_rule E (joining r') d (by_join r' other p v) (put_nonempty _ _ _)
        found other p false v = (waits, at_work (Awaits s) E (joining r') d (awaits r' other p v))

        go : (o : Option Task) → get r' s ≡ o → Comes
        go none p = (emptied, at_work (Misses s) E (joining r') d (misses r' p))
        go (some other) p = found other p (value other.expression) refl
    comes_at E (calculating o m n) d = by_rule E (calculating o m n) d (by_arithmetic o m n) (put_nonempty _ _ _)

    comes_to_lem : (b : Bool) → value me.expression ≡ b → (p : Place) → place me.expression ≡ p → Comes
    comes_to_lem true v p q = (finished, record { task = me; live = live; is_finished = v })
    comes_to_lem false v is_value q = absurd (not_value_place me.expression v q)
    comes_to_lem false v (works_at E R) q = comes_at E R (place_decomposed me.expression E R q)
    comes_to_lem false v (stuck_at E e) q = (
      stuck by_shape,
      record {
        task = me;
        live = live;
        unfinished = v;
        nowhere = λ F R d. stuck≢work (sym q ∙ decomposed_place d);
      },
    )

  pub some_condition : (o : Outcome) × Condition r s o
  some_condition = go (get r s) refl
    where
      go : (o : Option Task) → get r s ≡ o → Comes
      go none p = (not_live, p)
      go (some me) p = comes_to_lem me p (value me.expression) refl (place me.expression) refl

-- under each condition the step gives its outcome
module _ (r : ℕ) (s : State) (me : Task) (E : Context) where
  act_misses : {R : Redex} → Misses s me R → act r s me E R ≡ emptied
  act_misses (misses r' p) = rw p refl

  act_awaits : {R : Redex} → Awaits s me R → act r s me E R ≡ waits
  act_awaits (awaits r' other p v) = rw (p, v) refl

  act_unseen : {R : Redex} → Unseen me R → act r s me E R ≡ stuck by_location
  act_unseen (unseen_read l p) = rw p refl
  act_unseen (unseen_assign l v p) = rw (unseen_written (view me) l v p) refl

  act_numberless : {R : Redex} → Numberless s me R → act r s me E R ≡ no_number
  act_numberless (no_location c p) = rw p refl
  act_numberless (no_revision e p) = rw p refl

leads_next : (o : Outcome) (t : State) → t ≢ [] → leads_to o ≡ some t → o ≡ next t
leads_next (next u) t n h = ap next (some_inj h)
leads_next emptied t n h = absurd (n (sym (some_inj h)))
leads_next finished t n h = none≢some h
leads_next waits t n h = none≢some h
leads_next (stuck ρ) t n h = none≢some h
leads_next not_live t n h = none≢some h
leads_next no_number t n h = none≢some h

module _ (r : ℕ) (s : State) where
  step_works : (P : Task → Redex → Type 0) (w : AtWork r s P) → step r s ≡ act r s w.task w.context w.redex
  unfolding step
  step_works P w = rw (w.live, decomposed_place w.place) refl

  step_shapeless : NoRedex r s → step r s ≡ stuck by_shape
  unfolding step
  step_shapeless w = rw w.live (go (place w.task.expression) refl)
    where
      go : (p : Place) → place w.task.expression ≡ p → step_at r s w.task p ≡ stuck by_shape
      go is_value q = absurd (not_value_place w.task.expression w.unfinished q)
      go (works_at E R) q = absurd (w.nowhere E R (place_decomposed w.task.expression E R q))
      go (stuck_at E e) q = refl

  step_finished : Finished r s → step r s ≡ finished
  unfolding step
  step_finished w = rw (w.live, value_place w.task.expression w.is_finished) refl

  step_not_live : get r s ≡ none → step r s ≡ not_live
  unfolding step
  step_not_live h = rw h refl

  pub condition_outcome : (o : Outcome) → Condition r s o → step r s ≡ o
  condition_outcome (next t) (k, n) = leads_next (step r s) t n (rules_step k)
  condition_outcome emptied w = step_works (Misses s) w ∙ act_misses r s w.task w.context w.holds
  condition_outcome finished w = step_finished w
  condition_outcome waits w = step_works (Awaits s) w ∙ act_awaits r s w.task w.context w.holds
  condition_outcome (stuck by_shape) w = step_shapeless w
  condition_outcome (stuck by_location) w = step_works Unseen w ∙ act_unseen r s w.task w.context w.holds
  condition_outcome not_live h = step_not_live h
  condition_outcome no_number w = step_works (Numberless s) w ∙ act_numberless r s w.task w.context w.holds

  -- the theorem, for every outcome at once
  pub outcome_exactly : (o : Outcome) → (step r s ≡ o) ↔ Condition r s o
  outcome_exactly o = (to, condition_outcome o)
    where
      to : step r s ≡ o → Condition r s o
      to h =
          let (p, c) = some_condition r s in
          along (Condition r s) (sym (condition_outcome p c) ∙ h) c

  pub one_condition : (o p : Outcome) → Condition r s o → Condition r s p → o ≡ p
  one_condition o p c d = sym (condition_outcome o c) ∙ condition_outcome p d

  -- and one by one, in the table's order
  pub leads_exactly : (t : State) → (leads_to (step r s) ≡ some t) ↔ Step r s t
  leads_exactly t = (step_rules r s t, rules_step)

  pub emptied_exactly : (step r s ≡ emptied) ↔ JoinsGone r s
  emptied_exactly = outcome_exactly emptied

  pub finished_exactly : (step r s ≡ finished) ↔ Finished r s
  finished_exactly = outcome_exactly finished

  pub waits_exactly : (step r s ≡ waits) ↔ WaitsFor r s
  waits_exactly = outcome_exactly waits

  pub stuck_by_shape_exactly : (step r s ≡ stuck by_shape) ↔ NoRedex r s
  stuck_by_shape_exactly = outcome_exactly (stuck by_shape)

  pub stuck_by_location_exactly : (step r s ≡ stuck by_location) ↔ AtWork r s Unseen
  stuck_by_location_exactly = outcome_exactly (stuck by_location)

  pub not_live_exactly : (step r s ≡ not_live) ↔ (get r s ≡ none)
  not_live_exactly = outcome_exactly not_live

  pub no_number_exactly : (step r s ≡ no_number) ↔ AtWork r s (Numberless s)
  no_number_exactly = outcome_exactly no_number

-- from a task at work to its step by a rule, and from a step to the task at work
module _ {r : ℕ} {s : State} where
  work_step : {P : Task → Redex → Type 0} (w : AtWork r s P) {t : State}
      → Rule r s w.task w.context w.redex t → Step r s t
  work_step w k =
      record {
        task = w.task;
        live = w.live;
        context = w.context;
        redex = w.redex;
        place = w.place;
        rule = k;
      }

  pub step_work : (P : Task → Redex → Type 0) {t : State} (k : Step r s t) → P k.task k.redex → AtWork r s P
  step_work P k p =
      record {
        task = k.task;
        live = k.live;
        context = k.context;
        redex = k.redex;
        place = k.place;
        holds = p;
      }

-- who is ready has a step by the rules or lacks a number, and the other way
module _ (r : ℕ) (s : State) where
  able_goes : (me : Task) (E : Context) (R : Redex) → Able s me R
      → ((t : State) × Rule r s me E R t) ⊎ Numberless s me R
  able_goes me E (applying f v) a = inl (_, by_apply f v)
  able_goes me E (choosing t b c) a = inl (_, by_if t b c)
  able_goes me E (making c) a = go (new_location s) refl
    where
      go : (o : Option ℕ) → new_location s ≡ o
          → ((t : State) × Rule r s me E (making c) t) ⊎ Numberless s me (making c)
      go none p = inr (no_location c p)
      go (some l) p = inl (_, by_ref c l p)
  able_goes me E (reading l) (c, h) = inl (_, by_read l c h)
  able_goes me E (assigning l v) (c, h) = inl (_, by_assign l v c h)
  able_goes me E (forking e) a = go (new_revision s) refl
    where
      go : (o : Option ℕ) → new_revision s ≡ o
          → ((t : State) × Rule r s me E (forking e) t) ⊎ Numberless s me (forking e)
      go none p = inr (no_revision e p)
      go (some r') p = inl (_, by_fork e r' p)
  able_goes me E (joining r') (inl h) = inl (_, by_join_gone r' h)
  able_goes me E (joining r') (inr (other, h, v)) = inl (_, by_join r' other h v)
  able_goes me E (calculating o m n) a = inl (_, by_arithmetic o m n)

  rule_able : {me : Task} {E : Context} {R : Redex} {t : State} → Rule r s me E R t → Able s me R
  rule_able (by_apply f v) = tt
  rule_able (by_if t b c) = tt
  rule_able (by_ref c l h) = tt
  rule_able (by_read l c h) = (c, h)
  rule_able (by_assign l v c h) = (c, h)
  rule_able (by_fork e r' h) = tt
  rule_able (by_join r' other h v) = inr (other, h, v)
  rule_able (by_join_gone r' h) = inl h
  rule_able (by_arithmetic o m n) = tt

  numberless_able : {me : Task} {R : Redex} → Numberless s me R → Able s me R
  numberless_able (no_location c p) = tt
  numberless_able (no_revision e p) = tt

  abbrev Goes : Type 0
  Goes = ((t : State) × (leads_to (step r s) ≡ some t)) ⊎ (step r s ≡ no_number)

  ready_goes : Ready r s → Goes
  ready_goes w = go (able_goes w.task w.context w.redex w.holds)
    where
      go : ((t : State) × Rule r s w.task w.context w.redex t) ⊎ Numberless s w.task w.redex → Goes
      go (inl (t, k)) = inl (t, rules_step (work_step w k))
      go (inr x) = inr (step_works r s (Able s) w ∙ act_numberless r s w.task w.context x)

  -- who has a step is ready
  pub step_ready : {t : State} → Step r s t → Ready r s
  step_ready k = step_work (Able s) k (rule_able k.rule)

  goes_ready : Goes → Ready r s
  goes_ready (inl (t, h)) = step_ready (step_rules r s t h)
  goes_ready (inr h) =
      let w = (no_number_exactly r s).0 h in
      record {
        task = w.task;
        live = w.live;
        context = w.context;
        redex = w.redex;
        place = w.place;
        holds = numberless_able w.holds;
      }

  -- a ready task is one whose step leads to a state, or is refused for want of a number only
  pub ready_exactly : Ready r s ↔ (((t : State) × (leads_to (step r s) ≡ some t)) ⊎ (step r s ≡ no_number))
  ready_exactly = (ready_goes, goes_ready)
