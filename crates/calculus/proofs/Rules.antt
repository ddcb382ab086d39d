-- The step as a function and the rules agree, both ways, and so the rules determine the next state.
use Prim.Native.Nat.{ℕ}
use mathlib.Core.Bool.{Bool, cond, true, false}
use mathlib.Core.Option.{some, Option, none}
use mathlib.Core.Path.{subst as along, ◌≡◌, refl, sym, ◌∙◌}
use Rattle.calculus.specs.Maps.{put, get, remove}
use Rattle.calculus.specs.Expressions.{leaf, location, constant, unit, revision}
use Rattle.calculus.specs.Formed.{value}
use Rattle.calculus.specs.Stores.{Cell, content, written}
use Rattle.calculus.specs.States.{State, Task, view, absorbed}
use Rattle.calculus.specs.Redexes.{Redex, applying, choosing, calculating, making, reading, assigning, forking}
use Rattle.calculus.specs.Redexes.{joining}
use Rattle.calculus.specs.Places.{Context, place, plug, Place, is_value, works_at, stuck_at}
use Rattle.calculus.specs.NewNumbers.{new_location, new_revision}
use Rattle.calculus.specs.Rules.{Rule, by_apply, by_if, by_ref, by_read, by_assign, by_fork, by_join, by_join_gone}
use Rattle.calculus.specs.Rules.{by_arithmetic, Step, become, child}
use Rattle.calculus.specs.Steps.{step, next, act, with_new, Reason, with_cell, Outcome, waits, with_joined, step_at}
use Rattle.calculus.specs.Steps.{step_of}
use Rattle.calculus.specs.Answers.{leads_to}
use Rattle.calculus.proofs.Options.{some_inj, none≢some}
use Rattle.calculus.proofs.Places.{decomposed_place, place_decomposed}

-- what a rule leads to, the function leads to
pub rule_leads : {r : ℕ} {s : State} {me : Task} {E : Context} {R : Redex} {t : State} → Rule r s me E R t
    → leads_to (act r s me E R) ≡ some t
rule_leads (by_apply f v) = refl
rule_leads (by_if t b c) = refl
rule_leads (by_ref v l h) = rw h refl
rule_leads (by_read l v h) = rw h refl
rule_leads (by_assign l v d h) = rw h refl
rule_leads (by_fork e r' h) = rw h refl
rule_leads (by_join r' other h v) = rw (h, v) refl
rule_leads (by_join_gone r' h) = rw h refl
rule_leads (by_arithmetic o m n) = refl

pub rules_step : {r : ℕ} {s t : State} → Step r s t → leads_to (step r s) ≡ some t
unfolding step
rules_step k = rw (k.live, decomposed_place k.place) (rule_leads k.rule)

-- the rules determine the next state
pub step_determined : {r : ℕ} {s t u : State} → Step r s t → Step r s u → t ≡ u
step_determined a b = some_inj (sym (rules_step a) ∙ rules_step b)

-- and what the function leads to is by a rule
module _ (r : ℕ) (s : State) (me : Task) (E : Context) where
  by_rule : (R : Redex) (t u : State) → Rule r s me E R t → some t ≡ some u → Rule r s me E R u
  by_rule R t u k h = along (Rule r s me E R) (some_inj h) k

  act_rule : (R : Redex) (u : State) → leads_to (act r s me E R) ≡ some u → Rule r s me E R u
  act_rule (applying f v) u h = by_rule (applying f v) _ u (by_apply f v) h
  act_rule (choosing t b c) u h = by_rule (choosing t b c) _ u (by_if t b c) h
  act_rule (calculating o m n) u h = by_rule (calculating o m n) _ u (by_arithmetic o m n) h
  act_rule (making v) u h = go (new_location s) refl h
    where
      go : (o : Option ℕ) → new_location s ≡ o
          → leads_to (with_new o (λ l. next (put r (become me (put l v me.local) (plug E (leaf location l))) s))) ≡
          some u
          → Rule r s me E (making v) u
      go none p q = none≢some q
      go (some l) p q = by_rule (making v) _ u (by_ref v l p) q
  act_rule (reading l) u h = go _ (get l (view me)) refl h
    where
      go : (ρ : Reason) (o : Option Cell) → get l (view me) ≡ o
          → leads_to (with_cell ρ o (λ c. next (put r (become me me.local (plug E (content c))) s))) ≡ some u
          → Rule r s me E (reading l) u
      go ρ none p q = none≢some q
      go ρ (some v) p q = by_rule (reading l) _ u (by_read l v p) q
  act_rule (assigning l v) u h = go _ (written (view me) l v) refl h
    where
      go : (ρ : Reason) (o : Option Cell) → written (view me) l v ≡ o
          → leads_to (with_cell ρ o (λ d. next (put r (become me (put l d me.local) (plug E (constant unit))) s))) ≡
          some u
          → Rule r s me E (assigning l v) u
      go ρ none p q = none≢some q
      go ρ (some d) p q = by_rule (assigning l v) _ u (by_assign l v d p) q
  act_rule (forking e) u h = go (new_revision s) refl h
    where
      forked : ℕ → State
      forked r' = put r' (child me e) (put r (become me me.local (plug E (leaf revision r'))) s)

      go : (o : Option ℕ) → new_revision s ≡ o → leads_to (with_new o (λ r'. next (forked r'))) ≡ some u
          → Rule r s me E (forking e) u
      go none p q = none≢some q
      go (some r') p q = by_rule (forking e) _ u (by_fork e r' p) q
  act_rule (joining r') u h = go (get r' s) refl h
    where
      after : Task → Outcome
      after other = next (put r (become me (absorbed me other) (plug E (constant unit))) (remove r' s))

      live : (other : Task) → get r' s ≡ some other → (b : Bool) → value other.expression ≡ b
          → leads_to (cond b (after other) waits) ≡ some u → Rule r s me E (joining r') u
      live other p true v q = by_rule (joining r') _ u (by_join r' other p v) q
      live other p false v q = none≢some q

      go : (o : Option Task) → get r' s ≡ o → leads_to (with_joined o after) ≡ some u → Rule r s me E (joining r') u
      go none p q = by_rule (joining r') _ u (by_join_gone r' p) q
      go (some other) p q = live other p (value other.expression) refl q

pub step_rules : (r : ℕ) (s u : State) → leads_to (step r s) ≡ some u → Step r s u
unfolding step
step_rules r s u h = go (get r s) refl h
  where
    placed : (me : Task) → get r s ≡ some me → (p : Place) → place me.expression ≡ p
        → leads_to (step_at r s me p) ≡ some u → Step r s u
    placed me a is_value p q = none≢some q
    placed me a (works_at E R) p q =
        record {
          task = me;
          live = a;
          context = E;
          redex = R;
          place = place_decomposed me.expression E R p;
          rule = act_rule r s me E R u q;
        }
    placed me a (stuck_at E e) p q = none≢some q

    go : (o : Option Task) → get r s ≡ o → leads_to (step_of r s o) ≡ some u → Step r s u
    go none p q = none≢some q
    go (some me) p q = placed me p (place me.expression) refl q
