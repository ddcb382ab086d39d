-- The run of the answers is a run over picks and keeps states valid, and a run starts from a valid state.
use Prim.Native.Nat.{ℕ, ◌≤◌}
use mathlib.Core.Bool.{Bool, true, false}
use mathlib.Core.List.{List, ◌++◌, [], ◌∷◌}
use mathlib.Core.Option.{some, Option, none}
use mathlib.Core.Path.{◌≡◌, refl}
use native.Mathlib.Omega.{arith}
use lib.Dec.{T, leb, leb→le}
use lib.ListN.{length, length-append}
use Rattle.calculus.specs.Expressions.{Expression}
use Rattle.calculus.specs.Words.{words}
use Rattle.calculus.specs.Formed.{Formed, closed}
use Rattle.calculus.specs.Numbers.{choose}
use Rattle.calculus.specs.States.{State, first}
use Rattle.calculus.specs.Images.{image, Valid, Listed, task_words}
use Rattle.calculus.specs.Steps.{step}
use Rattle.calculus.specs.Answers.{leads_to, picked_state, state_after, last_state}
use Rattle.calculus.specs.Runs.{Picks, no_pick, stepped, refused_pick}
use Rattle.calculus.proofs.Rules.{step_rules}
use Rattle.calculus.proofs.Validity.{step_keeps_valid}

-- one run after another is a run
pub picks_append : {s t u : State} {picks more : List ℕ} → Picks s picks t → Picks t more u
    → Picks s (picks ++ more) u
picks_append no_pick y = y
picks_append (stepped k x) y = stepped k (picks_append x y)
picks_append (refused_pick x) y = refused_pick (picks_append x y)

-- what a pick leaves: the next state, or what was there
data Picked (s : State) (r : ℕ) : State → Type 0 where
  moved : {t : State} → leads_to (step r s) ≡ some t → length (image t) ≤ 8192 → Picked s r t
  stayed : Picked s r s

picked : (s : State) (r : ℕ) → Picked s r (picked_state s r)
unfolding picked_state
picked s r = go (leads_to (step r s)) refl
  where
    room : (t : State) → leads_to (step r s) ≡ some t → (b : Bool) → leb (length (image t)) 8192 ≡ b
        → Picked s r (choose b t s)
    room t p true q = moved p (leb→le (length (image t)) 8192 (rw q tt))
    room t p false q = stayed

    go : (o : Option State) → leads_to (step r s) ≡ o → Picked s r (state_after s (step r s) o)
    go none p = stayed
    go (some t) p = room t p (leb (length (image t)) 8192) refl

pub run_picks : (s : State) (picks : List ℕ) → Picks s picks (last_state s picks)
unfolding last_state
run_picks s [] = no_pick
run_picks s (r ∷ picks) = go (picked s r) (run_picks (picked_state s r) picks)
  where
    go : {t u : State} → Picked s r t → Picks t picks u → Picks s (r ∷ picks) u
    go (moved {t} p h) k = stepped (step_rules r s t p) k
    go stayed k = refused_pick k

picked_valid : {s t : State} {r : ℕ} → Picked s r t → Valid s → Valid t
picked_valid {s} {t} {r} (moved p h) v = step_keeps_valid r s t v (step_rules r s t p) h
picked_valid stayed v = v

pub run_keeps_valid : (s : State) (picks : List ℕ) → Valid s → Valid (last_state s picks)
unfolding last_state
run_keeps_valid s [] v = v
run_keeps_valid s (r ∷ picks) v = run_keeps_valid (picked_state s r) picks (picked_valid (picked s r) v)

-- the first state of a script
pub first_valid : (e : Expression) → Formed e → T (closed e) → length (words e) ≤ 2048 → Valid (first e)
unfolding Listed image task_words
first_valid e f c h =
    let l = length-append (words e) [] in
    record {
      tasks = (omega arith, omega arith, record { snapshot = tt; local = tt; expression = (f, c) }, tt);
      short = omega arith;
    }
