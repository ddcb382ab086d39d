-- Demand 2, proved from step's promise: the step function, the rules, and the order of refusals.
use Prim.Native.Nat.{ℕ, ◌-◌, ◌≤◌, ◌<◌}
use mathlib.Core.Path.{◌≡◌, refl, sym, ap, ◌∙◌, subst as along}
use mathlib.Core.Logic.{◌≢◌, ◌↔◌}
use mathlib.Core.Bool.{Bool, true, false}
use mathlib.Core.Option.{Option, none, some}
use mathlib.Core.List.{List, [], ◌∷◌, ◌++◌}
use native.Mathlib.Omega.{arith}
use lib.ListN.{length, replicate, get_elem?}
use lib.Dec.{T, leb, eqb, leb→le, le→leb, nleb→lt}
use Rattle.calculus.specs.States.{State}
use Rattle.calculus.specs.Images.{image, state_of, Valid, ValidImage}
use Rattle.calculus.specs.Rules.{Step}
use Rattle.calculus.specs.Steps.{by_shape, by_location, Outcome, next, emptied, finished, waits, stuck}
use Rattle.calculus.specs.Steps.{not_live, no_number, step}
use Rattle.calculus.specs.Conditions.{Condition}
use Rattle.calculus.specs.Answers.{Answer, answer, refused, within, image_room, out_after, with_work, number_of}
use Rattle.calculus.specs.Answers.{leads_to, imaged}
use Rattle.calculus.specs.Answers.{outcome_answer, stepped_from, step_answer, state_after, picked_state}
use Rattle.calculus.proofs.Options.{T→true, ¬T→false, none≢some, some_inj}
use Rattle.calculus.proofs.Images.{image_read_back, valid_image_read, read_valid_image}
use Rattle.calculus.proofs.Rules.{rules_step, step_rules}
use Rattle.calculus.proofs.Outcomes.{outcome_exactly}
use Rattle.std.specs.Prelude.{Result}
use Rattle.engine.specs.declared.answers.Stepped.{Stepped}
use Rattle.engine.specs.declared.answers.StepError.{StepError}
use Rattle.engine.specs.Answers.{stepped_number}
use Rattle.engine.specs.Promises.{StepPromise}
use Rattle.demands.specs.DemandTwo.{Room, StepByRules, PickByRules}

-- a result within its room, and one over it
within_fits : (room : ℕ) (a : Answer) → length a.written ≤ room → within room a ≡ a
within_fits room a h = rw (T→true (leb (length a.written) room) (le→leb (length a.written) room h)) refl

within_over : (room : ℕ) (a : Answer) → room < length a.written → within room a ≡ refused 9
within_over room a h =
    rw (¬T→false (leb (length a.written) room)
    (λ t. let l = leb→le (length a.written) room t in absurd (omega arith))) refl

-- fits or does not
data Sized (n room : ℕ) : Type 0 where
  fits : n ≤ room → Sized n room
  over : room < n → Sized n room

sized : (n room : ℕ) → Sized n room
sized n room = go (leb n room) refl
  where
    go : (b : Bool) → leb n room ≡ b → Sized n room
    go true p = fits (leb→le n room (rw p tt))
    go false p = over (nleb→lt n room (rw p tt))

-- the answer to an outcome, by where it leads
module _ (room : ℕ) (o : Outcome) where
  leads_fits : (t : State) → leads_to o ≡ some t → length (image t) ≤ image_room room
      → outcome_answer room o ≡ answer (number_of o) (image t)
  leads_fits t e h =
      ap (λ m. within (image_room room) (imaged (number_of o) m)) e ∙ within_fits (image_room room)
      (answer (number_of o) (image t)) h

  leads_over : (t : State) → leads_to o ≡ some t → image_room room < length (image t) → outcome_answer room o ≡ refused 9
  leads_over t e h =
      ap (λ m. within (image_room room) (imaged (number_of o) m)) e ∙ within_over (image_room room)
      (answer (number_of o) (image t)) h

  leads_not : leads_to o ≡ none → outcome_answer room o ≡ refused (number_of o)
  leads_not e =
      ap (λ m. within (image_room room) (imaged (number_of o) m)) e ∙ within_fits (image_room room) (refused (number_of o))
      (omega arith)

-- an outcome leads on with 0 or 1, or is one of 2 to 7
data Kind (o : Outcome) : Type 0 where
  leads : (t : State) → leads_to o ≡ some t → number_of o ≤ 1 → Kind o
  stays : leads_to o ≡ none → 2 ≤ number_of o → number_of o ≤ 7 → Kind o

kind : (o : Outcome) → Kind o
kind (next t) = leads t refl (omega arith)
kind emptied = leads [] refl (omega arith)
kind finished = stays refl (omega arith) (omega arith)
kind waits = stays refl (omega arith) (omega arith)
kind (stuck by_shape) = stays refl (omega arith) (omega arith)
kind (stuck by_location) = stays refl (omega arith) (omega arith)
kind not_live = stays refl (omega arith) (omega arith)
kind no_number = stays refl (omega arith) (omega arith)

-- the outcomes that lead nowhere are told apart by their numbers
abbrev known : List Outcome
known = finished ∷ waits ∷ stuck by_shape ∷ stuck by_location ∷ not_live ∷ no_number ∷ []

known_number : (o : Outcome) → 2 ≤ number_of o → get_elem? known (number_of o - 2) ≡ some o
known_number (next t) l = absurd (omega arith)
known_number emptied l = absurd (omega arith)
known_number finished l = refl
known_number waits l = refl
known_number (stuck by_shape) l = refl
known_number (stuck by_location) l = refl
known_number not_live l = refl
known_number no_number l = refl

numbered : (o p : Outcome) → 2 ≤ number_of p → number_of o ≡ number_of p → o ≡ p
numbered o p l e =
    some_inj (sym (known_number o (omega arith)) ∙ ap (λ n. get_elem? known (n - 2)) e ∙ known_number p l)

-- the number of an answer
number_fits : (room : ℕ) (o : Outcome) (t : State) → leads_to o ≡ some t → length (image t) ≤ image_room room
    → (outcome_answer room o).number ≡ number_of o
number_fits room o t e h = ap (λ (a : Answer). a.number) (leads_fits room o t e h)

number_over : (room : ℕ) (o : Outcome) (t : State) → leads_to o ≡ some t → image_room room < length (image t)
    → (outcome_answer room o).number ≡ 9
number_over room o t e h = ap (λ (a : Answer). a.number) (leads_over room o t e h)

number_stays : (room : ℕ) (o : Outcome) → leads_to o ≡ none → (outcome_answer room o).number ≡ number_of o
number_stays room o e = ap (λ (a : Answer). a.number) (leads_not room o e)

-- one of 2 to 7 is answered exactly to the outcome that has it
pub refusal_exactly : (room : ℕ) (o p : Outcome) → 2 ≤ number_of p → number_of p ≤ 7
    → ((outcome_answer room o).number ≡ number_of p) ↔ (o ≡ p)
refusal_exactly room o p low high = (from (kind o), λ e. to e (kind p))
  where
    from : Kind o → (outcome_answer room o).number ≡ number_of p → o ≡ p
    from (leads t e l) n = size (sized (length (image t)) (image_room room))
      where
        size : Sized (length (image t)) (image_room room) → o ≡ p
        size (fits h) = let i = number_fits room o t e h in absurd (omega arith)
        size (over h) = let i = number_over room o t e h in absurd (omega arith)
    from (stays e l k) n = numbered o p low (sym (number_stays room o e) ∙ n)

    to : o ≡ p → Kind p → (outcome_answer room o).number ≡ number_of p
    to e (leads t d l) = absurd (omega arith)
    to e (stays d l k) = ap (λ o. (outcome_answer room o).number) e ∙ number_stays room p d

both : {A B C : Type 0} → A ↔ B → B ↔ C → A ↔ C
both f g = (λ a. g.0 (f.0 a), λ c. f.1 (g.1 c))

-- 0 or 1, and 9, by where the outcome leads
low_leads : (room : ℕ) (o : Outcome) → (outcome_answer room o).number ≤ 1
    → (t : State) × (leads_to o ≡ some t) × (length (image t) ≤ image_room room)
low_leads room o n = go (kind o)
  where
    go : Kind o → (t : State) × (leads_to o ≡ some t) × (length (image t) ≤ image_room room)
    go (leads t e l) = size (sized (length (image t)) (image_room room))
      where
        size : Sized (length (image t)) (image_room room)
            → (t : State) × (leads_to o ≡ some t) × (length (image t) ≤ image_room room)
        size (fits h) = (t, e, h)
        size (over h) = let i = number_over room o t e h in absurd (omega arith)
    go (stays e l k) = let i = number_stays room o e in absurd (omega arith)

nine_leads : (room : ℕ) (o : Outcome) → (outcome_answer room o).number ≡ 9
    → (t : State) × (leads_to o ≡ some t) × (image_room room < length (image t))
nine_leads room o n = go (kind o)
  where
    go : Kind o → (t : State) × (leads_to o ≡ some t) × (image_room room < length (image t))
    go (leads t e l) = size (sized (length (image t)) (image_room room))
      where
        size : Sized (length (image t)) (image_room room)
            → (t : State) × (leads_to o ≡ some t) × (image_room room < length (image t))
        size (fits h) = let i = number_fits room o t e h in absurd (omega arith)
        size (over h) = (t, e, h)
    go (stays e l k) = let i = number_stays room o e in absurd (omega arith)

lead_low : (o : Outcome) (t : State) → leads_to o ≡ some t → number_of o ≤ 1
lead_low o t e = go (kind o)
  where
    go : Kind o → number_of o ≤ 1
    go (leads u d l) = l
    go (stays d l k) = none≢some (sym d ∙ e)

-- what is answered to the outcome of r's step
module _ (s : State) (r : ℕ) (out : List ℕ) where
  abbrev a : Answer
  a = outcome_answer (length out) (step r s)

  refuses : (p : Outcome) → 2 ≤ number_of p → number_of p ≤ 7 → (a.number ≡ number_of p) ↔ Condition r s p
  refuses p l h = both (refusal_exactly (length out) (step r s) p l h) (outcome_exactly r s p)

  by_rules : StepByRules s r out a.number (out_after out a)
  by_rules =
      record {
        taken = λ t k h. take t k h;
        only = λ n. let (t, e, h) = low_leads (length out) (step r s) n in (t, step_rules r s t e, h);
        finished = refuses finished (omega arith) (omega arith);
        waits = refuses waits (omega arith) (omega arith);
        stuck_by_shape = refuses (stuck by_shape) (omega arith) (omega arith);
        stuck_by_location = refuses (stuck by_location) (omega arith) (omega arith);
        not_live = refuses not_live (omega arith) (omega arith);
        no_number = refuses no_number (omega arith) (omega arith);
        no_room = (
          λ n. let (t, e, h) = nine_leads (length out) (step r s) n in (t, step_rules r s t e, h),
          λ (t, k, h). number_over (length out) (step r s) t (rules_step k) h,
        );
      }
    where
      take : (t : State) → Step r s t → Room out t
          → (a.number ≤ 1) × (out_after out a ≡ image t ++ replicate (length out - length (image t)) 0)
      take t k h =
          let e = rules_step k in
          let i = leads_fits (length out) (step r s) t e h in
          let n = lead_low (step r s) t e in (
            along (λ (a : Answer). a.number ≤ 1) (sym i) n,
            ap (out_after out) i ∙ filled (number_of (step r s)) n (image t),
          )
        where
          filled : (n : ℕ) → n ≤ 1 → (ws : List ℕ)
              → out_after out (answer n ws) ≡ ws ++ replicate (length out - length ws) 0
          filled n h ws = rw (T→true (leb n 1) (le→leb n 1 h)) refl

-- demand 2, of one step: whatever words, buffers and pick, if the words are the image of a valid state
pub demand_two_step : (ws : List ℕ) (r : ℕ) (out work : List ℕ) (x : Result Stepped StepError) (out' work' : List ℕ)
    → StepPromise ws r out work x out' work' → length work ≡ 8192 → (s : State) → Valid s → ws ≡ image s
    → StepByRules s r out (stepped_number x) out'
unfolding step_answer
demand_two_step ws r out work x out' work' p w s v i =
    let e : step_answer ws r (length out) (length work) ≡ outcome_answer (length out) (step r s)
    = work_fits (length work) w (stepped_from r (length out) (state_of ws))
    ∙ ap (stepped_from r (length out)) (ap state_of i ∙ image_read_back s v) in
    along (λ n. StepByRules s r out n out') (sym (p.answered ∙ ap (λ (a : Answer). a.number) e))
    (along (StepByRules s r out (a s r out).number) (sym (p.filled ∙ ap (out_after out) e)) (by_rules s r out))
  where
    work_fits : (n : ℕ) → n ≡ 8192 → (b : Answer) → with_work n b ≡ b
    work_fits n h b = rw (T→true (eqb n 8192) (eq→eqb n h)) refl
      where
        eq→eqb : (n : ℕ) → n ≡ 8192 → T (eqb n 8192)
        eq→eqb n h = along (λ n. T (eqb n 8192)) (sym h) tt

-- demand 2, of words that are no image: refused with 8
pub demand_two_invalid : (ws : List ℕ) (r : ℕ) (out work : List ℕ) (x : Result Stepped StepError) (out' work' : List ℕ)
    → StepPromise ws r out work x out' work' → length work ≡ 8192 → (stepped_number x ≡ 8) ↔ (ValidImage ws → ⊥)
unfolding step_answer
demand_two_invalid ws r out work x out' work' p w = (from (state_of ws) refl, to (state_of ws) refl)
  where
    fits8192 : (b : Answer) → with_work (length work) b ≡ b
    fits8192 b = rw (T→true (eqb (length work) 8192) (along (λ n. T (eqb n 8192)) (sym w) tt)) refl

    number : stepped_number x ≡ (stepped_from r (length out) (state_of ws)).number
    number = p.answered ∙ ap (λ (a : Answer). a.number) (fits8192 (stepped_from r (length out) (state_of ws)))

    none_eight : (room : ℕ) (o : Outcome) → (outcome_answer room o).number ≢ 8
    none_eight room o e = go (kind o)
      where
        go : Kind o → ⊥
        go (leads t d l) = size (sized (length (image t)) (image_room room))
          where
            size : Sized (length (image t)) (image_room room) → ⊥
            size (fits h) = let i = number_fits room o t d h in omega arith
            size (over h) = let i = number_over room o t d h in omega arith
        go (stays d l k) = let i = number_stays room o d in omega arith

    from : (m : Option State) → state_of ws ≡ m → stepped_number x ≡ 8 → ValidImage ws → ⊥
    from none i n v = none≢some (sym i ∙ valid_image_read ws v)
    from (some s) i n v =
        none_eight (length out) (step r s) (sym (ap (λ m. (stepped_from r (length out) m).number) i) ∙ sym number ∙ n)

    to : (m : Option State) → state_of ws ≡ m → (ValidImage ws → ⊥) → stepped_number x ≡ 8
    to none i f = number ∙ ap (λ m. (stepped_from r (length out) m).number) i
    to (some s) i f = absurd (f (read_valid_image ws s i))

-- demand 2, over every pick of a run: its answers are those of the rules on the state that the picks before it left
pub demand_two_pick : (s : State) (r : ℕ) → PickByRules s r (outcome_answer 8192 (step r s)).number
unfolding picked_state
demand_two_pick s r =
    record {
      moves = λ t k h.
          let e = rules_step k in
          (along (λ n. n ≤ 1) (sym (number_fits 8192 (step r s) t e h)) (lead_low (step r s) t e), moved t e h);
      refused = λ n. stays_put (kind (step r s)) n;
      only = λ n. let (t, e, h) = low_leads 8192 (step r s) n in (t, step_rules r s t e, h);
    }
  where
    moved : (t : State) → leads_to (step r s) ≡ some t → length (image t) ≤ 8192
        → state_after s (step r s) (leads_to (step r s)) ≡ t
    moved t e h =
        ap (state_after s (step r s)) e ∙ rw (T→true (leb (length (image t)) 8192) (le→leb (length (image t)) 8192 h))
        refl

    stays_put : Kind (step r s) → 2 ≤ (outcome_answer 8192 (step r s)).number
        → state_after s (step r s) (leads_to (step r s)) ≡ s
    stays_put (leads t e l) n = size (sized (length (image t)) 8192)
      where
        size : Sized (length (image t)) 8192 → state_after s (step r s) (leads_to (step r s)) ≡ s
        size (fits h) = let i = number_fits 8192 (step r s) t e h in absurd (omega arith)
        size (over h) =
            ap (state_after s (step r s)) e ∙ rw
            (¬T→false (leb (length (image t)) 8192)
            (λ u. let l = leb→le (length (image t)) 8192 u in absurd (omega arith))) refl
    stays_put (stays e l k) n = ap (state_after s (step r s)) e
