-- One pick of a run: the answer's number, and the image that the state buffer holds after it.
use Prim.Native.Nat.{ℕ, ◌<◌, ◌≤◌}
use mathlib.Core.List.{List, [], ◌∷◌, ◌++◌}
use mathlib.Core.Option.{none, some}
use mathlib.Core.Path.{subst as along, ◌≡◌, refl, sym, ap, ◌∙◌}
use native.Mathlib.Omega.{arith}
use lib.ListN.{length, take, drop, set, length-set}
use lib.Seq.{length-take-le}
use borrow.Author.Tests.{le-leb, lt-leb}
use Rattle.calculus.specs.Numbers.{choose}
use Rattle.calculus.specs.States.{State}
use Rattle.calculus.specs.Images.{image, Valid}
use Rattle.calculus.specs.Steps.{step}
use Rattle.calculus.specs.Answers.{Answer, answer, leads_to, state_after, outcome_answer, picked_state}
use Rattle.calculus.proofs.Rules.{step_rules}
use Rattle.calculus.proofs.Validity.{step_keeps_valid}
use Rattle.std.specs.Prelude.{Result, Ok, Err, IsErrAnd}
use Rattle.rules.specs.declared.site.Moved.{Moved}
use Rattle.rules.specs.declared.site.Moved.TheVariants.{To, Emptied}
use Rattle.rules.specs.declared.site.Refusal.{Refusal}
use Rattle.rules.specs.Work.{Acted}
use Rattle.rules.specs.Advancing.{Steps}
use Rattle.engine.specs.declared.answers.Stepped.{Stepped}
use Rattle.engine.specs.declared.answers.Stepped.TheVariants as stepped
use Rattle.engine.specs.declared.answers.StepError.{StepError}
use Rattle.engine.specs.declared.answers.StepError.TheVariants.{NoRoom}
use Rattle.engine.specs.Answers.{step_error, stepped_number, length_after}
use Rattle.engine.specs.Parts.{Holds, Ready, Tries}
use Rattle.engine.proofs.Zeros.{fronted}
use Rattle.engine.proofs.Telling.{fits, over_image}
use Rattle.engine.proofs.Delivering.{err_is, to_next, to_empty, no_next, image_nothing}
use Rattle.engine.proofs.Delivering.{answer_next, answer_empty, answer_refused}
use Rattle.engine.proofs.Delivering.{cursor_over, cursor_length, cursor_front}

-- the part that is lent has n words
pub lent : (state : List ℕ) (n : ℕ) (work : List ℕ) → Ready state n work → n ≡ length (take n state)
lent state n work r = sym (length-take-le n state (omega (arith, r.short, r.room)))

-- the state after a pick, by what the step leads to
picked_to : (r : ℕ) (s t : State) → leads_to (step r s) ≡ some t → length (image t) ≤ 8192 → picked_state s r ≡ t
unfolding picked_state
picked_to r s t e h =
    ap (state_after s (step r s)) e ∙ ap (λ b. choose b t s) (le-leb (length (image t)) 8192 h)

picked_over : (r : ℕ) (s t : State) → leads_to (step r s) ≡ some t → 8192 < length (image t) → picked_state s r ≡ s
unfolding picked_state
picked_over r s t e h =
    ap (state_after s (step r s)) e ∙ ap (λ b. choose b t s) (lt-leb (length (image t)) 8192 h)

picked_none : (r : ℕ) (s : State) → leads_to (step r s) ≡ none → picked_state s r ≡ s
unfolding picked_state
picked_none r s e = ap (state_after s (step r s)) e

holds_as : {state : List ℕ} {n : ℕ} {s t : State} → s ≡ t → Holds state n t → Holds state n s
holds_as {state} {n} e h = along (λ (x : State). Holds state n x) (sym e) h

holds_next : (state : List ℕ) (m r : ℕ) (s t : State) → Valid s → leads_to (step r s) ≡ some t
    → length (image t) ≤ 8192 → take m state ≡ image t → m ≤ length state → Holds state m (picked_state s r)
holds_next state m r s t v e h f k =
    holds_as
    (picked_to r s t e h)
    (record { valid = step_keeps_valid r s t v (step_rules r s t e) h; shown = f; short = k })

-- a pick from what it does to each state that the buffer may hold
tries : (state : List ℕ) (n r : ℕ) (p : Result Stepped StepError) (work state' work' : List ℕ) → Ready state n work
    → length state' ≡ 8192 → length work' ≡ 8192
    → ((st : State) → Holds state n st
    → (stepped_number p ≡ (outcome_answer 8192 (step r st)).number)
    × Holds state' (length_after n p) (picked_state st r))
    → Tries state n r p state' work'
tries state n r p work state' work' ready l w f =
    let st = ready.image.state in
    let held : Holds state n st = record {
      valid = ready.image.valid;
      shown = ready.image.exactly;
      short = omega (arith, ready.short, ready.room);
    } in
    let after = (f st held).1 in
    record {
      number = λ s h. (f s h).0;
      holds = λ s h. (f s h).1;
      ready = record {
        image = record { state = picked_state st r; valid = after.valid; exactly = after.shown };
        short = omega (arith, after.short);
        room = l;
        size = w;
      };
    }

module _
    (state : List ℕ) (n r : ℕ) (work work' : List ℕ) (ready : Ready state n work) (same : length work' ≡ length work)
  where
    acted : (a : Result Moved Refusal) → Steps (take n state) r work a work' → (b : Result Moved Refusal) (st : State)
        → Holds state n st → a ≡ b → Acted (step r st) work b work'
    acted a acts b st h e =
        along (λ (x : Result Moved Refusal). Acted (step r st) work x work') e (acts.acts st h.valid h.shown)

    pub pick_over : (a : Moved) → Steps (take n state) r work (Ok a) work' → (m : ℕ) → a ≡ To m → length work' < m → Tries state n r (Err NoRoom) state work'
    pick_over a acts m e h =
        tries state n r (Err NoRoom) work state work' ready ready.room (same ∙ ready.size) λ st held.
        let t = to_next (step r st) work m work' (acted (Ok a) acts (Ok (To m)) st held (ap Ok e)) in
        let long = cursor_over t.wrote ready.size h in (
          sym
              (ap
              (λ (x : Answer). x.number)
              (answer_next 8192 (step r st) t.state t.is ∙ over_image 8192 (answer 0 (image t.state)) long)),
          holds_as (picked_over r st t.state (ap leads_to t.is) long) held,
        )

    pub pick_moved : (a : Moved) → Steps (take n state) r work (Ok a) work' → (m : ℕ) (ys : List ℕ) → a ≡ To m
        → m ≤ length work' → ys ≡ take m work'
        → Tries state n r (Ok (stepped.Moved m)) (ys ++ drop m state) work'
    pick_moved a acts m ys e h w =
        let room = ready.room in
        let full = ready.size in
        let f = fronted work' m state ys h (omega arith) w in
        tries state n r (Ok (stepped.Moved m)) work (ys ++ drop m state) work' ready (f.size ∙ ready.room) (same ∙ ready.size)
        λ st held.
        let t = to_next (step r st) work m work' (acted (Ok a) acts (Ok (To m)) st held (ap Ok e)) in
        let c = cursor_length t.wrote ready.size h in
        let front = f.front ∙ cursor_front (image t.state) work m work' t.wrote ready.size h in
        let short : length (image t.state) ≤ 8192 = omega arith in
        let size = f.size in (
          sym
              (ap
              (λ (x : Answer). x.number)
              (answer_next 8192 (step r st) t.state t.is ∙ fits 8192 (answer 0 (image t.state)) short short)),
          holds_next (ys ++ drop m state) m r st t.state held.valid (ap leads_to t.is) short front (omega arith),
        )

    pub pick_emptied : (a : Moved) → Steps (take n state) r work (Ok a) work' → a ≡ Emptied
        → Tries state n r (Ok (stepped.Emptied 1)) (set state 0 0) work'
    pick_emptied a acts e =
        let l = length-set state 0 0 in
        let room = ready.room in
        tries state n r (Ok (stepped.Emptied 1)) work (set state 0 0) work' ready (l ∙ ready.room) (same ∙ ready.size)
        λ st held.
        let t = to_empty (step r st) work work' (acted (Ok a) acts (Ok Emptied) st held (ap Ok e)) in
        let size : length (image []) ≡ 1 = ap length image_nothing in (
          sym
              (ap
              (λ (x : Answer). x.number)
              (answer_empty 8192 (step r st) t ∙ fits 8192 (answer 1 (0 ∷ [])) (omega arith) (omega arith))),
          holds_next (set state 0 0) 1 r st [] held.valid (ap leads_to t) (omega arith)
              (front state (omega arith) ∙ sym image_nothing)
              (omega arith),
        )
      where
        front : (l : List ℕ) → 1 ≤ length l → take 1 (set l 0 0) ≡ 0 ∷ []
        front [] h = absurd (omega arith)
        front (x ∷ l) h = refl

    pub pick_refused : (e : Refusal) → Steps (take n state) r work (Err e) work' → (p : Result Stepped StepError)
        → IsErrAnd p (λ x. x ≡ step_error e) → Tries state n r p state work'
    pick_refused e acts p i =
        rw (err_is p i)
        (tries state n r (Err (step_error e)) work state work' ready ready.room (same ∙ ready.size) λ st held.
        let t = no_next (step r st) work e work' (acts.acts st held.valid held.shown) in (
          sym (ap (λ (x : Answer). x.number) (answer_refused 8192 (step r st) work e work' t)),
          holds_as (picked_none r st t.leads) held,
        ))
