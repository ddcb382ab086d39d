-- What a step came to, from the act and the work buffer that it left, and the answer that is delivered for it.
use Prim.Native.Nat.{ℕ, suc, ◌-◌, ◌<◌, ◌≤◌}
use mathlib.Core.List.{List, [], ◌∷◌, ◌++◌}
use mathlib.Core.Option.{none}
use mathlib.Core.Path.{subst as along, ◌≡◌, refl, sym, ap, ◌∙◌}
use native.Mathlib.Omega.{arith}
use lib.ListN.{length, take, replicate}
use Rattle.calculus.specs.States.{State}
use Rattle.calculus.specs.Images.{image}
use Rattle.calculus.specs.Steps.{by_shape, by_location, Outcome, next, emptied, finished, waits, stuck}
use Rattle.calculus.specs.Steps.{not_live, no_number}
use Rattle.calculus.specs.Answers.{answer, refused, within, image_room, number_of, leads_to, imaged, outcome_answer}
use Rattle.std.specs.Prelude.{Result, Ok, Err, IsErrAnd}
use Rattle.rules.specs.declared.site.Moved.{Moved}
use Rattle.rules.specs.declared.site.Moved.TheVariants.{To, Emptied}
use Rattle.rules.specs.declared.site.Reason.TheVariants.{Shape, Location}
use Rattle.rules.specs.declared.site.Refusal.{Refusal}
use Rattle.rules.specs.declared.site.Refusal.TheVariants.{Finished, Waits, Stuck, NotLive, NoNumber}
use Rattle.rules.specs.Work.{Acted}
use Rattle.write.specs.Cursor.{Wrote}
use Rattle.write.proofs.Cursors.{wrote_size}
use Rattle.engine.specs.declared.answers.Stepped.TheVariants as stepped
use Rattle.engine.specs.declared.answers.StepError.TheVariants.{NoRoom}
use Rattle.engine.specs.Answers.{step_error, stepped_number}
use Rattle.words.specs.Buffers.{Cleared}
use Rattle.engine.specs.Buffers.{Filled}
use Rattle.engine.specs.Parts.{Delivers}
use Rattle.engine.proofs.Zeros.{cleared_all, wrote_front}
use Rattle.engine.proofs.Telling.{fits, over_room, over_image, told_kept, told_written}

-- no two of a cursor, the empty state and a refusal are one answer
differ : {C : Type 0} → ◌≡◌ {A = ℕ} 0 1 → C
differ z = absurd (omega arith)

-- an error of which that is known is that error
pub err_is : {T E : Type 0} {e : E} (r : Result T E) → IsErrAnd r (λ x. x ≡ e) → r ≡ Err e
err_is (Ok x) h = absurd h
err_is (Err x) h = ap Err h

-- a cursor: there is a next state, and its image was written
pub record ToNext (o : Outcome) (before : List ℕ) (n : ℕ) (work : List ℕ) : Type 0 where
  pub state : State
  pub is : o ≡ next state
  pub wrote : Wrote (image state) before 0 n work

pub to_next : (o : Outcome) (before : List ℕ) (n : ℕ) (work : List ℕ) → Acted o before (Ok (To n)) work
    → ToNext o before n work
to_next (next t) before n work (to, e, w) =
    let same : to ≡ n = cc in
    record { state = t; is = refl; wrote = along (λ (k : ℕ). Wrote (image t) before 0 k work) same w }
to_next emptied before n work (e, f) = differ (cc)
to_next finished before n work (e, f) = differ (cc)
to_next waits before n work (e, f) = differ (cc)
to_next (stuck by_shape) before n work (e, f) = differ (cc)
to_next (stuck by_location) before n work (e, f) = differ (cc)
to_next not_live before n work (e, f) = differ (cc)
to_next no_number before n work (e, f) = differ (cc)

-- the empty state
pub to_empty : (o : Outcome) (before work : List ℕ) → Acted o before (Ok Emptied) work → o ≡ emptied
to_empty (next t) before work (to, e, w) = differ (cc)
to_empty emptied before work (e, f) = refl
to_empty finished before work (e, f) = differ (cc)
to_empty waits before work (e, f) = differ (cc)
to_empty (stuck by_shape) before work (e, f) = differ (cc)
to_empty (stuck by_location) before work (e, f) = differ (cc)
to_empty not_live before work (e, f) = differ (cc)
to_empty no_number before work (e, f) = differ (cc)

-- a refusal: the outcome has its number and leads to no state, and nothing was written
pub record NoNext (o : Outcome) (before : List ℕ) (e : Refusal) (work : List ℕ) : Type 0 where
  pub number : number_of o ≡ stepped_number (Err (step_error e))
  pub leads : leads_to o ≡ none
  pub low : 2 ≤ number_of o
  pub same : work ≡ before

pub no_next : (o : Outcome) (before : List ℕ) (e : Refusal) (work : List ℕ) → Acted o before (Err e) work
    → NoNext o before e work
no_next o before e work acted = cases o acted
  where
    is : (o : Outcome) (f : Refusal) → number_of o ≡ stepped_number (Err (step_error f)) → leads_to o ≡ none
        → 2 ≤ number_of o → (◌≡◌ {A = Result Moved Refusal} (Err e) (Err f)) × (work ≡ before)
        → NoNext o before e work
    is o f n l h (p, s) =
        let same : f ≡ e = cc in
        along (λ i. NoNext o before i work) same (record { number = n; leads = l; low = h; same = s })

    cases : (o : Outcome) → Acted o before (Err e) work → NoNext o before e work
    cases (next t) (to, p, w) = differ (cc)
    cases emptied (p, s) = differ (cc)
    cases finished a = is finished Finished refl refl (omega arith) a
    cases waits a = is waits Waits refl refl (omega arith) a
    cases (stuck by_shape) a = is (stuck by_shape) (Stuck Shape) refl refl (omega arith) a
    cases (stuck by_location) a = is (stuck by_location) (Stuck Location) refl refl (omega arith) a
    cases not_live a = is not_live NotLive refl refl (omega arith) a
    cases no_number a = is no_number NoNumber refl refl (omega arith) a

-- the image of the empty state
pub image_nothing : image [] ≡ 0 ∷ []
unfolding image
image_nothing = refl

-- the answer to an outcome, by what it leads to
pub answer_next : (room : ℕ) (o : Outcome) (t : State) → o ≡ next t
    → outcome_answer room o ≡ within (image_room room) (answer 0 (image t))
answer_next room o t e = ap (outcome_answer room) e

pub answer_empty : (room : ℕ) (o : Outcome) → o ≡ emptied
    → outcome_answer room o ≡ within (image_room room) (answer 1 (0 ∷ []))
answer_empty room o e =
    ap (outcome_answer room) e ∙ ap (λ (ws : List ℕ). within (image_room room) (answer 1 ws)) image_nothing

pub answer_refused : (room : ℕ) (o : Outcome) (before : List ℕ) (e : Refusal) (work : List ℕ) → NoNext o before e work
    → outcome_answer room o ≡ refused (stepped_number (Err (step_error e)))
answer_refused room o before e work n =
    ap (λ l. within (image_room room) (imaged (number_of o) l)) n.leads
    ∙ ap (λ i. within (image_room room) (refused i)) n.number
    ∙ fits room (refused (stepped_number (Err (step_error e)))) (omega arith) (omega arith)

-- the cursor against the length of the image, in a work buffer of 8,192 words
pub cursor_over : {ws before : List ℕ} {n : ℕ} {work : List ℕ} → Wrote ws before 0 n work → length before ≡ 8192
    → length work < n → 8192 < length ws
cursor_over w b h = let a = w.at in let s = (wrote_size w).0 in omega arith

pub cursor_length : {ws before : List ℕ} {n : ℕ} {work : List ℕ} → Wrote ws before 0 n work → length before ≡ 8192
    → n ≤ length work → (n ≡ length ws) × (n ≤ 8192)
cursor_length w b h = let a = w.at in let s = (wrote_size w).0 in (omega arith, omega arith)

pub cursor_front : (ws before : List ℕ) (n : ℕ) (work : List ℕ) → Wrote ws before 0 n work → length before ≡ 8192
    → n ≤ length work → take n work ≡ ws
cursor_front ws before n work w b h =
    let l = cursor_length w b h in
    let front = (wrote_front ws before n work w (omega arith)).0 in
    ap (λ k. take k work) l.0 ∙ front

-- one law for each way through the functions that deliver
pub moved_over : (n : ℕ) (work out : List ℕ) → length work < n → Delivers (To n) work out (Err NoRoom) out
moved_over n work out h =
    record {
      tells = λ o before size acted.
          let t = to_next o before n work acted in
          told_kept (outcome_answer (length out) o) 9 out
          (answer_next (length out) o t.state t.is
          ∙ over_image (length out) (answer 0 (image t.state)) (cursor_over t.wrote size h))
          (omega arith);
    }

pub moved : (n : ℕ) (work out words out' : List ℕ) → n ≤ length work → n ≤ length out → words ≡ take n work
    → Filled words out out' → Delivers (To n) work out (Ok (stepped.Moved n)) out'
moved n work out words out' h k i f =
    record {
      tells = λ o before size acted.
          let t = to_next o before n work acted in
          let l = cursor_length t.wrote size h in
          let e = cursor_front (image t.state) before n work t.wrote size h in
          told_written (outcome_answer (length out) o) 0 (image t.state) n out out'
          (answer_next (length out) o t.state t.is
          ∙ fits (length out) (answer 0 (image t.state)) (omega arith) (omega arith))
          (omega arith)
          l.0
          (f.holds ∙ ap (λ (ws : List ℕ). ws ++ replicate (length out - length ws) 0) (i ∙ e) ∙ ap (λ k. image t.state ++ replicate (length out - k) 0) (sym l.0));
    }

pub empty_no_room : (work out : List ℕ) → length out < 1 → Delivers Emptied work out (Err NoRoom) out
empty_no_room work out h =
    record {
      tells = λ o before size acted.
          told_kept (outcome_answer (length out) o) 9 out
          (answer_empty (length out) o (to_empty o before work acted)
          ∙ over_room (length out) (answer 1 (0 ∷ [])) h)
          (omega arith);
    }

pub empty_told : (work out out' : List ℕ) → 1 ≤ length out → Cleared out 0 out'
    → Delivers Emptied work out (Ok (stepped.Emptied 1)) out'
empty_told work out out' h c =
    let k : length out ≡ suc (length out - 1) = omega arith in
    record {
      tells = λ o before size acted.
          told_written (outcome_answer (length out) o) 1 (0 ∷ []) 1 out out'
          (answer_empty (length out) o (to_empty o before work acted)
          ∙ fits (length out) (answer 1 (0 ∷ [])) h (omega arith))
          (omega arith)
          refl
          (cleared_all c ∙ ap (λ i. replicate i 0) k);
    }
