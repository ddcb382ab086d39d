-- A run: every pick in turn, the order of its refusals, and what is in its buffers after it.
use Prim.Native.Nat.{ℕ, suc, ◌+◌, ◌-◌, ◌<◌, ◌≤◌}
use mathlib.Core.Bool.{Bool, true, false, not, ◌&&◌}
use mathlib.Core.List.{List, [], ◌∷◌, ◌++◌}
use mathlib.Core.Option.{some}
use mathlib.Core.Path.{subst as along, ◌≡◌, refl, sym, ap, ◌∙◌}
use native.Mathlib.Numerals.{add-one}
use native.Mathlib.Omega.{arith}
use lib.Dec.{eqb, leb}
use lib.ListN.{length, get_or, take, drop, set, replicate, length-set}
use lib.Seq.{take-suc, drop-cons, set_at, append_snoc, length-take-le, take_all}
use borrow.Author.Tests.{eq-eqb, ne_eqb, le-leb, lt-leb, not-true, not-false}
use Rattle.calculus.specs.Numbers.{choose}
use Rattle.calculus.specs.States.{State}
use Rattle.calculus.specs.Images.{image, state_of}
use Rattle.calculus.specs.Steps.{step}
use Rattle.calculus.specs.Answers.{Ran, run_refused, ran_from, run_answer, outcome_answer}
use Rattle.calculus.specs.Answers.{picked_state, last_state, pick_numbers}
use Rattle.calculus.proofs.Images.{read_is_image}
use Rattle.words.specs.Walks.{is_there}
use Rattle.std.specs.Prelude.{Result, Ok, Err}
use Rattle.engine.specs.declared.answers.Stepped.{Stepped}
use Rattle.engine.specs.declared.answers.StepError.{StepError}
use Rattle.engine.specs.declared.answers.RunError.{RunError}
use Rattle.engine.specs.declared.answers.RunError.TheVariants.{NotValid, NoRoom}
use Rattle.engine.specs.Answers.{stepped_number, length_after, ran_number, ran_length}
use Rattle.words.specs.Buffers.{Cleared}
use Rattle.engine.specs.Parts.{Holds, Ready, ReadyFor, Tries, Tried}
use Rattle.engine.specs.Promises.{RunPromise}
use Rattle.engine.proofs.Zeros.{cleared_all}
use Rattle.engine.proofs.Stepping.{there, not_there, valid_here}

-- one pick more
last_snoc : (s : State) (rs : List ℕ) (r : ℕ) → last_state s (rs ++ (r ∷ [])) ≡ picked_state (last_state s rs) r
unfolding last_state
last_snoc s [] r = refl
last_snoc s (x ∷ rs) r = last_snoc (picked_state s x) rs r

numbers_snoc : (s : State) (rs : List ℕ) (r : ℕ)
    → pick_numbers s (rs ++ (r ∷ [])) ≡ pick_numbers s rs ++ ((outcome_answer 8192 (step r (last_state s rs))).number ∷ [])
unfolding last_state pick_numbers
numbers_snoc s [] r = refl
numbers_snoc s (x ∷ rs) r =
    ap (λ (l : List ℕ). (outcome_answer 8192 (step x s)).number ∷ l) (numbers_snoc (picked_state s x) rs r)

numbers_length : (s : State) (rs : List ℕ) → length (pick_numbers s rs) ≡ length rs
unfolding pick_numbers
numbers_length s [] = refl
numbers_length s (x ∷ rs) = ap suc (numbers_length (picked_state s x) rs)

-- the loop over the picks: those up to i are tried
pub record Trying
    (state₀ : List ℕ) (n₀ : ℕ) (picks answers₀ state answers work : List ℕ) (n i : ℕ) : Type 0 where
  pub within : i ≤ length picks
  pub enough : length picks ≤ length answers₀
  pub sized : length answers ≡ length answers₀
  pub room : length state ≡ length state₀
  pub ready : Ready state n work
  pub holds : (st : State) → Holds state₀ n₀ st → Holds state n (last_state st (take i picks))
  pub told : (st : State) → Holds state₀ n₀ st → answers ≡ pick_numbers st (take i picks) ++ drop i answers₀

pub try_start : (state : List ℕ) (n : ℕ) (picks answers work : List ℕ) → ReadyFor state n picks answers work
    → Trying state n picks answers state answers work n 0
unfolding last_state pick_numbers
try_start state n picks answers work r =
    record {
      within = omega arith;
      enough = r.enough;
      sized = refl;
      room = refl;
      ready = r.ready;
      holds = λ st held. held;
      told = λ st held. refl;
    }

pub try_turn : (state₀ : List ℕ) (n₀ : ℕ) (picks answers₀ state answers work : List ℕ) (n i : ℕ)
    (p : Result Stepped StepError) (k m : ℕ) (state' work' : List ℕ)
    → Trying state₀ n₀ picks answers₀ state answers work n i → i < length picks
    → Tries state n (get_or picks i 0) p state' work' → k ≡ stepped_number p → m ≡ length_after n p
    → Trying state₀ n₀ picks answers₀ state' (set answers i k) work' m (i + 1)
try_turn state₀ n₀ picks answers₀ state answers work n i p k m state' work' c h t ki mi = rw (ki, mi) (
    record {
      within = omega arith;
      enough = c.enough;
      sized = length-set answers i (stepped_number p) ∙ c.sized;
      room = omega (arith, t.ready.room, c.ready.room, c.room);
      ready = t.ready;
      holds = λ st held.
          along
          (λ (s : State). Holds state' (length_after n p) s)
          (sym (ap (last_state st) more ∙ last_snoc st (take i picks) (get_or picks i 0)))
          (t.holds (last_state st (take i picks)) (c.holds st held));
      told = λ st held.
          let l : length (pick_numbers st (take i picks)) ≡ i =
          numbers_length st (take i picks) ∙ length-take-le i picks (omega arith) in
          let e = t.number (last_state st (take i picks)) (c.holds st held) in
          let d : drop i answers₀ ≡ get_or answers₀ i 0 ∷ drop (suc i) answers₀ =
          drop-cons answers₀ i 0 (omega (arith, c.enough)) in
          ap (λ (l : List ℕ). set l i (stepped_number p)) (c.told st held)
          ∙ ap (λ (l : List ℕ). set (pick_numbers st (take i picks) ++ l) i (stepped_number p)) d
          ∙ set_at (pick_numbers st (take i picks)) (get_or answers₀ i 0) (drop (suc i) answers₀) (stepped_number p) i l
          ∙ sym (
          ap (λ (l : List ℕ). pick_numbers st l ++ drop (i + 1) answers₀) more
          ∙ ap (λ (l : List ℕ). l ++ drop (i + 1) answers₀) (numbers_snoc st (take i picks) (get_or picks i 0))
          ∙ ap (λ k. pick_numbers st (take i picks) ++ (k ∷ []) ++ drop (i + 1) answers₀) (sym e)
          ∙ append_snoc (pick_numbers st (take i picks)) (stepped_number p) (drop (i + 1) answers₀)
          ∙ ap (λ k. pick_numbers st (take i picks) ++ (stepped_number p) ∷ drop k answers₀) (add-one i)
          );
    })
  where
    more : take (i + 1) picks ≡ take i picks ++ (get_or picks i 0 ∷ [])
    more = ap (λ k. take k picks) (add-one i) ∙ take-suc picks i 0 h

pub try_done : (state₀ : List ℕ) (n₀ : ℕ) (picks answers₀ state answers work : List ℕ) (n i : ℕ)
    → Trying state₀ n₀ picks answers₀ state answers work n i → length picks ≤ i
    → Tried state₀ n₀ picks answers₀ state n answers work
try_done state₀ n₀ picks answers₀ state answers work n i c h =
    let w = c.within in
    let all : i ≡ length picks = omega arith in
    let whole : take i picks ≡ picks = take_all i picks h in
    record {
      holds = λ st held. along (λ (l : List ℕ). Holds state n (last_state st l)) whole (c.holds st held);
      told = λ st held.
          c.told st held
          ∙ ap (λ (l : List ℕ). pick_numbers st l ++ drop i answers₀) whole
          ∙ ap (λ k. pick_numbers st picks ++ drop k answers₀) all;
      ready = c.ready;
    }

-- a run's promise from what its answer is
promised : (state : List ℕ) (n : ℕ) (picks answers work : List ℕ) (x : Ran) (a : Result ℕ RunError)
    (state' answers' work' : List ℕ) → run_answer state n picks answers work ≡ x → ran_number a ≡ x.number
    → ran_length a ≡ x.length → state' ≡ x.state → answers' ≡ x.answers → work' ≡ x.work
    → RunPromise state n picks answers work a state' answers' work'
promised state n picks answers work x a state' answers' work' e p q f g h =
    record {
      answered = p ∙ sym (ap (λ (y : Ran). y.number) e);
      measured = q ∙ sym (ap (λ (y : Ran). y.length) e);
      left = f ∙ sym (ap (λ (y : Ran). y.state) e);
      told = g ∙ sym (ap (λ (y : Ran). y.answers) e);
      cleared = h ∙ sym (ap (λ (y : Ran). y.work) e);
    }

module _ (state : List ℕ) (n : ℕ) (picks answers work : List ℕ) where
  -- what a run comes to once its lengths are right
  abbrev inside : Ran
  inside =
      choose (leb n 8192)
      (ran_from state picks answers work (state_of (take n state)))
      (run_refused 8 state answers work)

  abbrev whole : Bool → Ran
  whole b = choose b inside (run_refused 9 state answers work)

  refused_nine : (eqb (length state) 8192 && (eqb (length work) 8192 && leb (length picks) (length answers))) ≡ false
      → RunPromise state n picks answers work (Err NoRoom) state answers work
  unfolding run_answer
  refused_nine e =
      promised state n picks answers work (run_refused 9 state answers work) (Err NoRoom) state answers work
      (ap whole e)
      refl
      refl
      refl
      refl
      refl

  pub run_no_state : (length state ≡ 8192 → ⊥) → RunPromise state n picks answers work (Err NoRoom) state answers work
  run_no_state h =
      refused_nine
      (ap (λ b. b && (eqb (length work) 8192 && leb (length picks) (length answers))) (ne_eqb (length state) 8192 h))

  pub run_no_work : length state ≡ 8192 → (length work ≡ 8192 → ⊥)
      → RunPromise state n picks answers work (Err NoRoom) state answers work
  run_no_work s h =
      refused_nine
      (ap (λ b. b && (eqb (length work) 8192 && leb (length picks) (length answers))) (eq-eqb (length state) 8192 s)
      ∙ ap (λ b. b && leb (length picks) (length answers)) (ne_eqb (length work) 8192 h))

  module _ (s : length state ≡ 8192) (w : length work ≡ 8192) where
    lengths : (b : Bool) → leb (length picks) (length answers) ≡ b
        → (eqb (length state) 8192 && (eqb (length work) 8192 && leb (length picks) (length answers))) ≡ b
    lengths b e =
        ap (λ b. b && (eqb (length work) 8192 && leb (length picks) (length answers))) (eq-eqb (length state) 8192 s)
        ∙ ap (λ b. b && leb (length picks) (length answers)) (eq-eqb (length work) 8192 w)
        ∙ e

    pub run_no_answers : length answers < length picks → RunPromise state n picks answers work (Err NoRoom) state answers work
    run_no_answers h = refused_nine (lengths false (lt-leb (length picks) (length answers) h))

    module _ (enough : length picks ≤ length answers) where
      right : run_answer state n picks answers work ≡ inside
      unfolding run_answer
      right = ap whole (lengths true (le-leb (length picks) (length answers) enough))

      pub run_long : 8192 < n → RunPromise state n picks answers work (Err NotValid) state answers work
      run_long h =
          promised state n picks answers work (run_refused 8 state answers work) (Err NotValid) state answers work
          (right
          ∙ ap
          (λ b. choose b (ran_from state picks answers work (state_of (take n state))) (run_refused 8 state answers work))
          (lt-leb n 8192 h))
          refl
          refl
          refl
          refl
          refl

      module _ (v : Bool) (short : n ≤ 8192) (told : v ≡ is_there (state_of (take n state))) where
        read : run_answer state n picks answers work ≡ ran_from state picks answers work (state_of (take n state))
        read =
            right
            ∙ ap
            (λ b.
            choose b (ran_from state picks answers work (state_of (take n state))) (run_refused 8 state answers work))
            (le-leb n 8192 short)

        pub run_not_valid : not v ≡ true → RunPromise state n picks answers work (Err NotValid) state answers work
        run_not_valid f =
            promised state n picks answers work (run_refused 8 state answers work) (Err NotValid) state answers work
            (read
            ∙ ap
            (ran_from state picks answers work)
            (not_there (state_of (take n state)) (sym told ∙ not-true v f)))
            refl
            refl
            refl
            refl
            refl

        pub run_ready : not v ≡ false → ReadyFor state n picks answers work
        run_ready f =
            record {
              ready = record { image = valid_here (take n state) v told f; short = short; room = s; size = w };
              enough = enough;
            }

        pub run_done : not v ≡ false → (state₁ : List ℕ) (m : ℕ) (answers₁ work₁ state₂ work₂ : List ℕ)
            → Tried state n picks answers state₁ m answers₁ work₁ → Cleared state₁ m state₂ → Cleared work₁ 0 work₂
            → RunPromise state n picks answers work (Ok m) state₂ answers₁ work₂
        run_done f state₁ m answers₁ work₁ state₂ work₂ t c d =
            let (st, g) = there (state_of (take n state)) (sym told ∙ not-false v f) in
            let (is, valid) = read_is_image (take n state) st g in
            let held : Holds state n st = record { valid = valid; shown = sym is; short = omega arith } in
            let after = t.holds st held in
            let size : m ≡ length (image (last_state st picks)) =
            sym (length-take-le m state₁ after.short) ∙ ap length after.shown in
            let room = t.ready.room in
            let full : length work₁ ≡ length work = t.ready.size ∙ sym w in
            promised state n picks answers work
            (ran_from state picks answers work (some st)) (Ok m) state₂ answers₁ work₂
            (read ∙ ap (ran_from state picks answers work) g)
            refl
            size
            (c.zeros
            ∙ ap (λ (l : List ℕ). l ++ replicate (length state₁ - m) 0) after.shown
            ∙ ap (λ k. image (last_state st picks) ++ replicate (k - m) 0) room
            ∙ ap (λ k. image (last_state st picks) ++ replicate (8192 - k) 0) size)
            (t.told st held)
            (cleared_all d ∙ ap (λ k. replicate k 0) full)
