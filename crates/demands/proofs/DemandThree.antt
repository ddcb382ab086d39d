-- Demand 3, proved from the promises of check, load and run, and the safety of passed scripts.
use Prim.Native.Nat.{ℕ, suc, ◌-◌, ◌≤◌}
use mathlib.Core.Path.{◌≡◌, refl, sym, ap, ◌∙◌, subst as along}
use mathlib.Core.Logic.{◌≢◌, ◌⊎◌, inl, inr}
use mathlib.Core.Bool.{Bool, true, false, ◌&&◌}
use mathlib.Core.Option.{Option, none, some}
use mathlib.Core.List.{List, [], ◌∷◌, ◌++◌}
use native.Mathlib.Omega.{arith}
use lib.ListN.{length, take, drop, replicate}
use lib.Seq.{take_at}
use lib.Dec.{T, leb, eqb}
use Rattle.calculus.specs.Types.{ScriptType}
use Rattle.calculus.specs.Expressions.{Expression}
use Rattle.calculus.specs.Words.{type_words}
use Rattle.calculus.specs.Formed.{member, closed, holds_handle}
use Rattle.calculus.specs.Reading.{expression_of}
use Rattle.calculus.specs.Numbers.{choose}
use Rattle.calculus.specs.States.{State, first}
use Rattle.calculus.specs.Images.{image, state_of, Valid}
use Rattle.calculus.specs.Steps.{by_shape, by_location, stuck, step}
use Rattle.calculus.specs.Typing.{nothing, no_world, HasType, type_of}
use Rattle.calculus.specs.Answers.{Answer, answer, refused, within, image_room, with_work, out_after, outcome_answer}
use Rattle.calculus.specs.Answers.{Script, script, no_script, script_if, script_of, loaded_from, load_answer}
use Rattle.calculus.specs.Answers.{holds_long_type, typed_answer, checked_from, check_answer, picked_state, last_state}
use Rattle.calculus.specs.Answers.{pick_numbers, Ran as Run, ran_from, run_refused, run_answer}
use Rattle.calculus.specs.Runs.{Picks, no_pick, Safe}
use Rattle.calculus.proofs.Members.{member_cons}
use Rattle.calculus.proofs.Images.{image_read_back}
use Rattle.calculus.proofs.TypingRules.{type_of_rules}
use Rattle.calculus.proofs.Runs.{picks_append, run_picks, first_valid}
use Rattle.calculus.proofs.DemandThree.{passed_scripts_are_safe, run_is_safe}
use Rattle.std.specs.Prelude.{Result}
use Rattle.engine.specs.declared.answers.LoadError.{LoadError}
use Rattle.engine.specs.declared.answers.RunError.{RunError}
use Rattle.engine.specs.Answers.{loaded_number, loaded_length, ran_number, ran_length}
use Rattle.engine.specs.Promises.{LoadPromise, RunPromise}
use Rattle.engine.proofs.Loading.{is_script_lem}
use Rattle.typing.specs.Checks.{Checked, number_of, length_of, CheckPromise}
use Rattle.demands.specs.DemandThree.{SafeRun}
use Rattle.demands.proofs.DemandTwo.{refusal_exactly}

-- the first words of a filled buffer are the result
front : (ws rest : List ℕ) (n : ℕ) → n ≡ length ws → take n (ws ++ rest) ≡ ws
front ws rest n e = take_at ws rest n (sym e)

zero_out : (out : List ℕ) (a : Answer) (n : ℕ) → a.number ≡ 0 → n ≡ length a.written
    → take n (out_after out a) ≡ a.written
zero_out out a n z e = ap (take n) (rw z refl) ∙ front a.written (replicate (length out - length a.written) 0) n e

-- answer 0 is given past every refusal
past_work : (work : ℕ) (a : Answer) → (with_work work a).number ≡ 0 → with_work work a ≡ a
past_work work a = go (eqb work 8192)
  where
    go : (b : Bool) → (choose b a (refused 9)).number ≡ 0 → choose b a (refused 9) ≡ a
    go true z = refl
    go false z = absurd (omega arith)

past_within : (room : ℕ) (a : Answer) → (within room a).number ≡ 0 → within room a ≡ a
past_within room a = go (leb (length a.written) room)
  where
    go : (b : Bool) → (choose b a (refused 9)).number ≡ 0 → choose b a (refused 9) ≡ a
    go true z = refl
    go false z = absurd (omega arith)

-- a check that answers 0: the script has a type by the rules, and its words are written
record Passed (ws : List ℕ) (a : Answer) : Type 0 where
  pub expression : Expression
  pub type : ScriptType
  pub is : script_of ws ≡ script expression
  pub typed : HasType no_world nothing expression type
  pub written : a.written ≡ type_words type

-- the numbers of refused scripts are not 0
script_number_lem : (ws : List ℕ) (n : ℕ) → script_of ws ≡ no_script n → 10 ≤ n
unfolding script_of
script_number_lem ws n h = long (leb (length ws) 2048) h
  where
    number : {m : ℕ} → no_script m ≡ no_script n → m ≡ n
    number h = cc

    not : {e : Expression} {C : Type 0} → script e ≡ no_script n → C
    not h = absurd (let z : ◌≡◌ {A = ℕ} 0 1 = cc in omega arith)

    bound : (d : Expression) (b : Bool) → choose b (script d) (no_script 12) ≡ no_script n → 10 ≤ n
    bound d true q = not q
    bound d false q = let i = number q in omega arith

    handles : (d : Expression) (b : Bool)
        → choose b (no_script 11) (choose (closed d) (script d) (no_script 12)) ≡ no_script n → 10 ≤ n
    handles d true q = let i = number q in omega arith
    handles d false q = bound d (closed d) q

    read : (o : Option Expression) → script_if o ≡ no_script n → 10 ≤ n
    read none q = let i = number q in omega arith
    read (some d) q = handles d (holds_handle d) q

    long : (b : Bool) → choose b (script_if (expression_of ws)) (no_script 10) ≡ no_script n → 10 ≤ n
    long true q = read (expression_of ws) q
    long false q = let i = number q in omega arith

passed : (ws : List ℕ) (room work : ℕ) → (check_answer ws room work).number ≡ 0 → Passed ws (check_answer ws room work)
unfolding check_answer
passed ws room work z =
    let e = past_work work (checked_from room (script_of ws)) z in
    along (Passed ws) (sym e) (scripted (script_of ws) refl (sym (ap (λ (a : Answer). a.number) e) ∙ z))
  where
    typed : (d : Expression) → script_of ws ≡ script d → (o : Option ScriptType) → type_of no_world nothing d ≡ o
        → (b : Bool)
        → (typed_answer room b o).number ≡ 0 → Passed ws (typed_answer room b o)
    typed d i none p b z = absurd (omega arith)
    typed d i (some A) p true z = absurd (omega arith)
    typed d i (some A) p false z =
        let e = past_within room (answer 0 (type_words A)) z in
        along (Passed ws) (sym e)
        (record { expression = d; type = A; is = i; typed = type_of_rules no_world nothing d A p; written = refl })

    scripted : (s : Script) → script_of ws ≡ s → (checked_from room s).number ≡ 0 → Passed ws (checked_from room s)
    scripted (no_script n) i z = let l = script_number_lem ws n i in absurd (omega arith)
    scripted (script d) i z = typed d i (type_of no_world nothing d) refl (holds_long_type nothing d) z

-- a load that answers 0 writes the image of the first state
loaded : (ws : List ℕ) (room work : ℕ) (e : Expression) → script_of ws ≡ script e → (load_answer ws room work).number ≡ 0
    → (load_answer ws room work).written ≡ image (first e)
unfolding load_answer
loaded ws room work e i z =
    let w = past_work work (loaded_from room (script_of ws)) z in
    let k = ap (loaded_from room) i in
    let y : (loaded_from room (script e)).number ≡ 0 = sym (ap (λ (a : Answer). a.number) (w ∙ k)) ∙ z in
    ap (λ (a : Answer). a.written) (w ∙ k ∙ past_within (image_room room) (answer 0 (image (first e))) y)

-- a run that answers 0
ran : (state : List ℕ) (n : ℕ) (picks answers work : List ℕ) (s : State) → Valid s → take n state ≡ image s
    → (run_answer state n picks answers work).number ≡ 0
    → run_answer state n picks answers work ≡ ran_from state picks answers work (some s)
unfolding run_answer
ran state n picks answers work s v i z =
    sizes (eqb (length state) 8192 && (eqb (length work) 8192 && leb (length picks) (length answers))) z
  where
    found : state_of (take n state) ≡ some s
    found = ap state_of i ∙ image_read_back s v

    long : (b : Bool) → (choose b (ran_from state picks answers work (state_of (take n state)))
        (run_refused 8 state answers work)).number ≡ 0
        → choose b (ran_from state picks answers work (state_of (take n state))) (run_refused 8 state answers work) ≡ ran_from
        state picks answers work (some s)
    long true z = ap (ran_from state picks answers work) found
    long false z = absurd (omega arith)

    sizes : (b : Bool)
        → (choose b (choose (leb n 8192) (ran_from state picks answers work (state_of (take n state)))
        (run_refused 8 state answers work)) (run_refused 9 state answers work)).number ≡ 0
        → choose b (choose (leb n 8192) (ran_from state picks answers work (state_of (take n state)))
        (run_refused 8 state answers work)) (run_refused 9 state answers work)
        ≡ ran_from state picks answers work (some s)
    sizes true z = long (leb n 8192) z
    sizes false z = absurd (omega arith)

numbers_length : (s : State) (picks : List ℕ) → length (pick_numbers s picks) ≡ length picks
unfolding pick_numbers
numbers_length s [] = refl
numbers_length s (r ∷ picks) = ap suc (numbers_length (picked_state s r) picks)

-- no pick of a passed script is answered 4 or 5
never : (e : Expression) (A : ScriptType) → HasType no_world nothing e A → (done : List ℕ) (s : State)
    → Picks (first e) done s
    → (picks : List ℕ) (n : ℕ) → T (member n (pick_numbers s picks)) → (n ≢ 4) × (n ≢ 5)
unfolding pick_numbers member last_state
never e A d done s k [] n t = absurd t
never e A d done s k (r ∷ picks) n t =
    go (member_cons n (outcome_answer 8192 (step r s)).number (pick_numbers (picked_state s r) picks) t)
    (never e A d (done ++ (r ∷ [])) (picked_state s r) (picks_append k (one_pick s r)) picks n)
  where
    safe : Safe e A done s
    safe = passed_scripts_are_safe e A d done s k

    go : (n ≡ (outcome_answer 8192 (step r s)).number) ⊎ T (member n (pick_numbers (picked_state s r) picks))
        → (T (member n (pick_numbers (picked_state s r) picks)) → (n ≢ 4) × (n ≢ 5)) → (n ≢ 4) × (n ≢ 5)
    go (inl i) ih = (
      λ j. safe.never_stuck r by_shape
          ((refusal_exactly 8192 (step r s) (stuck by_shape) (omega arith) (omega arith)).0 (sym i ∙ j)),
      λ j. safe.never_stuck r by_location
          ((refusal_exactly 8192 (step r s) (stuck by_location) (omega arith) (omega arith)).0 (sym i ∙ j)),
    )
    go (inr u) ih = ih u

    one_pick : (s : State) (r : ℕ) → Picks s (r ∷ []) (picked_state s r)
    one_pick s r = along (Picks s (r ∷ [])) (last_one s r) (run_picks s (r ∷ []))
      where
        last_one : (s : State) (r : ℕ) → last_state s (r ∷ []) ≡ picked_state s r
        last_one s r = refl

-- take any script that the check answers 0 for, the image that load gives, any picks through run
pub demand_three : (script out₁ work₁ : List ℕ) (c : Checked) (out₁' work₁' : List ℕ)
    → CheckPromise script out₁ work₁ c out₁' work₁' → number_of c ≡ 0
    → (out₂ work₂ : List ℕ) (l : Result ℕ LoadError) (out₂' work₂' : List ℕ)
    → LoadPromise script out₂ work₂ l out₂' work₂' → loaded_number l ≡ 0
    → (state picks answers work₃ : List ℕ) (x : Result ℕ RunError) (state' answers' work₃' : List ℕ)
    → take (loaded_length l) state ≡ take (loaded_length l) out₂'
    → RunPromise state (loaded_length l) picks answers work₃ x state' answers' work₃' → ran_number x ≡ 0
    → SafeRun script (take (length_of c) out₁') picks (take (length picks) answers') (take (ran_length x) state')
demand_three ws out₁ work₁ c out₁' work₁' cp cz out₂ work₂ l out₂' work₂' lp lz state picks answers work₃ x state'
    answers' work₃' start rp rz =
    let ca = check_answer ws (length out₁) (length work₁) in
    let p = passed ws (length out₁) (length work₁) (sym cp.number ∙ cz) in
    let e = p.expression in
    let k = is_script_lem ws e p.is in
    let la = load_answer ws (length out₂) (length work₂) in
    let lw = loaded ws (length out₂) (length work₂) e p.is (sym lp.answered ∙ lz) in
    let s = first e in
    let v = first_valid e k.formed k.closed (along (λ z. length z ≤ 2048) k.written k.short) in
    let shown : take (loaded_length l) state ≡ image s
    = start ∙ ap (take (loaded_length l)) lp.filled
    ∙ zero_out out₂ la (loaded_length l) (sym lp.answered ∙ lz) lp.measured ∙ lw in
    let r = ran state (loaded_length l) picks answers work₃ s v shown (sym rp.answered ∙ rz) in
    let last = last_state s picks in
    record {
      expression = e;
      type = p.type;
      is_script = k.written;
      typed = p.typed;
      is_type =
          ap (take (length_of c)) cp.written ∙ zero_out out₁ ca (length_of c) (sym cp.number ∙ cz) cp.size ∙ p.written;
      never_stuck =
          λ n t. never e p.type p.typed [] s no_pick picks n
          (along (λ w. T (member n w))
          (ap (take (length picks)) (rp.told ∙ ap (λ (a : Run). a.answers) r)
          ∙ front (pick_numbers s picks) (drop (length picks) answers) (length picks) (sym (numbers_length s picks)))
          t);
      state = last;
      is_state =
          ap (take (ran_length x)) (rp.left ∙ ap (λ (a : Run). a.state) r)
          ∙ front (image last) _ (ran_length x) (rp.measured ∙ ap (λ (a : Run). a.length) r);
      safe = run_is_safe e p.type p.typed picks;
    }
