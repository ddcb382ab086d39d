-- Loading a script: its refusals, and the image of the first state as it is written.
use Prim.Native.Nat.{ℕ, zero, suc, ◌+◌, ◌-◌, ◌≤◌}
use mathlib.Core.Bool.{Bool, true, false}
use mathlib.Core.List.{List, [], ◌∷◌, ◌++◌, append-nil}
use mathlib.Core.Option.{Option, none, some}
use mathlib.Core.Path.{subst as along, ◌≡◌, refl, sym, ap, ◌∙◌}
use native.Mathlib.Omega.{arith}
use lib.ListN.{length, drop, set, replicate, length-replicate}
use lib.Dec.{T, leb, leb→le}
use lib.Seq.{sets, sets-eq}
use Rattle.calculus.specs.Expressions.{Expression}
use Rattle.calculus.specs.Words.{words}
use Rattle.calculus.specs.Formed.{Formed, closed, holds_handle}
use Rattle.calculus.specs.Reading.{expression_of}
use Rattle.calculus.specs.Numbers.{choose}
use Rattle.calculus.specs.States.{first}
use Rattle.calculus.specs.Images.{image, task_words}
use Rattle.calculus.specs.Answers.{Answer, answer, within, image_room}
use Rattle.calculus.specs.Answers.{script, no_script, script_if, script_of, loaded_from, load_answer}
use Rattle.words.specs.declared.script.ScriptError.{ScriptError}
use Rattle.words.specs.declared.script.ScriptError.TheVariants as script
use Rattle.words.specs.Buffers.{Cleared}
use Rattle.words.specs.Scripts.{script_number, ScriptTold}
use Rattle.words.proofs.Scripted.{words_of}
use Rattle.write.specs.Cursor.{Wrote}
use Rattle.std.specs.Prelude.{Result, Ok, Err, IsErrAnd}
use Rattle.engine.specs.declared.answers.LoadError.{LoadError}
use Rattle.engine.specs.declared.answers.LoadError.TheVariants.{NoRoom}
use Rattle.engine.specs.Answers.{load_error, loaded_number, loaded_length}
use Rattle.engine.specs.Parts.{Told, FirstTold}
use Rattle.engine.specs.Promises.{LoadPromise}
use Rattle.engine.proofs.Zeros.{cleared_all, cleared_size}
use Rattle.engine.proofs.Telling.{fits, told_kept, told_written}
use Rattle.engine.proofs.Delivering.{err_is}
use Rattle.engine.proofs.Stepping.{right_work, wrong_work}

-- the first state's image is four words and the script
image_first : (e : Expression) → image (first e) ≡ 1 ∷ 0 ∷ 0 ∷ 0 ∷ words e
unfolding image task_words
image_first e = ap (λ (ws : List ℕ). 1 ∷ 0 ∷ 0 ∷ 0 ∷ ws) (append-nil (words e))

drop_zeros : (k n : ℕ) → drop {A = ℕ} k (replicate n 0) ≡ replicate (n - k) 0
drop_zeros zero n = let e : n - 0 ≡ n = omega arith in ap (λ i. replicate i 0) (sym e)
drop_zeros (suc k) zero = let e : 0 - suc k ≡ 0 = omega arith in ap (λ i. replicate i 0) (sym e)
drop_zeros (suc k) (suc n) =
    let e : suc n - suc k ≡ n - k = omega arith in drop_zeros k n ∙ ap (λ i. replicate i 0) (sym e)

-- one law for each way through the writing
pub first_written : (ws out o₁ : List ℕ) (r : ℕ) (o₂ : List ℕ) (r' : ℕ) (o₃ : List ℕ) → length ws ≤ 2048
    → length ws + 4 ≤ length out → Cleared out 0 o₁ → Wrote (1 ∷ []) o₁ 0 r o₂
    → Wrote ws o₂ 4 r' o₃ → FirstTold ws out (Ok (length ws + 4)) o₃
first_written ws out o₁ r o₂ r' o₃ s h c w v =
    record {
      told = told_written
          (within (image_room (length out)) (answer 0 (1 ∷ 0 ∷ 0 ∷ 0 ∷ ws)))
          0
          (1 ∷ 0 ∷ 0 ∷ 0 ∷ ws)
          (length ws + 4)
          out
          o₃
          (fits (length out) (answer 0 (1 ∷ 0 ∷ 0 ∷ 0 ∷ ws)) (omega arith) (omega arith))
          (omega arith)
          (omega arith)
          (v.out ∙ ap (λ (l : List ℕ). sets l 4 ws) start ∙ end);
    }
  where
    start : o₂ ≡ 1 ∷ 0 ∷ 0 ∷ 0 ∷ replicate (length out - 4) 0
    start =
        let e : length out ≡ suc (suc (suc (suc (length out - 4)))) = omega arith in
        w.out ∙ ap (λ (l : List ℕ). set l 0 1) (cleared_all c ∙ ap (λ k. replicate k 0) e)

    four : 4 + length ws ≡ suc (suc (suc (suc (length ws))))
    four = omega arith

    left : length out - 4 - length ws ≡ length out - (length ws + 4)
    left = omega arith

    end : sets (1 ∷ 0 ∷ 0 ∷ 0 ∷ replicate (length out - 4) 0) 4 ws
        ≡ 1 ∷ 0 ∷ 0 ∷ 0 ∷ (ws ++ replicate (length out - (length ws + 4)) 0)
    end =
        let z = length-replicate {A = ℕ} (length out - 4) 0 in
        sets-eq ws (1 ∷ 0 ∷ 0 ∷ 0 ∷ replicate (length out - 4) 0) 4 (omega arith)
        ∙ ap (λ k. 1 ∷ 0 ∷ 0 ∷ 0 ∷ (ws ++ drop k (1 ∷ 0 ∷ 0 ∷ 0 ∷ replicate (length out - 4) 0))) four
        ∙ ap (λ (l : List ℕ). 1 ∷ 0 ∷ 0 ∷ 0 ∷ (ws ++ l)) (drop_zeros (length ws) (length out - 4))
        ∙ ap (λ k. 1 ∷ 0 ∷ 0 ∷ 0 ∷ (ws ++ replicate k 0)) left

-- what a script is
pub record IsScript (ws : List ℕ) (e : Expression) : Type 0 where
  pub written : ws ≡ words e
  pub formed : Formed e
  pub closed : T (closed e)
  pub short : length ws ≤ 2048

not_script : {n : ℕ} {e : Expression} {C : Type 0} → no_script n ≡ script e → C
not_script h = absurd (let z : ◌≡◌ {A = ℕ} 0 1 = cc in omega arith)

pub is_script_lem : (ws : List ℕ) (e : Expression) → script_of ws ≡ script e → IsScript ws e
unfolding script_of
is_script_lem ws e h = long (leb (length ws) 2048) refl h
  where
    closed_is : (d : Expression) (b : Bool) → closed d ≡ b → choose b (script d) (no_script 12) ≡ script e
        → (d ≡ e) × T (closed d)
    closed_is d true p q = (cc, rw p tt)
    closed_is d false p q = not_script q

    holds_none : (d : Expression) (b : Bool)
        → choose b (no_script 11) (choose (closed d) (script d) (no_script 12)) ≡ script e → (d ≡ e) × T (closed d)
    holds_none d true q = not_script q
    holds_none d false q = closed_is d (closed d) refl q

    read : length ws ≤ 2048 → (o : Option Expression) → expression_of ws ≡ o → script_if o ≡ script e → IsScript ws e
    read l none p q = not_script q
    read l (some d) p q =
        let (i, c) = holds_none d (holds_handle d) q in
        let (w, f) = words_of ws d p in
        along (IsScript ws) i (record { written = w; formed = f; closed = c; short = l })

    long : (b : Bool) → leb (length ws) 2048 ≡ b → choose b (script_if (expression_of ws)) (no_script 10) ≡ script e
        → IsScript ws e
    long true p q = read (leb→le (length ws) 2048 (rw p tt)) (expression_of ws) refl q
    long false p q = not_script q

pub script_is_short : (ws : List ℕ) → ScriptTold ws (Ok tt) → length ws ≤ 2048
script_is_short ws (e, h) = (is_script_lem ws e h).short

pub loaded_no_work : (ws out work work' : List ℕ) → Cleared work 0 work' → (length work' ≡ 8192 → ⊥)
    → LoadPromise ws out work (Err NoRoom) out work'
unfolding load_answer
loaded_no_work ws out work work' c h =
    let l = cleared_size c (omega arith) in
    let t = told_kept (load_answer ws (length out) (length work)) 9 out
    (wrong_work (length work) (loaded_from (length out) (script_of ws)) (λ e. h (l ∙ e)))
    (omega arith) in
    record { answered = t.answered; measured = t.measured; filled = t.filled; cleared = cleared_all c }

module _ (ws out work work' : List ℕ) (c : Cleared work 0 work') (h : length work' ≡ 8192) where
  answer_is : load_answer ws (length out) (length work) ≡ loaded_from (length out) (script_of ws)
  unfolding load_answer
  answer_is =
      let l = cleared_size c (omega arith) in
      right_work (length work) (loaded_from (length out) (script_of ws)) (sym l ∙ h)

  told_of : (s : Result ℕ LoadError) (out' : List ℕ)
      → Told (loaded_from (length out) (script_of ws)) (loaded_number s) (loaded_length s) out out'
      → LoadPromise ws out work s out' work'
  told_of s out' d =
      let t = along (λ (x : Answer). Told x (loaded_number s) (loaded_length s) out out') (sym answer_is) d in
      record { answered = t.answered; measured = t.measured; filled = t.filled; cleared = cleared_all c }

  pub loaded : (s : Result ℕ LoadError) (out' : List ℕ) → ScriptTold ws (Ok tt) → FirstTold ws out s out'
      → LoadPromise ws out work s out' work'
  loaded s out' (e, i) d =
      let shown : image (first e) ≡ 1 ∷ 0 ∷ 0 ∷ 0 ∷ ws =
      image_first e ∙ ap (λ (l : List ℕ). 1 ∷ 0 ∷ 0 ∷ 0 ∷ l) (sym (is_script_lem ws e i).written) in
      told_of s out'
      (along
      (λ (x : Answer). Told x (loaded_number s) (loaded_length s) out out')
      (sym (
      ap (loaded_from (length out)) i
      ∙ ap (λ (l : List ℕ). within (image_room (length out)) (answer 0 l)) shown
      ))
      d.told)

  pub load_refused : (k : ScriptError) (s : Result ℕ LoadError) → ScriptTold ws (Err k)
      → IsErrAnd s (λ x. x ≡ load_error k) → LoadPromise ws out work s out work'
  load_refused k s i j = rw (err_is s j) (told_of (Err (load_error k)) out (refused_told k i))
    where
      refused_told : (k : ScriptError) → script_of ws ≡ no_script (script_number k)
          → Told (loaded_from (length out) (script_of ws)) (loaded_number (Err (load_error k))) 0 out out
      refused_told script.NotFormed i = told_kept _ 10 out (ap (loaded_from (length out)) i) (omega arith)
      refused_told script.HoldsHandle i = told_kept _ 11 out (ap (loaded_from (length out)) i) (omega arith)
      refused_told script.NotClosed i = told_kept _ 12 out (ap (loaded_from (length out)) i) (omega arith)
