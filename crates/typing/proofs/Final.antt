-- The answer to a script: the type written out, and each way through the check.
use Prim.Native.Nat.{◌-◌, ℕ, ◌+◌, ◌≤◌}
use mathlib.Core.Bool.{true, Bool, false}
use mathlib.Core.List.{List, [], ◌∷◌, ◌++◌, append-nil}
use mathlib.Core.Option.{some}
use mathlib.Core.Path.{◌≡◌, refl, ap, ◌∙◌, sym, subst}
use native.Mathlib.Omega.{arith}
use lib.Dec.{ltb, leb}
use lib.ListN.{length, take, replicate, drop, length-replicate, get_or, get_or-replicate}
use lib.Seq.{sets, sets-eq, take_at, length-sets}
use borrow.Author.Tests.{leb-true, leb-false, le-ltb, lt-leb, le-leb, ne_eqb, eq-eqb}
use Rattle.std.specs.Prelude.{Ok, Err, IsErr, IsErrAnd}
use Rattle.typing.specs.declared.CheckError.{CheckError}
use Rattle.typing.specs.declared.CheckError.TheVariants.{NoRoom, NoType}
use Rattle.words.specs.declared.script.ScriptError.{ScriptError}
use Rattle.words.specs.declared.script.ScriptError.TheVariants.{NotFormed, HoldsHandle, NotClosed}
use Rattle.words.specs.Scripts.{script_number}
use Rattle.words.specs.Buffers.{Cleared}
use Rattle.calculus.specs.Answers.{Answer, check_answer, script, no_script, script_of, checked_from, refused, long_type, typed_answer}
use Rattle.calculus.specs.Expressions.{Expression}
use Rattle.calculus.specs.Types.{ScriptType}
use Rattle.calculus.specs.Typing.{nothing}
use Rattle.calculus.specs.Words.{words, type_words}
use Rattle.typing.specs.Answering.{PutType, Answered, Gives}
use Rattle.typing.specs.Checks.{Checked, error_number, of_script}
use Rattle.typing.specs.Held.{Means, Small}
use Rattle.typing.specs.Inferring.{Infers, Stands}
use Rattle.typing.specs.Rulings.{Noted, Inferred, typed}
use Rattle.typing.specs.Writing.{WroteType}
use Rattle.calculus.proofs.Options.{none≢some}
use Rattle.typing.proofs.Children.{child_refused, child}
use Rattle.typing.proofs.Scripts.{scripted, Scripted}
use Rattle.typing.proofs.Sizes.{no_long_type}

error_inj : {a b : CheckError} → ◌≡◌ {A = Inferred} (Err a) (Err b) → a ≡ b
error_inj e = cc

none_of : (l : List ℕ) → length l ≡ 0 → l ≡ []
none_of [] e = refl
none_of (x ∷ l) e = absurd (omega arith)

-- the type that is held at p, of which n words were counted
module _ (s t : List ℕ) (p : ℕ) (o pt part : List ℕ) (n : ℕ) (z : length pt ≡ 0) (w : WroteType s t p part n pt) where
  same : pt ++ o ≡ o
  same = ap (λ (l : List ℕ). l ++ o) (none_of pt z)

  module _ (h : n ≤ 4096) where
    -- then it is not long, and n is its length
    small : (i j : ℕ) (A : ScriptType) → Means s t i j p A → Small A
    small i j A m = go (leb (length (type_words A)) 4096) refl
      where
        go : (b : Bool) → leb (length (type_words A)) 4096 ≡ b → Small A
        go true q = leb-true (length (type_words A)) 4096 q
        go false q =
            let k = leb-false (length (type_words A)) 4096 q in
            absurd (omega (arith, w.long i j A m k))

    not_long : (i j : ℕ) (A : ScriptType) → Means s t i j p A → ltb 4096 (length (type_words A)) ≡ false
    not_long i j A m = le-ltb 4096 (length (type_words A)) (small i j A m)

    count : (i j : ℕ) (A : ScriptType) → Means s t i j p A → n ≡ length (type_words A)
    count i j A m = w.end i j A m (small i j A m)

    pub put_done : (o₂ o₃ : List ℕ) (n₂ : ℕ) → n ≤ length (pt ++ o) → WroteType s t p (pt ++ o) n₂ o₂
        → Cleared o₂ n o₃ → PutType s t p o (Ok n) o₃
    put_done o₂ o₃ n₂ u v e = record {
      gives = λ i j A m.
          let k = not_long i j A m in
          let l : leb (length (type_words A)) (length o) ≡ true =
          le-leb (length (type_words A)) (length o) (room i j A m)
          in
          record {
            number = rw (k, l) refl;
            size = rw (k, l) (count i j A m);
            written = e.zeros ∙ whole i j A m ∙ rw (k, l) refl;
          };
    }
      where
        room : (i j : ℕ) (A : ScriptType) → Means s t i j p A → length (type_words A) ≤ length o
        room i j A m = omega (arith, count i j A m, ap length same)

        whole : (i j : ℕ) (A : ScriptType) → Means s t i j p A
            → take n o₂ ++ replicate (length o₂ - n) 0
            ≡ type_words A ++ replicate (length o - length (type_words A)) 0
        whole i j A m =
            let a : o₂ ≡ sets o 0 (type_words A) =
            v.is i j A m (small i j A m) ∙ ap (λ (l : List ℕ). sets l 0 (type_words A)) same
            in
            let b : o₂ ≡ type_words A ++ drop (0 + length (type_words A)) o =
            a ∙ sets-eq (type_words A) o 0 (let k = room i j A m in omega arith)
            in
            let c : take n o₂ ≡ type_words A =
            ap (take n) b
            ∙ take_at (type_words A) (drop (0 + length (type_words A)) o) n (sym (count i j A m))
            in
            let d : length o₂ ≡ length o = ap length a ∙ length-sets o 0 (type_words A) in
            rw (c, d, count i j A m) refl

-- the check, one law for each way through it
module _ (ws o t : List ℕ) where
  pub answer_work : (length t ≡ 8192 → ⊥) → Answered ws o t (Err NoRoom) o
  unfolding check_answer
  answer_work h = let k = ne_eqb (length t) 8192 h in
      record { gives = record { number = rw k refl; size = rw k refl; written = rw k refl } }

  module _ (h : length t ≡ 8192) where
    checked : check_answer ws (length o) (length t) ≡ checked_from (length o) (script_of ws)
    unfolding check_answer
    checked = rw (eq-eqb (length t) 8192 h) refl

    -- an answer that is known to be the one of calculus
    answered : (a : Answer) (r : Checked) (o' : List ℕ) → checked_from (length o) (script_of ws) ≡ a → Gives a o r o'
        → Answered ws o t r o'
    answered a r o' e g = record { gives = subst (λ (b : Answer). Gives b o r o') (sym (checked ∙ e)) g }

    above : (n : ℕ) → 9 ≤ n → leb n 1 ≡ false
    above n l = lt-leb n 1 (omega arith)

    refusal : (e : CheckError) → 9 ≤ error_number e → Gives (refused (error_number e)) o (Err e) o
    refusal e l = record { number = refl; size = refl; written = rw (above (error_number e) l) refl }

    high : (k : ScriptError) → (9 ≤ error_number (of_script k)) × (error_number (of_script k) ≡ script_number k)
    high NotFormed = (omega arith, refl)
    high HoldsHandle = (omega arith, refl)
    high NotClosed = (omega arith, refl)

    -- a test of the script failed, and `?` returned the error
    pub answer_no_script : (k : ScriptError) (r : Checked) → script_of ws ≡ no_script (script_number k)
        → IsErr r × IsErrAnd r (λ e. e ≡ of_script k) → Answered ws o t r o
    answer_no_script k (Ok n) q f = absurd f.1
    answer_no_script k (Err e) q f =
        let (l, u) = high k in
        answered (refused (error_number (of_script k))) (Err e) o (rw (q, u) refl) (rw f.1 (refusal (of_script k) l))

    module _ (e : Expression) (q : script_of ws ≡ script e) (t₁ t₂ : List ℕ) (x : Inferred) (a : Cleared t 0 t₁)
        (c : Infers ws 0 (length ws) t₁ x t₂) where
      found : Scripted ws
      found = scripted ws e q

      empty : t₁ ≡ replicate 8192 0
      empty = let z : length t - 0 ≡ 8192 = omega arith in a.zeros ∙ ap (λ (m : ℕ). replicate m 0) z

      stands : Stands ws t₁ 0 (length ws) found.tree nothing
      unfolding Noted
      stands =
          let f = found in
          record {
            rest = [];
            is = f.words ∙ sym (append-nil (words f.tree));
            few = omega (arith, ap length f.words);
            formed = f.formed;
            room = ap length empty ∙ length-replicate {A = ℕ} 8192 0;
            scope = λ y l.
                ap (λ (u : List ℕ). get_or u (2048 + y) 0) empty
                ∙ get_or-replicate {A = ℕ} 8192 (2048 + y) 0 0 (omega arith);
          }

      -- no type was found, and `?` returned the error
      pub answer_no_type : (k : CheckError) (r : Checked) → x ≡ Err k → IsErr r × IsErrAnd r (λ e. e ≡ k)
          → Answered ws o t r o
      answer_no_type k (Ok n) w f = absurd f.1
      answer_no_type k (Err e) w f =
          let (u, v) = child_refused ws t₁ t₂ 0 (length ws) x found.tree nothing c stands k w in
          let z : e ≡ NoType = f.1 ∙ error_inj (sym w ∙ v) in
          rw z (answered (refused 13) (Err NoType) o (rw (found.is, u) refl) (refusal NoType (omega arith)))

      pub answer_type : (p d : ℕ) (r : Checked) (o' : List ℕ) → x ≡ typed p d → PutType ws t₂ p o r o'
          → Answered ws o t r o'
      answer_type p d r o' w u =
          let f = found in
          let b : length (words f.tree) ≤ 2048 = omega (arith, f.few, ap length f.words) in
          let g = child ws t₁ t₂ 0 (length ws) x f.tree nothing c stands p d f.few (omega arith) w in
          let l : long_type (some g.type) ≡ false = le-ltb 4096 (length (type_words g.type)) g.small in
          let i = no_long_type f.tree nothing b f.formed (λ y z A e. none≢some e) in
          answered (typed_answer (length o) false (some g.type)) r o'
          (rw (f.is, g.typed, i) refl)
          (subst (λ (b : Bool). Gives (typed_answer (length o) b (some g.type)) o r o') l
          (u.gives 0 d g.type g.means))

-- a script has at most 2,048 words
pub script_few : (ws : List ℕ) (e : Expression) → script_of ws ≡ script e → length ws ≤ 2048
script_few ws e q = (scripted ws e q).few
