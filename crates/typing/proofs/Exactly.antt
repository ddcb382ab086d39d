-- What the promise of the check says by the typing rules, and that it says all: two results that meet it are the same.
use Prim.Native.Nat.{◌-◌, ℕ, ◌≤◌, ◌<◌}
use mathlib.Core.Bool.{false, Bool, true}
use mathlib.Core.List.{List, ◌++◌}
use mathlib.Core.Option.{none, some, Option}
use mathlib.Core.Path.{◌≡◌, refl, sym, ◌∙◌, ap₂, ap, subst}
use native.Mathlib.Omega.{arith}
use lib.Dec.{eqb, leb}
use lib.ListN.{length, replicate}
use borrow.Author.Tests.{leb-true, leb-false}
use Rattle.std.specs.Prelude.{Ok, Err}
use Rattle.typing.specs.declared.CheckError.{CheckError}
use Rattle.typing.specs.declared.CheckError.TheVariants.{NoRoom, NotFormed, HoldsHandle, NotClosed, NoType, LongType}
use Rattle.calculus.specs.Answers.{answer, script, script_of, check_answer, Answer, typed_answer, holds_long_type, refused}
use Rattle.calculus.specs.Expressions.{Expression}
use Rattle.calculus.specs.Numbers.{choose}
use Rattle.calculus.specs.Types.{ScriptType}
use Rattle.calculus.specs.Typing.{nothing, HasType, no_world, type_of}
use Rattle.calculus.specs.Words.{type_words, words}
use Rattle.typing.specs.Answering.{Gives}
use Rattle.typing.specs.Checks.{Checked, number_of, length_of, CheckPromise}
use Rattle.calculus.proofs.Options.{none≢some}
use Rattle.calculus.proofs.TypingRules.{types_unique, type_of_untyped, type_of_rules}
use Rattle.typing.proofs.Scripts.{scripted}
use Rattle.typing.proofs.Sizes.{no_long_type}

-- an answer is known by its number and its length
error_of : ℕ → CheckError
error_of n =
    choose (eqb n 9) NoRoom
    (choose (eqb n 10) NotFormed
    (choose (eqb n 11) HoldsHandle (choose (eqb n 12) NotClosed (choose (eqb n 13) NoType LongType))))

case_of : ℕ → ℕ → Checked
case_of n l = choose (eqb n 0) (Ok l) (Err (error_of n))

case_is : (r : Checked) → case_of (number_of r) (length_of r) ≡ r
unfolding case_of error_of
case_is (Ok n) = refl
case_is (Err NoRoom) = refl
case_is (Err NotFormed) = refl
case_is (Err HoldsHandle) = refl
case_is (Err NotClosed) = refl
case_is (Err NoType) = refl
case_is (Err LongType) = refl

case_of_lem : (r : Checked) (n l : ℕ) → number_of r ≡ n → length_of r ≡ l → r ≡ case_of n l
case_of_lem r n l p q = sym (case_is r) ∙ ap₂ case_of p q

pub check_unique : (ws out work : List ℕ) (r r₂ : Checked) (o o₂ t t₂ : List ℕ) → CheckPromise ws out work r o t
    → CheckPromise ws out work r₂ o₂ t₂ → (r ≡ r₂) × (o ≡ o₂) × (t ≡ t₂)
check_unique ws out work r r₂ o o₂ t t₂ p q = (
  case_of_lem r _ _ p.number p.size ∙ sym (case_of_lem r₂ _ _ q.number q.size),
  p.written ∙ sym q.written,
  p.cleared ∙ sym q.cleared,
)

-- the answer r to the script e, with an out buffer that held `out` and now holds o: what the rules say of it
pub record Exactly (e : Expression) (out : List ℕ) (r : Checked) (o : List ℕ) : Type 0 where
  -- a type that there is room for is written, and nothing else is
  pub typed : (A : ScriptType) → HasType no_world nothing e A → length (type_words A) ≤ length out
      → (r ≡ Ok (length (type_words A))) × (o ≡ type_words A ++ replicate (length out - length (type_words A)) 0)
  pub typed_only : (n : ℕ) → r ≡ Ok n
      → (A : ScriptType) × HasType no_world nothing e A × (n ≡ length (type_words A)) × (n ≤ length out)
  -- 9 for want of room
  pub no_room_lem : (A : ScriptType) → HasType no_world nothing e A → length out < length (type_words A)
      → (r ≡ Err NoRoom) × (o ≡ out)
  pub no_room_only : r ≡ Err NoRoom
      → (A : ScriptType) × HasType no_world nothing e A × (length out < length (type_words A))
  -- 13
  pub no_type : ((A : ScriptType) → HasType no_world nothing e A → ⊥) → (r ≡ Err NoType) × (o ≡ out)
  pub no_type_only : r ≡ Err NoType → (A : ScriptType) → HasType no_world nothing e A → ⊥

script_inj : (a b : Expression) → script a ≡ script b → a ≡ b
script_inj a b e = cc

-- for a script and a work buffer of 8,192 words the answer is the typing function's
typed_by_lem : (ws : List ℕ) (e : Expression) (room : ℕ) → script_of ws ≡ script e
    → check_answer ws room 8192 ≡ typed_answer room false (type_of no_world nothing e)
unfolding check_answer
typed_by_lem ws e room h =
    let f = scripted ws e h in
    let g : f.tree ≡ e = script_inj f.tree e (sym f.is ∙ h) in
    let b : length (words f.tree) ≤ 2048 = omega (arith, f.few, ap length f.words) in
    let i : holds_long_type nothing f.tree ≡ false =
    no_long_type f.tree nothing b f.formed (λ y z A q. none≢some q)
    in
    let k : holds_long_type nothing e ≡ false = subst (λ (x : Expression). holds_long_type nothing x ≡ false) g i in
    rw (h, k) refl

module _ (e : Expression) (out : List ℕ) (r : Checked) (o : List ℕ) where
  different : {B : Type 0} (m n : ℕ) → (m ≡ n → ⊥) → number_of r ≡ m → number_of r ≡ n → B
  different m n h p q = absurd (h (sym p ∙ q))

  fits : (A : ScriptType) → HasType no_world nothing e A → length (type_words A) ≤ length out
      → Gives (answer 0 (type_words A)) out r o → Exactly e out r o
  unfolding case_of error_of
  fits A t l g = record {
    typed = λ B u k.
        let z : A ≡ B = types_unique t u in
        (rw (← z) (case_of_lem r _ _ g.number g.size), rw (← z) g.written);
    typed_only = λ n q.
        let z : n ≡ length (type_words A) = sym (ap length_of q) ∙ g.size in
        (A, t, z, omega arith);
    no_room_lem = λ B u k.
        let z : length (type_words A) ≡ length (type_words B) =
        ap (λ (X : ScriptType). length (type_words X)) (types_unique t u)
        in absurd (omega arith);
    no_room_only = λ q. different 0 9 (λ z. omega arith) g.number (ap number_of q);
    no_type = λ h. absurd (h A t);
    no_type_only = λ q. different 0 13 (λ z. omega arith) g.number (ap number_of q);
  }

  long : (A : ScriptType) → HasType no_world nothing e A → length out < length (type_words A)
      → Gives (refused 9) out r o → Exactly e out r o
  unfolding case_of error_of
  long A t l g = record {
    typed = λ B u k.
        let z : length (type_words A) ≡ length (type_words B) =
        ap (λ (X : ScriptType). length (type_words X)) (types_unique t u)
        in absurd (omega arith);
    typed_only = λ n q. different 9 0 (λ z. omega arith) g.number (ap number_of q);
    no_room_lem = λ B u k. (case_of_lem r _ _ g.number g.size, g.written);
    no_room_only = λ q. (A, t, l);
    no_type = λ h. absurd (h A t);
    no_type_only = λ q. different 9 13 (λ z. omega arith) g.number (ap number_of q);
  }

  none_at_all : ((A : ScriptType) → HasType no_world nothing e A → ⊥) → Gives (refused 13) out r o → Exactly e out r o
  unfolding case_of error_of
  none_at_all h g = record {
    typed = λ B u k. absurd (h B u);
    typed_only = λ n q. different 13 0 (λ z. omega arith) g.number (ap number_of q);
    no_room_lem = λ B u k. absurd (h B u);
    no_room_only = λ q. different 13 9 (λ z. omega arith) g.number (ap number_of q);
    no_type = λ k. (case_of_lem r _ _ g.number g.size, g.written);
    no_type_only = λ q. h;
  }

  exactly : Gives (typed_answer (length out) false (type_of no_world nothing e)) out r o → Exactly e out r o
  exactly = go (type_of no_world nothing e) refl
    where
      room : (A : ScriptType) → HasType no_world nothing e A → (b : Bool) → leb (length (type_words A)) (length out) ≡ b
          → Gives (choose b (answer 0 (type_words A)) (refused 9)) out r o → Exactly e out r o
      room A t true q g = fits A t (leb-true (length (type_words A)) (length out) q) g
      room A t false q g = long A t (leb-false (length (type_words A)) (length out) q) g

      go : (m : Option ScriptType) → type_of no_world nothing e ≡ m → Gives (typed_answer (length out) false m) out r o
          → Exactly e out r o
      go none q g = none_at_all (type_of_untyped no_world nothing e q) g
      go (some A) q g =
          room A (type_of_rules no_world nothing e A q) (leb (length (type_words A)) (length out)) refl g

-- the theorem: with a work buffer of 8,192 words, a script is answered as the rules say
pub check_exactly : (ws out work : List ℕ) (r : Checked) (o t : List ℕ) → CheckPromise ws out work r o t
    → length work ≡ 8192 → (e : Expression) → script_of ws ≡ script e → Exactly e out r o
check_exactly ws out work r o t p h e q =
    let z : check_answer ws (length out) (length work) ≡ typed_answer (length out) false (type_of no_world nothing e) =
    ap (check_answer ws (length out)) h ∙ typed_by_lem ws e (length out) q
    in
    exactly e out r o
    (subst (λ (a : Answer). Gives a out r o) z
    (record { number = p.number; size = p.size; written = p.written }))
