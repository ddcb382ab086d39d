-- What stands after a child has been checked, and what its type means then.
use Prim.Native.Nat.{ℕ, ◌≤◌, ◌+◌}
use mathlib.Core.List.{List, ◌++◌, ◌∷◌, append_assoc}
use mathlib.Core.Logic.{inr, inl}
use mathlib.Core.Option.{Option as Maybe, some, none}
use mathlib.Core.Path.{◌≡◌, ap, refl, sym, ◌∙◌, subst}
use native.Mathlib.Omega.{arith}
use lib.ListN.{length, get_or, drop, length-drop, length-append}
use Rattle.std.specs.Prelude.{Ok, Err}
use Rattle.typing.specs.declared.CheckError.{CheckError}
use Rattle.typing.specs.declared.rules.Typed.{Typed}
use Rattle.typing.specs.declared.CheckError.TheVariants.{NoType}
use Rattle.calculus.specs.Expressions.{Expression}
use Rattle.calculus.specs.Types.{ScriptType}
use Rattle.calculus.specs.Typing.{Assignment, type_of, no_world}
use Rattle.calculus.specs.Words.{type_words, words}
use Rattle.typing.specs.Held.{Means, Small}
use Rattle.typing.specs.Inferring.{Keeps, Stands, Infers, Kept, Passed}
use Rattle.words.specs.Names.{all_words, AllFormed}
use Rattle.typing.specs.Rulings.{Inferred, typed, Scope, Noted, Answers}
use Rattle.calculus.proofs.Options.{none≢some, some_inj}
use Rattle.typing.proofs.Ends.{written_in}
use Rattle.typing.proofs.Fronts.{past}
use Rattle.typing.proofs.Meaning.{frame}
use Rattle.typing.proofs.Sizes.{Short, small_type}

typed_inj : {a b : Typed} → ◌≡◌ {A = Inferred} (Ok a) (Ok b) → a ≡ b
typed_inj e = cc

-- an annotation of the script is short
scope_short : (s t : List ℕ) (Γ : Assignment) → length s ≤ 2048 → Scope s t Γ → Short 2048 Γ
unfolding Noted
scope_short s t Γ h b x l A e = go (Γ x) e (b x l)
  where
    go : (o : Maybe ScriptType) → o ≡ some A → Noted s (get_or t (2048 + x) 0) o → length (type_words A) ≤ 2048
    go none q k = none≢some q
    go (some B) q k =
        let p : length (type_words B) ≡ length (type_words A) =
        ap (λ (X : ScriptType). length (type_words X)) (some_inj q)
        in
        let w = written_in s (get_or t (2048 + x) 0) B k.1 in
        omega arith

-- a child that has been checked
pub record Child (s : List ℕ) (i f : ℕ) (t t' : List ℕ) (e : Expression) (Γ : Assignment) (a : ℕ) : Type 0 where
  pub end : f ≡ i + length (words e)
  pub high : f ≤ length s
  pub type : ScriptType
  pub typed : type_of no_world Γ e ≡ some type
  pub means : Means s t' i f a type
  pub keeps : Keeps i f t t'
  pub small : Small type

stands_high : (s t : List ℕ) (at left : ℕ) (e : Expression) (Γ : Assignment) → Stands s t at left e Γ → at ≤ length s
    → at + length (words e) ≤ length s
stands_high s t at left e Γ d h =
    let z : length (drop at s) ≡ length (words e ++ d.rest) = ap length d.is in
    omega (arith, length-drop at s, simp length-append at z)

module _ (s t t' : List ℕ) (at left : ℕ) (x : Inferred) (e : Expression) (Γ : Assignment)
    (c : Infers s at left t x t') (d : Stands s t at left e Γ) where
  pub child : (a f : ℕ) → length s ≤ 2048 → at ≤ length s → x ≡ typed a f → Child s at f t t' e Γ a
  unfolding Answers
  child a f h l q = go (type_of no_world Γ e) refl (c.settles e Γ d).is (c.settles e Γ d).kept
    where
      same : (b : ℕ) (g : ℕ) → x ≡ typed b g → (b ≡ a) × (g ≡ f)
      same b g p = let e = typed_inj (sym p ∙ q) in (ap (λ (y : Typed). y.held) e, ap (λ (y : Typed). y.end) e)

      go : (o : Maybe ScriptType) → type_of no_world Γ e ≡ o → Answers s t' at (at + length (words e)) x o
          → Kept at (at + length (words e)) t t' o → Child s at f t t' e Γ a
      go none p n k =
          absurd
          (let z : ◌≡◌ {A = Inferred} (typed a f) (Err NoType) = sym q ∙ n in
          let y : ◌≡◌ {A = ℕ} 0 1 = cc in omega arith)
      go (some A) p (b, n, m) k =
          let (u, v) = same b (at + length (words e)) n in
          let g = stands_high s t at left e Γ d l in
          record {
            end = sym v;
            high = omega arith;
            type = A;
            typed = p;
            means =
                subst (λ (j : ℕ). Means s t' at j a A) v
                (subst (λ (j : ℕ). Means s t' at (at + length (words e)) j A) u m);
            keeps = subst (λ (j : ℕ). Keeps at j t t') v k;
            small = small_type e Γ A (omega arith) d.formed (scope_short s t Γ h d.scope) p;
          }

  pub child_refused : (n : CheckError) → x ≡ Err n → (type_of no_world Γ e ≡ none) × (x ≡ Err NoType)
  unfolding Answers
  child_refused n q = go (type_of no_world Γ e) refl (c.settles e Γ d).is
    where
      go : (o : Maybe ScriptType) → type_of no_world Γ e ≡ o → Answers s t' at (at + length (words e)) x o
          → (type_of no_world Γ e ≡ none) × (x ≡ Err NoType)
      go none p k = (p, k)
      go (some A) p (b, k, m) =
          absurd
          (let z : ◌≡◌ {A = Inferred} (Err n) (typed b (at + length (words e))) = sym q ∙ k in
          let y : ◌≡◌ {A = ℕ} 0 1 = cc in omega arith)

-- the next child
pub next_stands : (s t t' : List ℕ) (at f left end : ℕ) (Γ : Assignment) (e : Expression) (es : List Expression)
    → length s ≤ 2048 → Passed s t at f left t' Γ (e ∷ es) end → Stands s t' f left e Γ
unfolding all_words AllFormed
next_stands s t t' at f left end Γ e es h p =
    let l = length-append (words e) (all_words es) in
    record {
      rest = all_words es ++ p.rest;
      is = p.is ∙ append_assoc (words e) (all_words es) p.rest;
      few = omega (arith, p.few);
      formed = p.formed.0;
      room = p.room;
      scope = λ x l. rw (p.keeps (2048 + x) (inr (omega (arith, p.high)))) (p.scope x l);
    }

pub record Next (s t : List ℕ) (at f g left : ℕ) (t' t'' : List ℕ) (Γ : Assignment) (e : Expression)
    (es : List Expression) (b end : ℕ) : Type 0 where
  pub pass : Passed s t at g left t'' Γ es end
  pub type : ScriptType
  pub typed : type_of no_world Γ e ≡ some type
  pub means : Means s t'' at g b type
  pub small : Small type
  pub old : (a : ℕ) (A : ScriptType) → Means s t' at f a A → Means s t'' at g a A
  pub link : get_or t'' at 0 ≡ get_or t' at 0

pub next : (s t t' t'' : List ℕ) (at f g left b end : ℕ) (Γ : Assignment) (e : Expression) (es : List Expression)
    (y : Inferred) → length s ≤ 2048 → y ≡ typed b g → Infers s f left t' y t''
    → Passed s t at f left t' Γ (e ∷ es) end → Next s t at f g left t' t'' Γ e es b end
unfolding next_stands all_words AllFormed
next s t t' t'' at f g left b end Γ e es y h q c p =
    let d = next_stands s t t' at f left end Γ e es h p in
    let k = child s t' t'' f left y e Γ c d b g h p.high q in
    let l = length-append (words e) (all_words es) in
    record {
      pass = record {
        rest = p.rest;
        is = rw k.end (past s f (words e) (all_words es ++ p.rest) d.is);
        few = omega (arith, p.few);
        formed = p.formed.1;
        room = c.room ∙ p.room;
        scope = p.scope;
        keeps = keep k.end k.keeps;
        low = omega (arith, p.low, k.end);
        high = k.high;
        size = omega (arith, p.size, k.end);
      };
      type = k.type;
      typed = k.typed;
      means =
          frame s t'' t'' f g at g (omega (arith, p.low)) (omega arith) (λ i u v. refl) b k.type k.means;
      small = k.small;
      old = λ a A m.
          frame s t' t'' at f at g (omega arith) (omega (arith, k.end)) (λ i u v. k.keeps i (inl v)) a A m;
      link = k.keeps at (inl p.low);
    }
  where
    keep : g ≡ f + length (words e) → Keeps f g t' t'' → Keeps at g t t''
    keep z k i (inl u) = k i (inl (omega (arith, p.low))) ∙ p.keeps i (inl u)
    keep z k i (inr u) = k i (inr u) ∙ p.keeps i (inr (omega arith))
