-- The check as a function, and its laws: weakening, substitution, replacement.
use Prim.Native.Nat.{ℕ}
use mathlib.Core.Bool.{Bool, cond, true, false}
use mathlib.Core.List.{[], ◌∷◌}
use mathlib.Core.Logic.{◌≢◌}
use mathlib.Core.Option.{some}
use mathlib.Core.Path.{◌≡◌, fun_ext, refl, ap, sym, ◌∙◌}
use lib.Dec.{T, eqb}
use Rattle.calculus.specs.Options.{◌▸◌, test}
use Rattle.calculus.specs.Types.{function, ScriptType, reference, basic, rev_type}
use Rattle.calculus.specs.Expressions.{variable, Expression, constant, leaf, number, location, revision, lambda}
use Rattle.calculus.specs.Expressions.{one, two, if}
use Rattle.calculus.specs.Substitution.{substituted}
use Rattle.calculus.specs.Places.{plug, Context, only, first_of, second_of, condition}
use Rattle.calculus.specs.Typing.{Assignment, World, bind, type_of, one_type, two_type, if_type, nothing}
use Rattle.calculus.proofs.Options.{▸-some, test_true, test_some, true→eq, false→ne}

-- weakening, in the variables, the cells and the tasks at once
abbrev pub Sub : Assignment → Assignment → Type 0
Sub Γ Δ = (n : ℕ) (A : ScriptType) → Γ n ≡ some A → Δ n ≡ some A

abbrev pub SubT : (ℕ → Bool) → (ℕ → Bool) → Type 0
SubT P Q = (n : ℕ) → T (P n) → T (Q n)

pub record SubW (U W : World) : Type 0 where
  pub cells : Sub U.cells W.cells
  pub tasks : SubT U.tasks W.tasks

bind_sub : (x : ℕ) (A : ScriptType) {Γ Δ : Assignment} → Sub Γ Δ → Sub (bind x A Γ) (bind x A Δ)
bind_sub x A {Γ} {Δ} h n B = go (eqb n x)
  where
    go : (b : Bool) → cond b (some A) (Γ n) ≡ some B → cond b (some A) (Δ n) ≡ some B
    go true q = q
    go false q = h n B q

pub mono : {U W : World} {Γ Δ : Assignment} → SubW U W → Sub Γ Δ → (e : Expression) (A : ScriptType)
    → type_of U Γ e ≡ some A → type_of W Δ e ≡ some A
unfolding type_of
mono w g (constant c) A h = h
mono w g (leaf number n) A h = h
mono w g (leaf variable n) A h = g n A h
mono {U} {W} w g (leaf location n) A h =
    let (B, p, q) = ▸-some (U.cells n) (λ A. some (reference A)) h in
    rw (w.cells n B p) q
mono {U} {W} w g (leaf revision n) A h =
    let (B, p, q) = ▸-some (test (U.tasks n)) (λ u. some (basic rev_type)) h in
    rw (test_true (W.tasks n) (w.tasks n (test_some (U.tasks n) p))) q
mono {U} {W} {Γ} {Δ} w g (lambda x B e) A h =
    let (C, p, q) = ▸-some (type_of U (bind x B Γ) e) (λ C. some (function B C)) h in
    rw (mono {U = U} {W = W} {Γ = bind x B Γ} {Δ = bind x B Δ} w (bind_sub x B {Γ = Γ} {Δ = Δ} g) e C p) q
mono {U} {W} {Γ} {Δ} w g (one o e) A h =
    let (C, p, q) = ▸-some (type_of U Γ e) (one_type o) h in
    rw (mono {Γ = Γ} {Δ = Δ} w g e C p) q
mono {U} {W} {Γ} {Δ} w g (two o a b) A h =
    let (B, p, q) = ▸-some (type_of U Γ a) (λ A. type_of U Γ b ▸ λ B. two_type o A B) h in
    let (C, r, s) = ▸-some (type_of U Γ b) (λ C. two_type o B C) q in
    rw (mono {Γ = Γ} {Δ = Δ} w g a B p, mono {Γ = Γ} {Δ = Δ} w g b C r) s
mono {U} {W} {Γ} {Δ} w g (if a b c) A h =
    let (B, p, q) = ▸-some (type_of U Γ a) (λ A. type_of U Γ b ▸ λ B. type_of U Γ c ▸ λ C. if_type A B C) h in
    let (C, r, s) = ▸-some (type_of U Γ b) (λ C. type_of U Γ c ▸ λ D. if_type B C D) q in
    let (D, t, u) = ▸-some (type_of U Γ c) (λ D. if_type B C D) s in
    rw (mono {Γ = Γ} {Δ = Δ} w g a B p, mono {Γ = Γ} {Δ = Δ} w g b C r, mono {Γ = Γ} {Δ = Δ} w g c D t) u

-- binding twice
bind_same : (x : ℕ) (A B : ScriptType) (Γ : Assignment) → bind x B (bind x A Γ) ≡ bind x B Γ
bind_same x A B Γ = fun_ext (λ n. go n (eqb n x))
  where
    go : (n : ℕ) (b : Bool) → cond b (some B) (cond b (some A) (Γ n)) ≡ cond b (some B) (Γ n)
    go n true = refl
    go n false = refl

bind_swap : (x y : ℕ) (A B : ScriptType) (Γ : Assignment) → y ≢ x → bind x A (bind y B Γ) ≡ bind y B (bind x A Γ)
bind_swap x y A B Γ d = fun_ext (λ n. go n (eqb n x) (eqb n y) refl refl)
  where
    go : (n : ℕ) (b c : Bool) → eqb n x ≡ b → eqb n y ≡ c
        → cond b (some A) (cond c (some B) (Γ n)) ≡ cond c (some B) (cond b (some A) (Γ n))
    go n true true p q = absurd (d (sym (true→eq n y q) ∙ true→eq n x p))
    go n true false p q = refl
    go n false true p q = refl
    go n false false p q = refl

-- a closed value for a variable of its type changes no type: an equation, for every expression
pub subst_typ : (W : World) (x : ℕ) (v : Expression) (A : ScriptType) → ((Δ : Assignment) → type_of W Δ v ≡ some A)
    → (e : Expression) (Γ : Assignment) → type_of W Γ (substituted x v e) ≡ type_of W (bind x A Γ) e
unfolding type_of substituted
subst_typ W x v A hv (constant c) Γ = refl
subst_typ W x v A hv (leaf number n) Γ = refl
subst_typ W x v A hv (leaf variable n) Γ = go (eqb n x)
  where
    go : (b : Bool) → type_of W Γ (cond b v (leaf variable n)) ≡ cond b (some A) (Γ n)
    go true = hv Γ
    go false = refl
subst_typ W x v A hv (leaf location n) Γ = refl
subst_typ W x v A hv (leaf revision n) Γ = refl
subst_typ W x v A hv (lambda y B e) Γ = go (eqb y x) refl (subst_typ W x v A hv e (bind y B Γ))
  where
    go : (b : Bool) → eqb y x ≡ b → type_of W (bind y B Γ) (substituted x v e) ≡ type_of W (bind x A (bind y B Γ)) e
        → (type_of W (bind y B Γ) (cond b e (substituted x v e)) ▸ λ C. some (function B C)) ≡
        (type_of W (bind y B (bind x A Γ)) e ▸ λ C. some (function B C))
    go true p ih = ap (λ Δ. type_of W Δ e ▸ λ C. some (function B C)) (rw (true→eq y x p) (sym (bind_same x A B Γ)))
    go false p ih =
        ap (λ m. m ▸ λ C. some (function B C)) (ih ∙ ap (λ Δ. type_of W Δ e) (bind_swap x y A B Γ (false→ne y x p)))
subst_typ W x v A hv (one o e) Γ = rw (subst_typ W x v A hv e Γ)
subst_typ W x v A hv (two o a b) Γ = rw (subst_typ W x v A hv a Γ, subst_typ W x v A hv b Γ)
subst_typ W x v A hv (if a b c) Γ = rw (subst_typ W x v A hv a Γ, subst_typ W x v A hv b Γ, subst_typ W x v A hv c Γ)

-- replacement in a context
pub plug_typ : (W : World) (Γ : Assignment) (E : Context) (d e : Expression) → type_of W Γ d ≡ type_of W Γ e
    → type_of W Γ (plug E d) ≡ type_of W Γ (plug E e)
unfolding type_of
plug_typ W Γ [] d e h = h
plug_typ W Γ (only o ∷ E) d e h = rw (plug_typ W Γ E d e h)
plug_typ W Γ (first_of o b ∷ E) d e h = rw (plug_typ W Γ E d e h)
plug_typ W Γ (second_of o a ∷ E) d e h = rw (plug_typ W Γ E d e h)
plug_typ W Γ (condition b c ∷ E) d e h = rw (plug_typ W Γ E d e h)

-- what stands in a typed context is typed
abbrev pub Typed : World → Expression → Type 0
Typed W e = (A : ScriptType) × (type_of W nothing e ≡ some A)

pub plug_inv : (W : World) (E : Context) (e : Expression) → Typed W (plug E e) → Typed W e
unfolding type_of
plug_inv W [] e h = h
plug_inv W (only o ∷ E) e (A, h) =
    let (B, p, q) = ▸-some (type_of W nothing (plug E e)) (one_type o) h in plug_inv W E e (B, p)
plug_inv W (first_of o b ∷ E) e (A, h) =
    let (B, p, q) = ▸-some (type_of W nothing (plug E e)) (λ A. type_of W nothing b ▸ λ B. two_type o A B) h in
    plug_inv W E e (B, p)
plug_inv W (second_of o a ∷ E) e (A, h) =
    let (B, p, q) = ▸-some (type_of W nothing a) (λ A. type_of W nothing (plug E e) ▸ λ B. two_type o A B) h in
    let (C, r, s) = ▸-some (type_of W nothing (plug E e)) (λ C. two_type o B C) q in plug_inv W E e (C, r)
plug_inv W (condition b c ∷ E) e (A, h) =
    let (B, p, q) = ▸-some (type_of W nothing (plug E e))
    (λ A. type_of W nothing b ▸ λ B. type_of W nothing c ▸ λ C. if_type A B C) h in
    plug_inv W E e (B, p)
