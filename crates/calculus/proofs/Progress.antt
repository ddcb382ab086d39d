-- A typed expression without free variables is a value or has a place of work.
use Prim.Native.Nat.{ℕ}
use mathlib.Core.Bool.{Bool, true, false}
use mathlib.Core.List.{[], ◌∷◌}
use mathlib.Core.Option.{none, some}
use mathlib.Core.Path.{◌≡◌, refl, sym, ◌∙◌}
use lib.Dec.{T}
use Rattle.calculus.specs.Types.{ScriptType, basic, unit_type, bool_type, num_type, rev_type, reference, function}
use Rattle.calculus.specs.Expressions.{assign, one, Expression, unit, bool, number, revision, ref, location}
use Rattle.calculus.specs.Expressions.{apply, if, read, fork, join, arithmetic, One, two, Two}
use Rattle.calculus.specs.Formed.{value}
use Rattle.calculus.specs.Stores.{plain}
use Rattle.calculus.specs.Redexes.{as_truth, as_leaf, Lambda, as_lambda, Redex, redex, applying, choosing, making}
use Rattle.calculus.specs.Redexes.{reading, assigning, forking, joining, calculating}
use Rattle.calculus.specs.Places.{here, within, Context, Decomposed, Frame, enters, fill, only, enters_second}
use Rattle.calculus.specs.Places.{second_of, first_of, condition}
use Rattle.calculus.specs.Typing.{Assignment, World, HasType, constant_rule, number_rule, variable_rule}
use Rattle.calculus.specs.Typing.{location_rule, revision_rule, lambda_rule, apply_rule, if_rule, ref_rule, read_rule}
use Rattle.calculus.specs.Typing.{assign_rule, fork_rule, join_rule, arithmetic_rule}
use Rattle.calculus.proofs.Options.{none≢some}
use Rattle.calculus.proofs.Places.{true≢false}

-- an assignment that types no variable
abbrev pub Nowhere : Assignment → Type 0
Nowhere Γ = (n : ℕ) → Γ n ≡ none

-- what a value of each type looks like
abbrev pub Canonical : ScriptType → Expression → Type 0
Canonical (basic unit_type) e = Unit {0}
Canonical (basic bool_type) e = (t : Bool) × (as_truth e ≡ some t)
Canonical (basic num_type) e = (n : ℕ) × (as_leaf number e ≡ some n)
Canonical (basic rev_type) e = (r : ℕ) × (as_leaf revision e ≡ some r)
Canonical (reference A) e = (l : ℕ) × (as_leaf location e ≡ some l)
Canonical (function A B) e = (f : Lambda) × (as_lambda e ≡ some f)

canonical : {W : World} {Γ : Assignment} {e : Expression} {A : ScriptType} → HasType W Γ e A → Nowhere Γ
    → value e ≡ true → Canonical A e
canonical (constant_rule unit) n v = tt
canonical (constant_rule (bool t)) n v = (t, refl)
canonical (number_rule m) n v = (m, refl)
canonical (variable_rule {x = x} h) n v = none≢some (sym (n x) ∙ h)
canonical (location_rule {l = l} h) n v = (l, refl)
canonical (revision_rule {r = r} h) n v = (r, refl)
canonical (lambda_rule {x = x} {A = A} {e = e} d) n v = (record { variable = x; type = A; body = e }, refl)
canonical (apply_rule d e) n v = true≢false (sym v)
canonical (if_rule d e f) n v = true≢false (sym v)
canonical (ref_rule d) n v = true≢false (sym v)
canonical (read_rule d) n v = true≢false (sym v)
canonical (assign_rule d e) n v = true≢false (sym v)
canonical (fork_rule d) n v = true≢false (sym v)
canonical (join_rule d) n v = true≢false (sym v)
canonical (arithmetic_rule o d e) n v = true≢false (sym v)

-- a place of work: here, or within a child that is entered
abbrev IsRedex : Expression → Type 0
IsRedex e = (R : Redex) × (redex e ≡ some R)

abbrev pub Works : Expression → Type 0
Works e = (E : Context) × (R : Redex) × Decomposed e E R

works_here : (e : Expression) → IsRedex e → Works e
works_here e (R, h) = ([], R, here h)

works_in : (f : Frame) (e : Expression) → T (enters f) → Works e → Works (fill f e)
works_in f e t (E, R, d) = (f ∷ E, R, within f t d)

works_one : (o : One) (e : Expression) → T (enters (only o)) → (value e ≡ false → Works e)
    → (value e ≡ true → IsRedex (one o e)) → Works (one o e)
works_one o e t inside whole = go (value e) refl
  where
    go : (b : Bool) → value e ≡ b → Works (one o e)
    go true v = works_here (one o e) (whole v)
    go false v = works_in (only o) e t (inside v)

works_two : (o : Two) (a b : Expression) → (value a ≡ false → Works a) → (value b ≡ false → Works b)
    → (value a ≡ true → T (enters_second o a)) → (value a ≡ true → value b ≡ true → IsRedex (two o a b))
    → Works (two o a b)
works_two o a b in_first in_second t whole = go (value a) (value b) refl refl
  where
    go : (x y : Bool) → value a ≡ x → value b ≡ y → Works (two o a b)
    go true true v w = works_here (two o a b) (whole v w)
    go true false v w = works_in (second_of o a) b (t v) (in_second w)
    go false y v w = works_in (first_of o b) a tt (in_first v)

works_if : (a b c : Expression) → (value a ≡ false → Works a) → (value a ≡ true → IsRedex (if a b c))
    → Works (if a b c)
works_if a b c inside whole = go (value a) refl
  where
    go : (x : Bool) → value a ≡ x → Works (if a b c)
    go true v = works_here (if a b c) (whole v)
    go false v = works_in (condition b c) a tt (inside v)

pub progress : {W : World} {Γ : Assignment} {e : Expression} {A : ScriptType} → HasType W Γ e A → Nowhere Γ
    → value e ≡ false → Works e
progress (constant_rule c) n v = true≢false v
progress (number_rule m) n v = true≢false v
progress (variable_rule h) n v = true≢false v
progress (location_rule h) n v = true≢false v
progress (revision_rule h) n v = true≢false v
progress (lambda_rule d) n v = true≢false v
progress (apply_rule {f = f} {a = a} d e) n v =
    works_two apply f a (λ u. progress d n u) (λ u. progress e n u) (λ u. rw u tt)
    (λ u w. let (g, p) = canonical d n u in (applying g a, rw (p, w) refl))
progress (if_rule {a = a} {b = b} {c = c} d e f) n v =
    works_if a b c (λ u. progress d n u) (λ u. let (t, p) = canonical d n u in (choosing t b c, rw p refl))
progress (ref_rule {e = e} d) n v = works_one ref e tt (λ u. progress d n u) (λ u. (making (plain e), rw u refl))
progress (read_rule {e = e} d) n v =
    works_one read e tt (λ u. progress d n u) (λ u. let (l, p) = canonical d n u in (reading l, rw p refl))
progress (assign_rule {a = a} {b = b} d e) n v =
    works_two assign a b (λ u. progress d n u) (λ u. progress e n u) (λ u. let (l, p) = canonical d n u in rw p tt)
    (λ u w. let (l, p) = canonical d n u in (assigning l b, rw (p, w) refl))
progress (fork_rule {e = e} d) n v = works_here (one fork e) (forking e, refl)
progress (join_rule {e = e} d) n v =
    works_one join e tt (λ u. progress d n u) (λ u. let (r, p) = canonical d n u in (joining r, rw p refl))
progress (arithmetic_rule o {a = a} {b = b} d e) n v =
    works_two (arithmetic o) a b (λ u. progress d n u) (λ u. progress e n u)
    (λ u. let (i, p) = canonical d n u in rw p tt)
    (λ u w.
    let (i, p) = canonical d n u in
    let (j, q) = canonical e n w in (calculating o i j, rw (p, q) refl))
