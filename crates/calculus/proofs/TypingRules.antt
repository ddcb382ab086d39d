-- The typing rules and the typing function agree, both ways, and types are unique.
use Prim.Native.Nat.{ℕ}
use mathlib.Core.Option.{some, none, Option}
use mathlib.Core.Path.{subst as along, ◌≡◌, refl, ap, sym, ◌∙◌}
use Rattle.calculus.specs.Options.{test, ◌▸◌}
use Rattle.calculus.specs.Types.{function, ScriptType, ScriptType-discrete, Basic-discrete, reference, basic}
use Rattle.calculus.specs.Types.{bool_type, rev_type, num_type, unit_type}
use Rattle.calculus.specs.Expressions.{one, ref, Expression, constant, number, variable, location, revision}
use Rattle.calculus.specs.Expressions.{lambda, apply, if, read, assign, fork, join, arithmetic, Leaf, leaf, One}
use Rattle.calculus.specs.Expressions.{two, Two}
use Rattle.calculus.specs.Typing.{equal, whether, as_reference, as_function, type_of, World, Assignment, HasType}
use Rattle.calculus.specs.Typing.{constant_rule, number_rule, variable_rule, location_rule, revision_rule}
use Rattle.calculus.specs.Typing.{lambda_rule, apply_rule, if_rule, ref_rule, read_rule, assign_rule, fork_rule}
use Rattle.calculus.specs.Typing.{join_rule, arithmetic_rule, leaf_type, one_type, two_type, arithmetic_type, if_type}
use Rattle.calculus.specs.Typing.{bind}
use Rattle.calculus.proofs.Options.{none≢some, some_inj, test_true, ▸-some, test_some}

pub equal_is : (A B : ScriptType) {u : Unit {0}} → equal A B ≡ some u → A ≡ B
unfolding equal
equal_is A B {u} h = go (ScriptType-discrete Basic-discrete A B) h
  where
    go : (d : Dec (A ≡ B)) → whether d ≡ some u → A ≡ B
    go (yes p) q = p
    go (no k) q = none≢some q

pub equal_same : (A : ScriptType) → equal A A ≡ some tt
unfolding equal
equal_same A = go (ScriptType-discrete Basic-discrete A A)
  where
    go : (d : Dec (A ≡ A)) → whether d ≡ some tt
    go (yes p) = refl
    go (no k) = absurd (k refl)

pub as_reference_is : (A : ScriptType) {B : ScriptType} → as_reference A ≡ some B → reference B ≡ A
as_reference_is (basic b) h = none≢some h
as_reference_is (reference A) h = ap reference (sym (some_inj h))
as_reference_is (function A B) h = none≢some h

pub as_function_is : (A : ScriptType) {p : ScriptType × ScriptType} → as_function A ≡ some p → function p.0 p.1 ≡ A
as_function_is (basic b) h = none≢some h
as_function_is (reference A) h = none≢some h
as_function_is (function A B) h = ap (λ (p : ScriptType × ScriptType). function p.0 p.1) (sym (some_inj h))

-- what the rules give the function finds
pub rules_type_of : {W : World} {Γ : Assignment} {e : Expression} {A : ScriptType} → HasType W Γ e A
    → type_of W Γ e ≡ some A
unfolding type_of
rules_type_of (constant_rule c) = refl
rules_type_of (number_rule n) = refl
rules_type_of (variable_rule h) = h
rules_type_of (location_rule h) = rw h refl
rules_type_of {W} (revision_rule {r = r} h) = rw (test_true (W.tasks r) h) refl
rules_type_of (lambda_rule d) = rw (rules_type_of d) refl
rules_type_of (apply_rule {A = A} d e) = rw (rules_type_of d, rules_type_of e, equal_same A) refl
rules_type_of (if_rule {A = A} d e f) =
    rw (rules_type_of d, rules_type_of e, rules_type_of f, equal_same (basic bool_type), equal_same A) refl
rules_type_of (ref_rule d) = rw (rules_type_of d) refl
rules_type_of (read_rule d) = rw (rules_type_of d) refl
rules_type_of (assign_rule {A = A} d e) = rw (rules_type_of d, rules_type_of e, equal_same A) refl
rules_type_of (fork_rule d) = rw (rules_type_of d) refl
rules_type_of (join_rule d) = rw (rules_type_of d, equal_same (basic rev_type)) refl
rules_type_of (arithmetic_rule o d e) = rw (rules_type_of d, rules_type_of e, equal_same (basic num_type)) refl

-- what the function finds the rules give
module _ {W : World} {Γ : Assignment} where
  nam_rules : (k : Leaf) (n : ℕ) (A : ScriptType) → leaf_type W Γ k n ≡ some A → HasType W Γ (leaf k n) A
  nam_rules number n A h = along (HasType W Γ (leaf number n)) (some_inj h) (number_rule n)
  nam_rules variable n A h = variable_rule h
  nam_rules location n A h =
      let (B, p, q) = ▸-some (W.cells n) (λ A. some (reference A)) h in
      along (HasType W Γ (leaf location n)) (some_inj q) (location_rule p)
  nam_rules revision n A h =
      let (u, p, q) = ▸-some (test (W.tasks n)) (λ u. some (basic rev_type)) h in
      along (HasType W Γ (leaf revision n)) (some_inj q) (revision_rule (test_some (W.tasks n) p))

  one_rules : (o : One) (e : Expression) (B A : ScriptType) → HasType W Γ e B → one_type o B ≡ some A
      → HasType W Γ (one o e) A
  one_rules ref e B A d h = along (HasType W Γ (one ref e)) (some_inj h) (ref_rule d)
  one_rules read e B A d h = read_rule (along (HasType W Γ e) (sym (as_reference_is B h)) d)
  one_rules fork e B A d h = along (HasType W Γ (one fork e)) (some_inj h) (fork_rule d)
  one_rules join e B A d h =
      let (u, p, q) = ▸-some (equal B (basic rev_type)) (λ u. some (basic unit_type)) h in
      along (HasType W Γ (one join e)) (some_inj q) (join_rule (along (HasType W Γ e) (equal_is B (basic rev_type) p) d))

  two_rules : (o : Two) (a b : Expression) (B C A : ScriptType) → HasType W Γ a B → HasType W Γ b C
      → two_type o B C ≡ some A → HasType W Γ (two o a b) A
  two_rules apply a b B C A d e h =
      let (f, p, q) = ▸-some (as_function B) (λ p. equal p.0 C ▸ λ u. some p.1) h in
      let (u, i, j) = ▸-some (equal f.0 C) (λ u. some f.1) q in
      along (HasType W Γ (two apply a b)) (some_inj j)
      (apply_rule (along (HasType W Γ a) (sym (as_function_is B p)) d)
      (along (HasType W Γ b) (sym (equal_is f.0 C i)) e))
  two_rules assign a b B C A d e h =
      let (D, p, q) = ▸-some (as_reference B) (λ D. equal D C ▸ λ u. some (basic unit_type)) h in
      let (u, i, j) = ▸-some (equal D C) (λ u. some (basic unit_type)) q in
      along (HasType W Γ (two assign a b)) (some_inj j)
      (assign_rule (along (HasType W Γ a) (sym (as_reference_is B p)) d)
      (along (HasType W Γ b) (sym (equal_is D C i)) e))
  two_rules (arithmetic o) a b B C A d e h =
      let (u, p, q) = ▸-some (equal B (basic num_type)) (λ u. equal C (basic num_type) ▸ λ v. some (arithmetic_type o)) h
      in
      let (v, i, j) = ▸-some (equal C (basic num_type)) (λ v. some (arithmetic_type o)) q in
      along (HasType W Γ (two (arithmetic o) a b)) (some_inj j)
      (arithmetic_rule o (along (HasType W Γ a) (equal_is B (basic num_type) p) d)
      (along (HasType W Γ b) (equal_is C (basic num_type) i) e))

  if_rules : (a b c : Expression) (B C D A : ScriptType) → HasType W Γ a B → HasType W Γ b C → HasType W Γ c D
      → if_type B C D ≡ some A → HasType W Γ (if a b c) A
  if_rules a b c B C D A d e f h =
      let (u, p, q) = ▸-some (equal B (basic bool_type)) (λ u. equal C D ▸ λ v. some C) h in
      let (v, i, j) = ▸-some (equal C D) (λ v. some C) q in
      along (HasType W Γ (if a b c)) (some_inj j)
      (if_rule (along (HasType W Γ a) (equal_is B (basic bool_type) p) d) e
      (along (HasType W Γ c) (sym (equal_is C D i)) f))

pub type_of_rules : (W : World) (Γ : Assignment) (e : Expression) (A : ScriptType) → type_of W Γ e ≡ some A
    → HasType W Γ e A
unfolding type_of
type_of_rules W Γ (constant c) A h = along (HasType W Γ (constant c)) (some_inj h) (constant_rule c)
type_of_rules W Γ (leaf k n) A h = nam_rules k n A h
type_of_rules W Γ (lambda x B e) A h =
    let (C, p, q) = ▸-some (type_of W (bind x B Γ) e) (λ C. some (function B C)) h in
    along (HasType W Γ (lambda x B e)) (some_inj q) (lambda_rule (type_of_rules W (bind x B Γ) e C p))
type_of_rules W Γ (one o e) A h =
    let (B, p, q) = ▸-some (type_of W Γ e) (one_type o) h in one_rules o e B A (type_of_rules W Γ e B p) q
type_of_rules W Γ (two o a b) A h =
    let (B, p, q) = ▸-some (type_of W Γ a) (λ A. type_of W Γ b ▸ λ B. two_type o A B) h in
    let (C, r, s) = ▸-some (type_of W Γ b) (λ C. two_type o B C) q in
    two_rules o a b B C A (type_of_rules W Γ a B p) (type_of_rules W Γ b C r) s
type_of_rules W Γ (if a b c) A h =
    let (B, p, q) = ▸-some (type_of W Γ a) (λ A. type_of W Γ b ▸ λ B. type_of W Γ c ▸ λ C. if_type A B C) h in
    let (C, r, s) = ▸-some (type_of W Γ b) (λ C. type_of W Γ c ▸ λ D. if_type B C D) q in
    let (D, t, u) = ▸-some (type_of W Γ c) (λ D. if_type B C D) s in
    if_rules a b c B C D A (type_of_rules W Γ a B p) (type_of_rules W Γ b C r) (type_of_rules W Γ c D t) u

-- the function finds A exactly when the rules give A
pub type_of_exactly : (W : World) (Γ : Assignment) (e : Expression) (A : ScriptType)
    → (type_of W Γ e ≡ some A → HasType W Γ e A) × (HasType W Γ e A → type_of W Γ e ≡ some A)
type_of_exactly W Γ e A = (type_of_rules W Γ e A, rules_type_of)

-- the function finds none exactly when the rules give none
pub type_of_untyped : (W : World) (Γ : Assignment) (e : Expression) → type_of W Γ e ≡ none → (A : ScriptType)
    → HasType W Γ e A → ⊥
type_of_untyped W Γ e h A d = none≢some (sym h ∙ rules_type_of d)

pub untyped_type_of : (W : World) (Γ : Assignment) (e : Expression) → ((A : ScriptType) → HasType W Γ e A → ⊥)
    → type_of W Γ e ≡ none
untyped_type_of W Γ e f = go (type_of W Γ e) refl
  where
    go : (o : Option ScriptType) → type_of W Γ e ≡ o → type_of W Γ e ≡ none
    go none p = p
    go (some A) p = absurd (f A (type_of_rules W Γ e A p))

-- a type is the only one
pub types_unique : {W : World} {Γ : Assignment} {e : Expression} {A B : ScriptType} → HasType W Γ e A → HasType W Γ e B
    → A ≡ B
types_unique d e = some_inj (sym (rules_type_of d) ∙ rules_type_of e)
