-- A type has at most the words of its expression and of the longest annotation in reach, so 14 is never given.
use Prim.Native.Nat.{ℕ, ◌<◌, ◌≤◌, ◌+◌}
use mathlib.Core.Bool.{Bool, cond, true, false}
use mathlib.Core.List.{◌++◌}
use mathlib.Core.Option.{some, none, Option}
use mathlib.Core.Path.{◌≡◌, subst, refl}
use native.Mathlib.Omega.{arith}
use lib.Dec.{eqb}
use lib.ListN.{length, length-append}
use borrow.Author.Tests.{le-ltb}
use Rattle.calculus.specs.Answers.{long_type, holds_long_type}
use Rattle.calculus.specs.Expressions.{constant, Constant, unit, bool, Arithmetic, add, subtract, less, Expression}
use Rattle.calculus.specs.Expressions.{one, lambda, if, leaf, two}
use Rattle.calculus.specs.Formed.{Formed}
use Rattle.calculus.specs.Types.{ScriptType}
use Rattle.calculus.specs.Typing.{Assignment, bind, constant_type, arithmetic_type, HasType, no_world, constant_rule}
use Rattle.calculus.specs.Typing.{number_rule, variable_rule, location_rule, revision_rule, lambda_rule, apply_rule, if_rule}
use Rattle.calculus.specs.Typing.{ref_rule, read_rule, assign_rule, fork_rule, join_rule, arithmetic_rule, type_of}
use Rattle.calculus.specs.Words.{words, type_words}
use Rattle.typing.specs.Held.{Small}
use Rattle.calculus.proofs.Options.{some_inj, none≢some}
use Rattle.calculus.proofs.TypingRules.{type_of_rules}

abbrev size : ScriptType → ℕ
size A = length (type_words A)

-- the type of every variable that may be named has at most m words
abbrev pub Short : ℕ → Assignment → Type 0
Short m Γ = (x : ℕ) → x < 256 → (A : ScriptType) → Γ x ≡ some A → length (type_words A) ≤ m

bind_short : (m x : ℕ) (A : ScriptType) (Γ : Assignment) → size A ≤ m → Short m Γ → Short m (bind x A Γ)
bind_short m x A Γ h g n l B = go (eqb n x)
  where
    go : (b : Bool) → cond b (some A) (Γ n) ≡ some B → size B ≤ m
    go true q = subst (λ (C : ScriptType). size C ≤ m) (some_inj q) h
    go false q = g n l B q

constant_size : (c : Constant) → size (constant_type c) ≡ 1
unfolding type_words
constant_size unit = refl
constant_size (bool b) = refl

arithmetic_size : (o : Arithmetic) → size (arithmetic_type o) ≡ 1
unfolding type_words
arithmetic_size add = refl
arithmetic_size subtract = refl
arithmetic_size less = refl

-- an annotation has no more words than the expression that it stands in
type_size : (m : ℕ) {Γ : Assignment} {e : Expression} {A : ScriptType} → length (words e) ≤ m → Formed e → Short m Γ
    → HasType no_world Γ e A → size A ≤ length (words e) + m
unfolding words type_words Formed
type_size m h f g (constant_rule c) = let l = constant_size c in omega arith
type_size m h f g (number_rule n) = omega arith
type_size m h f g (variable_rule {x = x} {A = A} q) = let l = g x (omega arith) A q in omega arith
type_size m h f g (location_rule q) = none≢some q
type_size m h f g (revision_rule q) = absurd q
type_size m {Γ} h f g (lambda_rule {x = x} {A = A} {B = B} {e = e} d) =
    let l = length-append (type_words A) (words e) in
    let i = type_size m (omega arith) f.1 (bind_short m x A Γ (omega arith) g) d in
    let k = length-append (type_words A) (type_words B) in
    omega arith
type_size m h f g (apply_rule {A = A} {B = B} {f = p} {a = a} d e) =
    let l = length-append (words p) (words a) in
    let i = type_size m (omega arith) f.0 g d in
    let k = length-append (type_words A) (type_words B) in
    omega arith
type_size m h f g (if_rule {a = a} {b = b} {c = c} d e r) =
    let k = length-append (words a) (words b ++ words c) in
    let l = length-append (words b) (words c) in
    let i = type_size m (omega arith) f.1 g e in
    omega arith
type_size m h f g (ref_rule d) = let i = type_size m (omega arith) f g d in omega arith
type_size m h f g (read_rule d) = let i = type_size m (omega arith) f g d in omega arith
type_size m h f g (assign_rule {a = a} {b = b} d e) = let l = length-append (words a) (words b) in omega arith
type_size m h f g (fork_rule d) = omega arith
type_size m h f g (join_rule d) = omega arith
type_size m h f g (arithmetic_rule o {a = a} {b = b} d e) =
    let k = arithmetic_size o in
    let l = length-append (words a) (words b) in
    omega arith

pub small_type : (e : Expression) (Γ : Assignment) (A : ScriptType) → length (words e) ≤ 2048 → Formed e
    → Short 2048 Γ → type_of no_world Γ e ≡ some A → Small A
small_type e Γ A h f g q = let i = type_size 2048 h f g (type_of_rules no_world Γ e A q) in omega arith

-- no subexpression has a type of over 4,096 words
not_long : (o : Option ScriptType) → ((A : ScriptType) → o ≡ some A → Small A) → long_type o ≡ false
not_long none h = refl
not_long (some A) h = le-ltb 4096 (length (type_words A)) (h A refl)

pub no_long_type : (e : Expression) (Γ : Assignment) → length (words e) ≤ 2048 → Formed e → Short 2048 Γ
    → holds_long_type Γ e ≡ false
unfolding holds_long_type words Formed
no_long_type (constant c) Γ h f g = refl
no_long_type (leaf k n) Γ h f g = not_long _ (λ A q. small_type (leaf k n) Γ A h f g q)
no_long_type (lambda x B e) Γ h f g =
    let l = length-append (type_words B) (words e) in
    let i = not_long _ (λ A q. small_type (lambda x B e) Γ A h f g q) in
    let k = no_long_type e (bind x B Γ) (omega arith) f.1 (bind_short 2048 x B Γ (omega arith) g) in
    rw (i, k) refl
no_long_type (one o e) Γ h f g =
    let i = not_long _ (λ A q. small_type (one o e) Γ A h f g q) in
    let k = no_long_type e Γ (omega arith) f g in
    rw (i, k) refl
no_long_type (two o a b) Γ h f g =
    let l = length-append (words a) (words b) in
    let i = not_long _ (λ A q. small_type (two o a b) Γ A h f g q) in
    let k = no_long_type a Γ (omega arith) f.0 g in
    let n = no_long_type b Γ (omega arith) f.1 g in
    rw (i, k, n) refl
no_long_type (if a b c) Γ h f g =
    let l = length-append (words a) (words b ++ words c) in
    let m = length-append (words b) (words c) in
    let i = not_long _ (λ A q. small_type (if a b c) Γ A h f g q) in
    let k = no_long_type a Γ (omega arith) f.0 g in
    let n = no_long_type b Γ (omega arith) f.1 g in
    let r = no_long_type c Γ (omega arith) f.2 g in
    rw (i, k, n, r) refl
