-- The search for the place of work finds the one decomposition that there is.
use Prim.Native.Nat.{ℕ}
use mathlib.Core.Bool.{true, false, cond, Bool}
use mathlib.Core.List.{[], ◌∷◌}
use mathlib.Core.Option.{none, Option, some}
use mathlib.Core.Path.{subst as along, ◌≡◌, refl, ap, ◌∙◌, sym, ap₂}
use native.Mathlib.Omega.{arith}
use lib.Dec.{T}
use Rattle.calculus.specs.Options.{◌▸◌}
use Rattle.calculus.specs.Expressions.{one, Expression, ref, Leaf, constant, leaf, lambda, two, if, read}
use Rattle.calculus.specs.Expressions.{location, fork, join, revision, apply, assign, arithmetic, number, Two}
use Rattle.calculus.specs.Expressions.{One, variable, bool, unit}
use Rattle.calculus.specs.Formed.{value}
use Rattle.calculus.specs.Stores.{plain, content}
use Rattle.calculus.specs.Redexes.{as_value, as_leaf, as_lambda, Lambda, as_truth, redex, Redex, redex_one, redex_two}
use Rattle.calculus.specs.Redexes.{redex_if, same_leaf, expression_at, making, reading, joining, applying}
use Rattle.calculus.specs.Redexes.{assigning, calculating, choosing, forking}
use Rattle.calculus.specs.Places.{place, here, fill, Frame, only, first_of, second_of, condition, Context}
use Rattle.calculus.specs.Places.{Decomposed, within, enters, present, enters_second, under, works_at, Place}
use Rattle.calculus.specs.Places.{is_value, stuck_at, or_elsewhere, plug}
use Rattle.calculus.proofs.Options.{none≢some, T→true, some_inj, ▸-some}

pub true≢false : {C : Type 0} → true ≡ false → C
true≢false e = absurd (let z : ◌≡◌ {A = ℕ} 0 1 = cc in omega arith)

as_value_none : (e : Expression) → value e ≡ false → as_value e ≡ none
as_value_none e h = rw h refl

as_leaf_none : (k : Leaf) (e : Expression) → value e ≡ false → as_leaf k e ≡ none
as_leaf_none k (constant c) h = refl
as_leaf_none k (leaf j n) h = true≢false h
as_leaf_none k (lambda x A e) h = refl
as_leaf_none k (one o e) h = refl
as_leaf_none k (two o a b) h = refl
as_leaf_none k (if a b c) h = refl

as_lambda_none : (e : Expression) → value e ≡ false → as_lambda e ≡ none
as_lambda_none (constant c) h = refl
as_lambda_none (leaf j n) h = refl
as_lambda_none (lambda x A e) h = true≢false h
as_lambda_none (one o e) h = refl
as_lambda_none (two o a b) h = refl
as_lambda_none (if a b c) h = refl

as_truth_none : (e : Expression) → value e ≡ false → as_truth e ≡ none
as_truth_none (constant c) h = true≢false h
as_truth_none (leaf j n) h = refl
as_truth_none (lambda x A e) h = refl
as_truth_none (one o e) h = refl
as_truth_none (two o a b) h = refl
as_truth_none (if a b c) h = refl

▸-none : {A B : Type 0} (m : Option A) → ◌≡◌ {A = Option B} (m ▸ λ a. none) none
▸-none none = refl
▸-none (some a) = refl

pub redex_not_value : (e : Expression) {R : Redex} → redex e ≡ some R → value e ≡ false
redex_not_value (constant c) h = none≢some h
redex_not_value (leaf j n) h = none≢some h
redex_not_value (lambda x A e) h = none≢some h
redex_not_value (one o e) h = refl
redex_not_value (two o a b) h = refl
redex_not_value (if a b c) h = refl

fill_not_value : (f : Frame) (e : Expression) → value (fill f e) ≡ false
fill_not_value (only o) e = refl
fill_not_value (first_of o b) e = refl
fill_not_value (second_of o a) e = refl
fill_not_value (condition b c) e = refl

pub decomposed_not_value : {e : Expression} {E : Context} {R : Redex} → Decomposed e E R → value e ≡ false
decomposed_not_value (here {e} h) = redex_not_value e h
decomposed_not_value (within f {e} o a) = fill_not_value f e

-- a frame that is open over a non-value is no redex
open_none : (f : Frame) (e : Expression) → T (enters f) → value e ≡ false → redex (fill f e) ≡ none
open_none (only ref) e o h = rw h refl
open_none (only read) e o h = rw (as_leaf_none location e h) refl
open_none (only fork) e o h = absurd o
open_none (only join) e o h = rw (as_leaf_none revision e h) refl
open_none (first_of apply b) e o h = rw (as_lambda_none e h) refl
open_none (first_of assign b) e o h = rw (as_leaf_none location e h) refl
open_none (first_of (arithmetic c) b) e o h = rw (as_leaf_none number e h) refl
open_none (second_of apply a) e o h = rw h (▸-none (as_lambda a))
open_none (second_of assign a) e o h = rw h (▸-none (as_leaf location a))
open_none (second_of (arithmetic c) a) e o h = rw (as_leaf_none number e h) (▸-none (as_leaf number a))
open_none (condition b c) e o h = rw (as_truth_none e h) refl

present_val : (k : Leaf) (e : Expression) → T (present (as_leaf k e)) → value e ≡ true
present_val k (constant c) t = refl
present_val k (leaf j n) t = refl
present_val k (lambda x A e) t = refl
present_val k (one o e) t = absurd t
present_val k (two o a b) t = absurd t
present_val k (if a b c) t = absurd t

left_val : (o : Two) (a : Expression) → T (enters_second o a) → value a ≡ true
left_val apply a t = T→true (value a) t
left_val assign a t = present_val location a t
left_val (arithmetic c) a t = present_val number a t

pub place_fill : (f : Frame) (e : Expression) → T (enters f) → value e ≡ false → place (fill f e) ≡ under f (place e)
unfolding place
place_fill (only o) e t h = rw (open_none (only o) e t h, h) refl
place_fill (first_of o b) e t h = rw (open_none (first_of o b) e t h, h) refl
place_fill (second_of o a) e t h =
    rw (open_none (second_of o a) e t h, left_val o a t, h, T→true (enters_second o a) t) refl
place_fill (condition b c) e t h = rw (open_none (condition b c) e t h, h) refl

pub place_here : (e : Expression) {R : Redex} → redex e ≡ some R → place e ≡ works_at [] R
unfolding place
place_here (constant c) h = none≢some h
place_here (leaf j n) h = none≢some h
place_here (lambda x A e) h = none≢some h
place_here (one o e) h = rw h refl
place_here (two o a b) h = rw h refl
place_here (if a b c) h = rw h refl

pub decomposed_place : {e : Expression} {E : Context} {R : Redex} → Decomposed e E R → place e ≡ works_at E R
decomposed_place (here {e} h) = place_here e h
decomposed_place (within f {e} t a) = place_fill f e t (decomposed_not_value a) ∙ ap (under f) (decomposed_place a)

-- the other way
under_work : (f : Frame) (p : Place) {E : Context} {R : Redex} → under f p ≡ works_at E R
    → (F : Context) × (p ≡ works_at F R) × (f ∷ F ≡ E)
under_work f is_value h = absurd (let z : ◌≡◌ {A = ℕ} 0 1 = cc in omega arith)
under_work f (works_at F Q) {E} {R} h = (F, cc, cc)
under_work f (stuck_at F e) h = absurd (let z : ◌≡◌ {A = ℕ} 0 1 = cc in omega arith)

enter : (f : Frame) (e : Expression) {E : Context} {R : Redex} → T (enters f)
    → ((F : Context) → place e ≡ works_at F R → Decomposed e F R) → under f (place e) ≡ works_at E R
    → Decomposed (fill f e) E R
enter f e {E} {R} t ih h =
    let (F, p, q) = under_work f (place e) h in
    along (λ E. Decomposed (fill f e) E R) q (within f t (ih F p))

stuck≢work : {D E : Context} {e : Expression} {R : Redex} {C : Type 0} → stuck_at D e ≡ works_at E R → C
stuck≢work h = absurd (let z : ◌≡◌ {A = ℕ} 0 1 = cc in omega arith)

value≢work : {E : Context} {R : Redex} {C : Type 0} → is_value ≡ works_at E R → C
value≢work h = absurd (let z : ◌≡◌ {A = ℕ} 0 1 = cc in omega arith)

work_here : {e : Expression} {E : Context} {Q R : Redex} → redex e ≡ some Q → works_at [] Q ≡ works_at E R
    → Decomposed e E R
work_here {e} {E} {Q} {R} p h =
    let q : [] ≡ E = cc in
    let r : Q ≡ R = cc in
    along (λ E. Decomposed e E R) q (here (rw (← r) p))

opens_one : (o : One) (e : Expression) → redex_one o e ≡ none → T (enters (only o))
opens_one ref e h = tt
opens_one read e h = tt
opens_one fork e h = none≢some (sym h)
opens_one join e h = tt

pub place_decomposed : (e : Expression) (E : Context) (R : Redex) → place e ≡ works_at E R → Decomposed e E R
unfolding place
place_decomposed (constant c) E R h = value≢work h
place_decomposed (leaf k n) E R h = value≢work h
place_decomposed (lambda x A e) E R h = value≢work h
place_decomposed (one o e) E R h = go (redex_one o e) refl (value e) h (λ F. place_decomposed e F R)
  where
    go : (m : Option Redex) → redex_one o e ≡ m → (b : Bool)
        → or_elsewhere m (cond b (stuck_at [] (one o e)) (under (only o) (place e))) ≡ works_at E R
        → ((F : Context) → place e ≡ works_at F R → Decomposed e F R) → Decomposed (one o e) E R
    go (some Q) p b h ih = work_here p h
    go none p true h ih = stuck≢work h
    go none p false h ih = enter (only o) e (opens_one o e p) ih h
place_decomposed (two o a b) E R h =
    go (redex_two o a b) refl (value a) (value b) (enters_second o a) refl h (λ F. place_decomposed a F R)
    (λ F. place_decomposed b F R)
  where
    go : (m : Option Redex) → redex_two o a b ≡ m → (u v w : Bool) → enters_second o a ≡ w
        → or_elsewhere m (cond u
        (cond v (stuck_at [] (two o a b)) (cond w (under (second_of o a) (place b)) (stuck_at [] (two o a b))))
        (under (first_of o b) (place a))) ≡ works_at E R
        → ((F : Context) → place a ≡ works_at F R → Decomposed a F R)
        → ((F : Context) → place b ≡ works_at F R → Decomposed b F R) → Decomposed (two o a b) E R
    go (some Q) p u v w q h ia ib = work_here p h
    go none p true true w q h ia ib = stuck≢work h
    go none p true false true q h ia ib = enter (second_of o a) b (rw q tt) ib h
    go none p true false false q h ia ib = stuck≢work h
    go none p false v w q h ia ib = enter (first_of o b) a tt ia h
place_decomposed (if a b c) E R h = go (redex_if a b c) refl (value a) h (λ F. place_decomposed a F R)
  where
    go : (m : Option Redex) → redex_if a b c ≡ m → (u : Bool)
        → or_elsewhere m (cond u (stuck_at [] (if a b c)) (under (condition b c) (place a))) ≡ works_at E R
        → ((F : Context) → place a ≡ works_at F R → Decomposed a F R) → Decomposed (if a b c) E R
    go (some Q) p u h ih = work_here p h
    go none p true h ih = stuck≢work h
    go none p false h ih = enter (condition b c) a tt ih h

-- a redex is what it was made from
same_leaf_is : (k j : Leaf) → same_leaf k j ≡ true → k ≡ j
same_leaf_is number number h = refl
same_leaf_is number variable h = true≢false (sym h)
same_leaf_is number location h = true≢false (sym h)
same_leaf_is number revision h = true≢false (sym h)
same_leaf_is variable number h = true≢false (sym h)
same_leaf_is variable variable h = refl
same_leaf_is variable location h = true≢false (sym h)
same_leaf_is variable revision h = true≢false (sym h)
same_leaf_is location number h = true≢false (sym h)
same_leaf_is location variable h = true≢false (sym h)
same_leaf_is location location h = refl
same_leaf_is location revision h = true≢false (sym h)
same_leaf_is revision number h = true≢false (sym h)
same_leaf_is revision variable h = true≢false (sym h)
same_leaf_is revision location h = true≢false (sym h)
same_leaf_is revision revision h = refl

pub as_leaf_some : (k : Leaf) (e : Expression) {n : ℕ} → as_leaf k e ≡ some n → leaf k n ≡ e
as_leaf_some k (constant c) h = none≢some h
as_leaf_some k (leaf j m) {n} h = go (same_leaf k j) refl h
  where
    go : (b : Bool) → same_leaf k j ≡ b → cond b (some m) none ≡ some n → leaf k n ≡ leaf j m
    go true p q = ap₂ leaf (same_leaf_is k j p) (sym (some_inj q))
    go false p q = none≢some q
as_leaf_some k (lambda x A e) h = none≢some h
as_leaf_some k (one o e) h = none≢some h
as_leaf_some k (two o a b) h = none≢some h
as_leaf_some k (if a b c) h = none≢some h

pub as_lambda_some : (e : Expression) {f : Lambda} → as_lambda e ≡ some f → lambda f.variable f.type f.body ≡ e
as_lambda_some (constant c) h = none≢some h
as_lambda_some (leaf j m) h = none≢some h
as_lambda_some (lambda x A e) h = ap (λ (f : Lambda). lambda f.variable f.type f.body) (sym (some_inj h))
as_lambda_some (one o e) h = none≢some h
as_lambda_some (two o a b) h = none≢some h
as_lambda_some (if a b c) h = none≢some h

pub as_truth_some : (e : Expression) {t : Bool} → as_truth e ≡ some t → constant (bool t) ≡ e
as_truth_some (constant unit) h = none≢some h
as_truth_some (constant (bool b)) h = ap (λ t. constant (bool t)) (sym (some_inj h))
as_truth_some (leaf j m) h = none≢some h
as_truth_some (lambda x A e) h = none≢some h
as_truth_some (one o e) h = none≢some h
as_truth_some (two o a b) h = none≢some h
as_truth_some (if a b c) h = none≢some h

pub as_value_some : (e : Expression) {v : Expression} → as_value e ≡ some v → (v ≡ e) × (value e ≡ true)
as_value_some e {v} h = go (value e) refl h
  where
    go : (b : Bool) → value e ≡ b → cond b (some e) none ≡ some v → (v ≡ e) × (value e ≡ true)
    go true p q = (sym (some_inj q), p)
    go false p q = none≢some q

pub redex_expression : (e : Expression) {R : Redex} → redex e ≡ some R → expression_at R ≡ e
redex_expression (constant c) h = none≢some h
redex_expression (leaf j n) h = none≢some h
redex_expression (lambda x A e) h = none≢some h
redex_expression (one ref e) h =
    let (v, p, q) = ▸-some (as_value e) (λ v. some (making (plain v))) h in
    ap expression_at (sym (some_inj q)) ∙ ap (one ref) (as_value_some e p).0
redex_expression (one read e) h =
    let (l, p, q) = ▸-some (as_leaf location e) (λ v. some (reading v)) h in
    ap expression_at (sym (some_inj q)) ∙ ap (one read) (as_leaf_some location e p)
redex_expression (one fork e) h = ap expression_at (sym (some_inj h))
redex_expression (one join e) h =
    let (l, p, q) = ▸-some (as_leaf revision e) (λ v. some (joining v)) h in
    ap expression_at (sym (some_inj q)) ∙ ap (one join) (as_leaf_some revision e p)
redex_expression (two apply a b) h =
    let (f, p, k) = ▸-some (as_lambda a) (λ f. as_value b ▸ λ v. some (applying f v)) h in
    let (v, q, j) = ▸-some (as_value b) (λ v. some (applying f v)) k in
    ap expression_at (sym (some_inj j)) ∙ ap₂ (two apply) (as_lambda_some a p) (as_value_some b q).0
redex_expression (two assign a b) h =
    let (l, p, k) = ▸-some (as_leaf location a) (λ f. as_value b ▸ λ v. some (assigning f v)) h in
    let (v, q, j) = ▸-some (as_value b) (λ v. some (assigning l v)) k in
    ap expression_at (sym (some_inj j)) ∙ ap₂ (two assign) (as_leaf_some location a p) (as_value_some b q).0
redex_expression (two (arithmetic o) a b) h =
    let (m, p, k) = ▸-some (as_leaf number a) (λ m. as_leaf number b ▸ λ n. some (calculating o m n)) h in
    let (n, q, j) = ▸-some (as_leaf number b) (λ n. some (calculating o m n)) k in
    ap expression_at (sym (some_inj j)) ∙ ap₂ (two (arithmetic o)) (as_leaf_some number a p) (as_leaf_some number b q)
redex_expression (if a b c) h =
    let (t, p, k) = ▸-some (as_truth a) (λ t. some (choosing t b c)) h in
    ap expression_at (sym (some_inj k)) ∙ ap (λ x. if x b c) (as_truth_some a p)

pub decomposed_plug : {e : Expression} {E : Context} {R : Redex} → Decomposed e E R → plug E (expression_at R) ≡ e
decomposed_plug (here {e} h) = redex_expression e h
decomposed_plug (within f t a) = ap (fill f) (decomposed_plug a)

-- the value that a redex holds
abbrev pub Held : Redex → Type 0
Held (applying f v) = Unit {0}
Held (choosing t b c) = Unit {0}
Held (calculating o m n) = Unit {0}
Held (making c) = T (value (content c))
Held (reading l) = Unit {0}
Held (assigning l v) = T (value v)
Held (forking e) = Unit {0}
Held (joining r) = Unit {0}

redex_held : (e : Expression) {R : Redex} → redex e ≡ some R → Held R
redex_held (constant c) h = none≢some h
redex_held (leaf k n) h = none≢some h
redex_held (lambda x A e) h = none≢some h
redex_held (one ref e) h =
    let (v, p, q) = ▸-some (as_value e) (λ v. some (making (plain v))) h in
    let (i, u) = as_value_some e p in along Held (some_inj q) (rw (i, u) tt)
redex_held (one read e) h =
    let (l, p, q) = ▸-some (as_leaf location e) (λ v. some (reading v)) h in along Held (some_inj q) tt
redex_held (one fork e) h = along Held (some_inj h) tt
redex_held (one join e) h =
    let (l, p, q) = ▸-some (as_leaf revision e) (λ v. some (joining v)) h in along Held (some_inj q) tt
redex_held (two apply a b) h =
    let (f, p, k) = ▸-some (as_lambda a) (λ f. as_value b ▸ λ v. some (applying f v)) h in
    let (v, q, j) = ▸-some (as_value b) (λ v. some (applying f v)) k in along Held (some_inj j) tt
redex_held (two assign a b) h =
    let (l, p, k) = ▸-some (as_leaf location a) (λ f. as_value b ▸ λ v. some (assigning f v)) h in
    let (v, q, j) = ▸-some (as_value b) (λ v. some (assigning l v)) k in
    let (i, u) = as_value_some b q in along Held (some_inj j) (rw (i, u) tt)
redex_held (two (arithmetic o) a b) h =
    let (m, p, k) = ▸-some (as_leaf number a) (λ m. as_leaf number b ▸ λ n. some (calculating o m n)) h in
    let (n, q, j) = ▸-some (as_leaf number b) (λ n. some (calculating o m n)) k in along Held (some_inj j) tt
redex_held (if a b c) h =
    let (t, p, k) = ▸-some (as_truth a) (λ t. some (choosing t b c)) h in along Held (some_inj k) tt

pub decomposed_held : {e : Expression} {E : Context} {R : Redex} → Decomposed e E R → Held R
decomposed_held (here {e} h) = redex_held e h
decomposed_held (within f t a) = decomposed_held a

-- there is one decomposition at most (001, unique decomposition)
pub decomposition_unique : {e : Expression} {E F : Context} {Q R : Redex} → Decomposed e E Q → Decomposed e F R
    → (E ≡ F) × (Q ≡ R)
decomposition_unique a b =
    let p = sym (decomposed_place a) ∙ decomposed_place b in (cc, cc)
