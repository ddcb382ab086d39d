-- What the tags of a node and of its children tell: a law for each way through `asks_second` and `is_redex`.
use Prim.Native.Nat.{ℕ, ◌<◌, ◌≤◌}
use mathlib.Core.Path.{◌≡◌, refl, sym, ap, ◌∙◌}
use mathlib.Core.Bool.{Bool, true, false, cond, ◌&&◌, ◌||◌}
use mathlib.Core.Logic.{◌⊎◌, inl, inr}
use native.Mathlib.Omega.{arith}
use mathlib.Core.Option.{Option, none, some}
use lib.Dec.{T, eqb, leb, ltb}
use borrow.Author.Tests.{leb-true, le-leb, lt-leb, lt-ltb, ne_eqb}
use Rattle.calculus.specs.Options.{◌▸◌}
use Rattle.calculus.specs.Expressions.{unit, bool, number, variable, location, revision, ref, read, fork, join}
use Rattle.calculus.specs.Expressions.{Arithmetic, add, subtract, less, apply, assign, arithmetic}
use Rattle.calculus.specs.Expressions.{Expression, constant, leaf, lambda, one, two, if}
use Rattle.calculus.specs.Words.{words}
use Rattle.calculus.specs.Formed.{value}
use Rattle.calculus.specs.Redexes.{Redex, applying, choosing, making, reading, assigning, joining, calculating}
use Rattle.calculus.specs.Redexes.{as_value, as_leaf, as_lambda, as_truth, redex}
use Rattle.calculus.specs.Stores.{plain}
use Rattle.calculus.specs.Places.{present}
use Rattle.words.specs.declared.tags.Tag.{Tag}
use Rattle.words.specs.declared.tags.Tag.TheVariants.{Add, Subtract, Less}
use Rattle.words.specs.Tags.{word_of}
use Rattle.place.specs.Search.{top_tag, asks_second, FirstTag, SecondTag, is_some, Asks, RedexBy}

-- what a tag tells of its expression
record Told : Type 0 where
  known : Bool
  value : Bool
  number : Bool
  location : Bool
  revision : Bool
  lambda : Bool
  truth : Bool

abbrev told_by : ℕ → Told
told_by g =
    record {
      known = leb g 17;
      value = leb g 7;
      number = eqb g 3;
      location = eqb g 5;
      revision = eqb g 6;
      lambda = eqb g 7;
      truth = eqb g 1 || eqb g 2;
    }

abbrev told : Expression → Told
told e =
    record {
      known = true;
      value = value e;
      number = present (as_leaf number e);
      location = present (as_leaf location e);
      revision = present (as_leaf revision e);
      lambda = is_some (as_lambda e);
      truth = is_some (as_truth e);
    }

tells : (e : Expression) → told_by (top_tag e) ≡ told e
unfolding top_tag words
tells (constant unit) = refl
tells (constant (bool false)) = refl
tells (constant (bool true)) = refl
tells (leaf number n) = refl
tells (leaf variable n) = refl
tells (leaf location n) = refl
tells (leaf revision n) = refl
tells (lambda x A e) = refl
tells (one ref a) = refl
tells (one read a) = refl
tells (one fork a) = refl
tells (one join a) = refl
tells (two apply a b) = refl
tells (two assign a b) = refl
tells (two (arithmetic add) a b) = refl
tells (two (arithmetic subtract) a b) = refl
tells (two (arithmetic less) a b) = refl
tells (if a b c) = refl

module _ (e : Expression) {t : ℕ} (h : t ≡ top_tag e) where
  pub told_value : leb t 7 ≡ value e
  told_value = ap (λ x. leb x 7) h ∙ ap (λ x. x.value) (tells e)

  told_number : eqb t 3 ≡ present (as_leaf number e)
  told_number = ap (λ x. eqb x 3) h ∙ ap (λ x. x.number) (tells e)

  told_location : eqb t 5 ≡ present (as_leaf location e)
  told_location = ap (λ x. eqb x 5) h ∙ ap (λ x. x.location) (tells e)

  told_revision : eqb t 6 ≡ present (as_leaf revision e)
  told_revision = ap (λ x. eqb x 6) h ∙ ap (λ x. x.revision) (tells e)

  told_lambda : eqb t 7 ≡ is_some (as_lambda e)
  told_lambda = ap (λ x. eqb x 7) h ∙ ap (λ x. x.lambda) (tells e)

  told_truth : (eqb t 1 || eqb t 2) ≡ is_some (as_truth e)
  told_truth = ap (λ x. eqb x 1 || eqb x 2) h ∙ ap (λ x. x.truth) (tells e)

  pub told_known : t < 18
  told_known =
      let l = leb-true t 17 (ap (λ x. leb x 17) h ∙ ap (λ x. x.known) (tells e)) in omega arith

  pub told_small : t ≤ 7 → value e ≡ true
  told_small l = sym told_value ∙ le-leb t 7 l

  pub told_large : 7 < t → value e ≡ false
  told_large l = sym told_value ∙ lt-leb t 7 l

-- may the second child be entered?
abbrev pub asks_by : ℕ → ℕ → Bool
asks_by g t = cond (eqb g 8) (leb t 7) (cond (eqb g 12) (eqb t 5) (ltb 14 g && eqb t 3))

asks_told : (e : Expression) (t : ℕ) → FirstTag e t → asks_by (top_tag e) t ≡ asks_second e
unfolding top_tag words
asks_told (constant unit) t h = refl
asks_told (constant (bool false)) t h = refl
asks_told (constant (bool true)) t h = refl
asks_told (leaf number n) t h = refl
asks_told (leaf variable n) t h = refl
asks_told (leaf location n) t h = refl
asks_told (leaf revision n) t h = refl
asks_told (lambda x A e) t h = refl
asks_told (one ref a) t h = refl
asks_told (one read a) t h = refl
asks_told (one fork a) t h = refl
asks_told (one join a) t h = refl
asks_told (two apply a b) t h = told_value a h
asks_told (two assign a b) t h = told_location a h
asks_told (two (arithmetic add) a b) t h = told_number a h
asks_told (two (arithmetic subtract) a b) t h = told_number a h
asks_told (two (arithmetic less) a b) t h = told_number a h
asks_told (if a b c) t h = refl

pub asks_by_lem : (g t : ℕ) {r : Bool} → r ≡ asks_by g t → Asks g t r
asks_by_lem g t q = record { answer = λ e h f. q ∙ ap (λ x. asks_by x t) h ∙ asks_told e t f }

-- any tag past 14 asks for a number first
pub asks_arithmetic : (g t : ℕ) → 14 < g → {r : Bool} → r ≡ eqb t 3 → Asks g t r
asks_arithmetic g t l q = asks_by_lem g t (q ∙ sym past)
  where
    past : asks_by g t ≡ eqb t 3
    past = rw (ne_eqb g 8 (λ e. omega arith), ne_eqb g 12 (λ e. omega arith), lt-ltb 14 g l) refl

-- is the node a redex?
abbrev pub redex_by : ℕ → ℕ → ℕ → Bool
redex_by g t u =
    cond (eqb g 8) (eqb t 7 && leb u 7)
    (cond (eqb g 9) (eqb t 1 || eqb t 2)
    (cond (eqb g 10) (leb t 7)
    (cond (eqb g 11) (eqb t 5)
    (cond (eqb g 12) (eqb t 5 && leb u 7)
    (cond (eqb g 13) true
    (cond (eqb g 14) (eqb t 6)
    (ltb 14 g && (eqb t 3 && eqb u 3))))))))

by_value : (v : Bool) (e : Expression) (f : Expression → Redex)
    → v ≡ is_some (cond v (some e) none ▸ λ x. some (f x))
by_value true e f = refl
by_value false e f = refl

by_leaf : (m : Option ℕ) (f : ℕ → Redex) → present m ≡ is_some (m ▸ λ n. some (f n))
by_leaf none f = refl
by_leaf (some n) f = refl

by_truth : (m : Option Bool) (f : Bool → Redex) → is_some m ≡ is_some (m ▸ λ t. some (f t))
by_truth none f = refl
by_truth (some t) f = refl

present_some : (m : Option ℕ) → present m ≡ is_some m
present_some none = refl
present_some (some n) = refl

module _ (u : ℕ) (b : Expression) {X : Type 0} where
  by_value₂ : (m : Option X) (f : X → Expression → Redex) → (T (is_some m) → u ≡ top_tag b)
      → (is_some m && leb u 7) ≡ is_some (m ▸ λ x. as_value b ▸ λ v. some (f x v))
  by_value₂ none f k = refl
  by_value₂ (some x) f k = told_value b (k tt) ∙ by_value (value b) b (f x)

  by_leaf₂ : (m : Option X) (f : X → ℕ → Redex) → (T (is_some m) → u ≡ top_tag b)
      → (is_some m && eqb u 3) ≡ is_some (m ▸ λ x. as_leaf number b ▸ λ n. some (f x n))
  by_leaf₂ none f k = refl
  by_leaf₂ (some x) f k = told_number b (k tt) ∙ by_leaf (as_leaf number b) (f x)

lambda_value : (e : Expression) → T (is_some (as_lambda e)) → T (value e)
lambda_value (constant c) t = tt
lambda_value (leaf k n) t = tt
lambda_value (lambda x A e) t = tt
lambda_value (one o a) t = t
lambda_value (two o a b) t = t
lambda_value (if a b c) t = t

module _ (t u : ℕ) (a b : Expression) (h : t ≡ top_tag a) where
  arithmetic_told : (o : Arithmetic) → (T (present (as_leaf number a)) → u ≡ top_tag b)
      → (eqb t 3 && eqb u 3) ≡ is_some (redex (two (arithmetic o) a b))
  arithmetic_told o k =
      let p = present_some (as_leaf number a) in
      ap (λ x. x && eqb u 3) (told_number a h ∙ p)
      ∙ by_leaf₂ u b (as_leaf number a) (calculating o) (λ y. k (rw p y))

redex_told : (e : Expression) (t u : ℕ) → FirstTag e t → SecondTag e u → redex_by (top_tag e) t u ≡ is_some (redex e)
unfolding top_tag words
redex_told (constant unit) t u h k = refl
redex_told (constant (bool false)) t u h k = refl
redex_told (constant (bool true)) t u h k = refl
redex_told (leaf number n) t u h k = refl
redex_told (leaf variable n) t u h k = refl
redex_told (leaf location n) t u h k = refl
redex_told (leaf revision n) t u h k = refl
redex_told (lambda x A e) t u h k = refl
redex_told (one ref a) t u h k = told_value a h ∙ by_value (value a) a (λ v. making (plain v))
redex_told (one read a) t u h k = told_location a h ∙ by_leaf (as_leaf location a) reading
redex_told (one fork a) t u h k = refl
redex_told (one join a) t u h k = told_revision a h ∙ by_leaf (as_leaf revision a) joining
redex_told (two apply a b) t u h k =
    ap (λ x. x && leb u 7) (told_lambda a h)
    ∙ by_value₂ u b (as_lambda a) applying (λ y. k (lambda_value a y))
redex_told (two assign a b) t u h k =
    let p = present_some (as_leaf location a) in
    ap (λ x. x && leb u 7) (told_location a h ∙ p)
    ∙ by_value₂ u b (as_leaf location a) assigning (λ y. k (rw p y))
redex_told (two (arithmetic add) a b) t u h k = arithmetic_told t u a b h add k
redex_told (two (arithmetic subtract) a b) t u h k = arithmetic_told t u a b h subtract k
redex_told (two (arithmetic less) a b) t u h k = arithmetic_told t u a b h less k
redex_told (if a b c) t u h k = told_truth a h ∙ by_truth (as_truth a) (λ t. choosing t b c)

pub redex_by_lem : (g t u : ℕ) {r : Bool} → r ≡ redex_by g t u → RedexBy g t u r
redex_by_lem g t u q = record { answer = λ e h f k. q ∙ ap (λ x. redex_by x t u) h ∙ redex_told e t u f k }

-- any tag past 14 is of a redex where both children are numbers
pub redex_arithmetic : (g t u : ℕ) → 14 < g → {r : Bool} → r ≡ (eqb t 3 && eqb u 3) → RedexBy g t u r
redex_arithmetic g t u l q = redex_by_lem g t u (q ∙ sym past)
  where
    unlike : (n : ℕ) → n ≤ 14 → eqb g n ≡ false
    unlike n h = ne_eqb g n (λ e. omega arith)

    past : redex_by g t u ≡ (eqb t 3 && eqb u 3)
    past =
        rw (
          unlike 8 (omega arith),
          unlike 9 (omega arith),
          unlike 10 (omega arith),
          unlike 11 (omega arith),
          unlike 12 (omega arith),
          unlike 13 (omega arith),
          unlike 14 (omega arith),
          lt-ltb 14 g l,
        )
        refl

-- the three arithmetic tags are those past 14
pub arithmetic_past : (g : Tag) → (g ≡ Add) ⊎ ((g ≡ Subtract) ⊎ (g ≡ Less)) → 14 < word_of g
arithmetic_past g (inl e) = rw e (omega arith)
arithmetic_past g (inr (inl e)) = rw e (omega arith)
arithmetic_past g (inr (inr e)) = rw e (omega arith)
