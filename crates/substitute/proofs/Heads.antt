-- An expression as its head (tag, own word, type) and its children, in words and in substitution; and the head read.
use Prim.Native.Nat.{ℕ, ◌+◌, ◌<◌, ◌≤◌}
use mathlib.Core.Path.{◌≡◌, refl, sym, ap, ◌∙◌}
use mathlib.Core.Bool.{false}
use Rattle.std.specs.Prelude.{Some, None}
use mathlib.Core.List.{List, [], ◌∷◌, ◌++◌, append-nil}
use mathlib.Core.Option.{some}
use native.Mathlib.Omega.{arith}
use lib.ListN.{length, get_or}
use borrow.Author.Tests.{ne_eqb}
use Rattle.calculus.specs.Types.{ScriptType}
use Rattle.calculus.specs.Expressions.{number, variable, location, revision}
use Rattle.calculus.specs.Expressions.{Expression, constant, leaf, lambda, one, two, if}
use Rattle.calculus.specs.Tags.{Tag, constant_tag, leaf_tag, lambda_tag, one_tag, two_tag, if_tag, tag_word}
use Rattle.calculus.specs.Words.{words, type_words}
use Rattle.calculus.specs.Formed.{Formed}
use Rattle.calculus.specs.Reading.{tag_of}
use Rattle.calculus.specs.Substitution.{substituted}
use Rattle.calculus.proofs.Options.{some_inj}
use Rattle.calculus.proofs.Reading.{tag_of_tag_word}
use Rattle.words.specs.declared.table.Kind.TheVariants.{Expression as ExpressionKind}
use Rattle.words.specs.Rows.{tag_row}
use Rattle.words.specs.Walks.{front_of, front, types_end}
use Rattle.words.specs.Names.{all_words, AllFormed}
use Rattle.words.proofs.TagFronts.{bare_front, fine_front}
use Rattle.words.proofs.Ends.{end_type_words}
use Rattle.words.proofs.Pending.{one_type_lem}
use Rattle.words.proofs.Standing.{head_tag, below}
use Rattle.image.specs.Standing.{Stands}
use Rattle.image.proofs.Standing.{headed, stands_left}
use Rattle.substitute.specs.Substitutes.{all_substituted, Named}

-- the words before the children
abbrev pub head : Expression → List ℕ
head (constant c) = tag_word (constant_tag c) ∷ []
head (leaf k n) = tag_word (leaf_tag k) ∷ n ∷ []
head (lambda x A e) = tag_word lambda_tag ∷ x ∷ type_words A
head (one o e) = tag_word (one_tag o) ∷ []
head (two o a b) = tag_word (two_tag o) ∷ []
head (if a b c) = tag_word if_tag ∷ []

abbrev pub children : Expression → List Expression
children e = below e []

pub head_long : (e : Expression) → 1 ≤ length (head e)
head_long (constant c) = omega arith
head_long (leaf k n) = omega arith
head_long (lambda x A e) = omega arith
head_long (one o e) = omega arith
head_long (two o a b) = omega arith
head_long (if a b c) = omega arith

pub head_words_lem : (e : Expression) → words e ≡ head e ++ all_words (children e)
unfolding words all_words
head_words_lem (constant c) = refl
head_words_lem (leaf k n) = refl
head_words_lem (lambda x A e) = simp append-nil
head_words_lem (one o e) = simp append-nil
head_words_lem (two o a b) = simp append-nil
head_words_lem (if a b c) = simp append-nil

pub children_formed : (e : Expression) → Formed e → AllFormed (children e)
unfolding Formed AllFormed
children_formed (constant c) f = tt
children_formed (leaf k n) f = tt
children_formed (lambda x A e) f = (f.1, tt)
children_formed (one o e) f = (f, tt)
children_formed (two o a b) f = (f.0, (f.1, tt))
children_formed (if a b c) f = (f.0, (f.1, (f.2, tt)))

pub children_count : (e : Expression) → length (children e) ≡ (tag_row (head_tag e)).children
children_count (constant c) = refl
children_count (leaf k n) = refl
children_count (lambda x A e) = refl
children_count (one o e) = refl
children_count (two o a b) = refl
children_count (if a b c) = refl

-- neither the variable x nor a lambda of it
abbrev pub Other : ℕ → Expression → Type 0
Other x (constant c) = Unit {0}
Other x (leaf number n) = Unit {0}
Other x (leaf variable n) = n ≡ x → ⊥
Other x (leaf location n) = Unit {0}
Other x (leaf revision n) = Unit {0}
Other x (lambda y A e) = y ≡ x → ⊥
Other x (one o e) = Unit {0}
Other x (two o a b) = Unit {0}
Other x (if a b c) = Unit {0}

-- substitution leaves such a head as it is and goes into the children
pub head_substituted : (x : ℕ) (v e : Expression) → Other x e
    → words (substituted x v e) ≡ head e ++ all_words (all_substituted x v (children e))
unfolding words all_words substituted all_substituted
head_substituted x v (constant c) h = refl
head_substituted x v (leaf number n) h = refl
head_substituted x v (leaf variable n) h = rw (ne_eqb n x h) refl
head_substituted x v (leaf location n) h = refl
head_substituted x v (leaf revision n) h = refl
head_substituted x v (lambda y A e) h = rw (ne_eqb y x h) (simp append-nil)
head_substituted x v (one o e) h = simp append-nil
head_substituted x v (two o a b) h = simp append-nil
head_substituted x v (if a b c) h = simp append-nil

-- a tree's first word is its tag
pub first_word : {s : List ℕ} {at : ℕ} (e : Expression) → Stands s at (words e)
    → get_or s at 0 ≡ tag_word (head_tag e)
unfolding words
first_word (constant c) h = (headed h).is
first_word (leaf k n) h = (headed h).is
first_word (lambda x A e) h = (headed h).is
first_word (one o e) h = (headed h).is
first_word (two o a b) h = (headed h).is
first_word (if a b c) h = (headed h).is

-- a tree that is neither by its words
pub other : (s : List ℕ) (at x : ℕ) (e : Expression) → Stands s at (words e)
    → Named s at 4 x false → Named s at 7 x false → Other x e
unfolding words
other s at x (constant c) h f g = tt
other s at x (leaf number n) h f g = tt
other s at x (leaf variable n) h f g = λ e. f (headed h).is ((headed (headed h).more).is ∙ e)
other s at x (leaf location n) h f g = tt
other s at x (leaf revision n) h f g = tt
other s at x (lambda y A e) h f g = λ e. g (headed h).is ((headed (headed h).more).is ∙ e)
other s at x (one o e) h f g = tt
other s at x (two o a b) h f g = tt
other s at x (if a b c) h f g = tt

-- the tree of a tag
tag_same : (t u : Tag) → tag_word t ≡ tag_word u → t ≡ u
tag_same t u e = some_inj (sym (tag_of_tag_word t) ∙ ap tag_of e ∙ tag_of_tag_word u)

pub lambda_tagged : (e : Expression) → tag_word (head_tag e) ≡ 7
    → (y : ℕ) × (A : ScriptType) × (d : Expression) × (e ≡ lambda y A d)
lambda_tagged (constant c) h =
    let t = tag_same (constant_tag c) lambda_tag h in cc
lambda_tagged (leaf k n) h =
    let t = tag_same (leaf_tag k) lambda_tag h in cc
lambda_tagged (lambda y A d) h = (y, A, d, refl)
lambda_tagged (one o e) h =
    let t = tag_same (one_tag o) lambda_tag h in cc
lambda_tagged (two o a b) h =
    let t = tag_same (two_tag o) lambda_tag h in cc
lambda_tagged (if a b c) h =
    let t = tag_same if_tag lambda_tag h in cc

-- the front and the types of a tree that stands at `at`
tag_there : {w : ℕ} (t : Tag) → w ≡ tag_word t → tag_of w ≡ some t
tag_there t e = ap tag_of e ∙ tag_of_tag_word t

bare : (s : List ℕ) (at : ℕ) (t : Tag) (ws : List ℕ) → Stands s at (tag_word t ∷ ws) → (tag_row t).limit ≡ None
    → front_of s ExpressionKind at ≡ Some (front (tag_row t) (at + 1))
bare s at t ws h l = let g = headed h in bare_front s at g.inside t (tag_there t g.is) l

owned : (s : List ℕ) (at : ℕ) (t : Tag) (n b : ℕ) (ws : List ℕ) → Stands s at (tag_word t ∷ n ∷ ws)
    → (tag_row t).limit ≡ Some b → n < b → front_of s ExpressionKind at ≡ Some (front (tag_row t) (at + 1 + 1))
owned s at t n b ws h z l =
    let g = headed h in
    let k = headed g.more in
    fine_front s at g.inside t (tag_there t g.is) b z k.inside (omega (arith, k.is))

pub record Met (s : List ℕ) (at : ℕ) (e : Expression) : Type 0 where
  pub next : ℕ
  pub front : front_of s ExpressionKind at ≡ Some (front (tag_row (head_tag e)) next)
  pub types : types_end s (tag_row (head_tag e)).types next ≡ some (at + length (head e))

pub met : (s : List ℕ) (at : ℕ) (e : Expression) → Formed e → Stands s at (words e) → Met s at e
unfolding words Formed types_end
met s at (constant c) f h =
    record { next = at + 1; front = bare s at (constant_tag c) [] h refl; types = refl }
met s at (leaf k n) f h =
    record {
      next = at + 1 + 1;
      front = owned s at (leaf_tag k) n _ [] h refl (omega arith);
      types = ap some (omega arith);
    }
met s at (lambda x A e) f h =
    let more = (headed (headed h).more).more in
    let it = stands_left (type_words A) (words e) more in
    record {
      next = at + 1 + 1;
      front = owned s at lambda_tag x _ (type_words A ++ words e) h refl (omega (arith, f.0));
      types
          = one_type_lem s (at + 1 + 1)
          ∙ end_type_words A s it.rest (at + 1 + 1) it.eq
          ∙ ap some (omega arith);
    }
met s at (one o e) f h =
    record { next = at + 1; front = bare s at (one_tag o) (words e) h refl; types = refl }
met s at (two o a b) f h =
    record { next = at + 1; front = bare s at (two_tag o) (words a ++ words b) h refl; types = refl }
met s at (if a b c) f h =
    record { next = at + 1; front = bare s at if_tag (words a ++ (words b ++ words c)) h refl; types = refl }
