-- The tables of the code are the rows of calculus's tags, one by one; how much a row asks for at most.
use Prim.Native.Nat.{ℕ, zero, suc, ◌-◌, ◌<◌, ◌≤◌}
use mathlib.Core.List.{List, [], ◌∷◌, map}
use mathlib.Core.Option.{Option as Maybe, none, some}
use mathlib.Core.Path.{subst as along, ◌≡◌, refl, sym, ap, ◌∙◌}
use native.Mathlib.Omega.{arith}
use native.Mathlib.Decide.{dec_lt}
use borrow.Author.Tests.{le-leb, lt-leb, le-ltb, lt-ltb}
use lib.Dec.{ltb}
use Rattle.calculus.specs.Numbers.{choose}
use lib.ListN.{length, get_or, get_elem?}
use Rattle.std.specs.Prelude.{Option, Some, None}
use Rattle.std.proofs.lemmas.List.{get_or_default}
use Rattle.calculus.specs.Tags.{Tag, constant_tag, leaf_tag, lambda_tag, one_tag, two_tag, if_tag, tags}
use Rattle.calculus.specs.Tags.{TypeTag, basic_tag, reference_tag, function_tag, type_tags}
use Rattle.calculus.specs.Reading.{tag_of, type_tag_of}
use Rattle.calculus.proofs.Options.{none≢some}
use Rattle.words.specs.declared.table.Kind.TheVariants.{Expression, «Type» as TypeKind}
use Rattle.words.specs.declared.table.Row.{Row}
use Rattle.words.specs.Rows.{row, tag_row, type_tag_row, type_row_if, row_if, row_of}

-- the kind of a row says which table it came from
pub tag_kind : (t : Tag) → (tag_row t).kind ≡ Expression
tag_kind (constant_tag c) = refl
tag_kind (leaf_tag k) = refl
tag_kind lambda_tag = refl
tag_kind (one_tag o) = refl
tag_kind (two_tag o) = refl
tag_kind if_tag = refl

pub type_tag_kind : (t : TypeTag) → (type_tag_row t).kind ≡ TypeKind
type_tag_kind (basic_tag b) = refl
type_tag_kind reference_tag = refl
type_tag_kind function_tag = refl

-- the row in the place of a tag
tag_in : (l : List Tag) (k : ℕ) → k < length l → (d : Row) (other : Option Row)
    → Some (get_or (map tag_row l) k d) ≡ row_if (get_elem? l k) other
tag_in [] k h d other = absurd (omega arith)
tag_in (t ∷ l) zero h d other = refl
tag_in (t ∷ l) (suc k) h d other = tag_in l k (omega arith) d other

type_tag_in : (l : List TypeTag) (k : ℕ) → k < length l → (d : Row)
    → Some (get_or (map type_tag_row l) k d) ≡ type_row_if (get_elem? l k)
type_tag_in [] k h d = absurd (omega arith)
type_tag_in (t ∷ l) zero h d = refl
type_tag_in (t ∷ l) (suc k) h d = type_tag_in l k (omega arith) d

no_element : {A : Type 0} (l : List A) (k : ℕ) → length l ≤ k → get_elem? l k ≡ none
no_element [] k h = refl
no_element (a ∷ l) zero h = absurd (omega arith)
no_element (a ∷ l) (suc k) h = no_element l k (omega arith)

no_tag : (w : ℕ) → 18 ≤ w → tag_of w ≡ none
no_tag w h = no_element tags w h

no_type_tag : (w : ℕ) → w < 32 → type_tag_of w ≡ none
no_type_tag w h = rw (lt-leb 32 w h) refl

past_type_tags : (w : ℕ) → 38 ≤ w → type_tag_of w ≡ none
past_type_tags w h = rw (le-leb 32 w (omega arith)) (no_element type_tags (w - 32) (omega arith))

pub expression_row : (w : ℕ) (d : Row) → w < 18 → Some (get_or (map tag_row tags) w d) ≡ row_of w
unfolding row_of
expression_row w d h = tag_in tags w h d (type_row_if (type_tag_of w))

pub type_row : (w : ℕ) (d : Row) → 32 ≤ w → w < 38 → Some (get_or (map type_tag_row type_tags) (w - 32) d) ≡ row_of w
unfolding row_of
type_row w d l h =
    rw (no_tag w (omega arith), le-leb 32 w l) (type_tag_in type_tags (w - 32) (omega arith) d)

-- the code's two tables, written out; the code is proved by these
unfoldable pub expressions : List Row
expressions =
    row Expression None 0 0 ∷ row Expression None 0 0 ∷ row Expression None 0 0 ∷ row Expression (Some 65536) 0 0
    ∷ row Expression (Some 256) 0 0 ∷ row Expression (Some 256) 0 0 ∷ row Expression (Some 64) 0 0
    ∷ row Expression (Some 256) 1 1 ∷ row Expression None 0 2 ∷ row Expression None 0 3 ∷ row Expression None 0 1
    ∷ row Expression None 0 1 ∷ row Expression None 0 2 ∷ row Expression None 0 1 ∷ row Expression None 0 1
    ∷ row Expression None 0 2 ∷ row Expression None 0 2 ∷ row Expression None 0 2 ∷ []

unfoldable pub types : List Row
types =
    row TypeKind None 0 0 ∷ row TypeKind None 0 0 ∷ row TypeKind None 0 0 ∷ row TypeKind None 0 0
    ∷ row TypeKind None 1 0 ∷ row TypeKind None 2 0 ∷ []

-- what they have for a word: from 0 the rows of expressions, from 32 those of types
unfoldable pub table : ℕ → Option Row
table w =
    choose (ltb w 18) (Some (get_or expressions w (row Expression None 0 0)))
    (choose (ltb w 32) None (Some (get_or types (w - 32) (row TypeKind None 0 0))))

pub no_row_between : (w : ℕ) → 18 ≤ w → w < 32 → None ≡ row_of w
unfolding row_of
no_row_between w l h = rw (no_tag w l, no_type_tag w h) refl

pub no_row_past : (w : ℕ) → 38 ≤ w → None ≡ row_of w
unfolding row_of
no_row_past w h = rw (no_tag w (omega arith), past_type_tags w h) refl

-- the table has the row of each word, and none between the two kinds
pub table_row : (w : ℕ) → w < 38 → table w ≡ row_of w
unfolding table expressions types
table_row w h = go (dec_lt w 18) (dec_lt w 32)
  where
    go : Dec (w < 18) → Dec (w < 32) → table w ≡ row_of w
    go (yes l) d = rw (lt-ltb w 18 l) (expression_row w _ l)
    go (no l) (yes m) = rw (le-ltb w 18 (omega arith), lt-ltb w 32 m) (no_row_between w (omega arith) m)
    go (no l) (no m) = rw (le-ltb w 18 (omega arith), le-ltb w 32 (omega arith)) (type_row w _ (omega arith) h)

-- where the table has the row of a word: in which of the two, or in neither
pub in_expressions : (w : ℕ) (d : Row) → w < 18 → Some (get_or expressions w d) ≡ table w
unfolding table expressions
in_expressions w d h = rw (lt-ltb w 18 h) (ap Some (get_or_default expressions w d _ h))

pub in_types : (w : ℕ) (d : Row) → 32 ≤ w → w < 38 → Some (get_or types (w - 32) d) ≡ table w
unfolding table types
in_types w d l h =
    rw (le-ltb w 18 (omega arith), le-ltb w 32 l) (ap Some (get_or_default types (w - 32) d _ (omega arith)))

pub in_neither : (w : ℕ) → 18 ≤ w → w < 32 → None ≡ table w
unfolding table
in_neither w l h = rw (le-ltb w 18 l, lt-ltb w 32 h) refl

-- a word below 32 has no row of a type, a word from there on none of an expression
pub low_kind : (w : ℕ) (n : Row) → w < 32 → Some n ≡ row_of w → n.kind ≡ Expression
unfolding row_of
low_kind w n h e = go (tag_of w) (e ∙ ap (λ (u : Maybe TypeTag). row_if (tag_of w) (type_row_if u)) (no_type_tag w h))
  where
    go : (o : Maybe Tag) → Some n ≡ row_if o None → n.kind ≡ Expression
    go none e = cc
    go (some t) e = let q : tag_row t ≡ n = cc in along (λ (m : Row). m.kind ≡ Expression) q (tag_kind t)

pub high_kind : (w : ℕ) (n : Row) → 32 ≤ w → Some n ≡ row_of w → n.kind ≡ TypeKind
unfolding row_of
high_kind w n h e =
    go (type_tag_of w)
    (e ∙ ap (λ (o : Maybe Tag). row_if o (type_row_if (type_tag_of w))) (no_tag w (omega arith)))
  where
    go : (u : Maybe TypeTag) → Some n ≡ type_row_if u → n.kind ≡ TypeKind
    go none e = cc
    go (some t) e = let q : type_tag_row t ≡ n = cc in along (λ (m : Row). m.kind ≡ TypeKind) q (type_tag_kind t)

-- a tag is of one kind
pub tag_type_tag : (w : ℕ) (t : Tag) → tag_of w ≡ some t → type_tag_of w ≡ none
tag_type_tag w t e = go (dec_lt w 18)
  where
    go : Dec (w < 18) → type_tag_of w ≡ none
    go (yes h) = no_type_tag w (omega arith)
    go (no h) = none≢some (sym (no_tag w (omega arith)) ∙ e)

-- how many types and children follow at most
pub record Small (n : Row) : Type 0 where
  pub types : n.types ≤ 2
  pub children : n.children ≤ 3

small_tag : (t : Tag) → Small (tag_row t)
small_tag (constant_tag c) = record { types = omega arith; children = omega arith }
small_tag (leaf_tag k) = record { types = omega arith; children = omega arith }
small_tag lambda_tag = record { types = omega arith; children = omega arith }
small_tag (one_tag o) = record { types = omega arith; children = omega arith }
small_tag (two_tag o) = record { types = omega arith; children = omega arith }
small_tag if_tag = record { types = omega arith; children = omega arith }

small_type_tag : (t : TypeTag) → Small (type_tag_row t)
small_type_tag (basic_tag b) = record { types = omega arith; children = omega arith }
small_type_tag reference_tag = record { types = omega arith; children = omega arith }
small_type_tag function_tag = record { types = omega arith; children = omega arith }

pub small : (w : ℕ) (n : Row) → row_of w ≡ Some n → Small n
unfolding row_of
small w n e = go (tag_of w) (type_tag_of w) e
  where
    go : (o : Maybe Tag) (u : Maybe TypeTag) → row_if o (type_row_if u) ≡ Some n → Small n
    go none none e = cc
    go none (some t) e = let q : type_tag_row t ≡ n = cc in along Small q (small_type_tag t)
    go (some t) u e = let q : tag_row t ≡ n = cc in along Small q (small_tag t)
