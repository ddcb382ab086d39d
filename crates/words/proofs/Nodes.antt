-- A node ends where its types and children end, which its row counts: one law for types, one for expressions.
use Prim.Native.Nat.{ℕ, zero, suc, ◌+◌, ◌-◌, ◌<◌, ◌≤◌}
use mathlib.Core.List.{List, [], ◌∷◌, ◌++◌}
use mathlib.Core.Option.{Option as Maybe, none, some}
use mathlib.Core.Path.{◌≡◌, refl, sym, ap, ◌∙◌}
use native.Mathlib.Decide.{dec_lt}
use native.Mathlib.Numerals.{add-one}
use native.Mathlib.Omega.{arith}
use lib.Dec.{ltb, leb}
use lib.ListN.{length, get_or, drop, length-append, drop_of_length-le}
use lib.Seq.{drop-cons}
use borrow.Author.Tests.{lt-ltb, le-ltb, le-leb, lt-leb}
use Rattle.std.specs.Prelude.{Option, Some, None}
use Rattle.calculus.specs.Options.{◌▸◌, test}
use Rattle.calculus.specs.Numbers.{choose}
use Rattle.calculus.specs.Types.{ScriptType}
use Rattle.calculus.specs.Expressions.{Expression}
use Rattle.calculus.specs.Tags.{Tag, constant_tag, leaf_tag, lambda_tag, one_tag, two_tag, if_tag, largest}
use Rattle.calculus.specs.Tags.{TypeTag, basic_tag, reference_tag, function_tag}
use Rattle.calculus.specs.Words.{words, type_words}
use Rattle.calculus.specs.Reading.{read_word, tag_of, type_tag_of, read_type_parts, read_type, read_parts, read_expression}
use Rattle.calculus.specs.Reading.{type_end, end_of}
use Rattle.calculus.proofs.Options.{none≢some}
use Rattle.words.specs.declared.table.Row.{Row}
use Rattle.words.specs.declared.table.Kind.TheVariants.{Expression as ExpressionKind, «Type» as TypeKind}
use Rattle.words.specs.declared.walk.Front.{Front}
use Rattle.words.specs.Rows.{tag_row, type_tag_row, type_row_if, row_if, row_of}
use Rattle.words.specs.Walks.{front, front_of, own_front, row_front, types_end, expressions_end}
use Rattle.words.proofs.Rows.{tag_kind, type_tag_kind, tag_type_tag}
use Rattle.words.proofs.Fronts.{front_out}
use Rattle.words.proofs.Ends.{type_then, expression_then}

pub ▸-assoc : {A B C : Type 0} (m : Maybe A) (f : A → Maybe B) (g : B → Maybe C)
    → ((m ▸ f) ▸ g) ≡ (m ▸ λ a. (f a ▸ g))
▸-assoc none f g = refl
▸-assoc (some a) f g = refl

-- what is done from a right front on
abbrev pub on_front : Option Front → (Row → ℕ → Maybe ℕ) → Maybe ℕ
on_front None f = none
on_front (Some g) f = f g.row g.next

pub drop_next : (s : List ℕ) (at : ℕ) → at < length s → drop at s ≡ get_or s at 0 ∷ drop (at + 1) s
drop_next s at h = rw (add-one, drop-cons s at 0)

-- the own word, below its limit
word_then : (s : List ℕ) (p b : ℕ) (n : Row) (f : ℕ × List ℕ → Maybe ℕ) (g : Row → ℕ → Maybe ℕ)
    → ((x : ℕ) → f (x, drop (p + 1) s) ≡ g n (p + 1))
    → (read_word b (drop p s) ▸ f) ≡ on_front (own_front s n (Some (suc b)) p) g
word_then s p b n f g same = go (dec_lt p (length s))
  where
    x : ℕ
    x = get_or s p 0

    end : Option Front
    end = Some (front n (p + 1))

    small : Dec (x < suc b)
        → (test (leb x b) ▸ (λ u. some (x, drop (p + 1) s)) ▸ f) ≡ on_front (choose (ltb x (suc b)) end None) g
    small (yes h) = rw (lt-ltb x (suc b) h, le-leb x b (omega arith)) (same x)
    small (no h) = rw (le-ltb x (suc b) (omega arith), lt-leb x b (omega arith)) refl

    go : Dec (p < length s)
        → (read_word b (drop p s) ▸ f) ≡ on_front (choose (ltb p (length s)) (choose (ltb x (suc b)) end None) None) g
    go (yes h) = rw (lt-ltb p (length s) h, drop_next s p h) (small (dec_lt x (suc b)))
    go (no h) = rw (le-ltb p (length s) (omega arith), drop_of_length-le s {i = p} (omega arith)) refl

-- the end of what was read at `at`
abbrev type_end_if : ℕ → Maybe (ScriptType × List ℕ) → Maybe ℕ
type_end_if at o = o ▸ λ p. some (at + length (type_words p.0))

abbrev end_if : ℕ → Maybe (Expression × List ℕ) → Maybe ℕ
end_if at o = o ▸ λ p. some (at + length (words p.0))

-- the types of a type
abbrev pub type_parts : List ℕ → Row → ℕ → Maybe ℕ
type_parts s n p = types_end s n.types p

module _ (s : List ℕ) (at n : ℕ) (h : length s ≤ at + 1 + n) where
  type_tag : (t : TypeTag)
      → type_end_if at (read_type_parts (λ v. read_type n v) t (drop (at + 1) s))
      ≡ on_front (own_front s (type_tag_row t) (type_tag_row t).limit (at + 1)) (type_parts s)
  unfolding types_end type_words
  type_tag (basic_tag b) = refl
  type_tag reference_tag =
      ▸-assoc (read_type n (drop (at + 1) s)) _ _
      ∙ type_then s n (at + 1) _ _ h (λ A. ap some (omega arith))
  type_tag function_tag =
      ▸-assoc (read_type n (drop (at + 1) s)) _ _
      ∙ type_then s n (at + 1) _ _ h (λ A.
      ▸-assoc (read_type n (drop (at + 1 + length (type_words A)) s)) _ _
      ∙ type_then s n (at + 1 + length (type_words A)) _ _ (omega arith) (λ B.
      ap some (omega (arith, length-append (type_words A) (type_words B)))))

-- the types and then the children of an expression
abbrev pub parts : List ℕ → Row → ℕ → Maybe ℕ
parts s n p = types_end s n.types p ▸ λ e. expressions_end s n.children e

module _ (s : List ℕ) (at n : ℕ) (h : length s ≤ at + 1 + n) where
  expression_tag : (t : Tag)
      → end_if at (read_parts (λ v. read_type n v) (λ v. read_expression n v) t (drop (at + 1) s))
      ≡ on_front (own_front s (tag_row t) (tag_row t).limit (at + 1)) (parts s)
  unfolding types_end expressions_end words
  expression_tag (constant_tag c) = refl
  expression_tag (leaf_tag k) =
      ▸-assoc (read_word (largest k) (drop (at + 1) s)) _ _
      ∙ word_then s (at + 1) (largest k) (tag_row (leaf_tag k)) _ (parts s) (λ x. ap some (omega arith))
  expression_tag lambda_tag =
      ▸-assoc (read_word 255 (drop (at + 1) s)) _ _
      ∙ word_then s (at + 1) 255 (tag_row lambda_tag) _ (parts s) (λ x.
      ▸-assoc (read_type n (drop (at + 1 + 1) s)) _ _
      ∙ type_then s n (at + 1 + 1) _ (λ e. expressions_end s 1 e) (omega arith) (λ A.
      ▸-assoc (read_expression n (drop (at + 1 + 1 + length (type_words A)) s)) _ _
      ∙ expression_then s n (at + 1 + 1 + length (type_words A)) _ _ (omega arith) (λ e.
      ap some (omega (arith, length-append (type_words A) (words e)))))
      ∙ sym (▸-assoc (type_end s (at + 1 + 1)) _ _))
  expression_tag (one_tag o) =
      ▸-assoc (read_expression n (drop (at + 1) s)) _ _
      ∙ expression_then s n (at + 1) _ _ h (λ a. ap some (omega arith))
  expression_tag (two_tag o) =
      ▸-assoc (read_expression n (drop (at + 1) s)) _ _
      ∙ expression_then s n (at + 1) _ _ h (λ a.
      ▸-assoc (read_expression n (drop (at + 1 + length (words a)) s)) _ _
      ∙ expression_then s n (at + 1 + length (words a)) _ _ (omega arith) (λ b.
      ap some (omega (arith, length-append (words a) (words b)))))
  expression_tag if_tag =
      ▸-assoc (read_expression n (drop (at + 1) s)) _ _
      ∙ expression_then s n (at + 1) _ _ h (λ a.
      ▸-assoc (read_expression n (drop (at + 1 + length (words a)) s)) _ _
      ∙ expression_then s n (at + 1 + length (words a)) _ _ (omega arith) (λ b.
      ▸-assoc (read_expression n (drop (at + 1 + length (words a) + length (words b)) s)) _ _
      ∙ expression_then s n (at + 1 + length (words a) + length (words b)) _ _ (omega arith) (λ c.
      ap some (omega (arith, length-append (words a) (words b ++ words c), length-append (words b) (words c))))))

module _ (s : List ℕ) (at : ℕ) where
  abbrev tag : ℕ
  tag = get_or s at 0

  type_word : at < length s → (o : Maybe Tag) (u : Maybe TypeTag) → tag_of tag ≡ o → type_tag_of tag ≡ u
      → type_end_if at (u ▸ λ t. read_type_parts (λ v. read_type (length s - 1) v) t (drop (at + 1) s))
      ≡ on_front (row_front s TypeKind (row_if o (type_row_if u)) (at + 1)) (type_parts s)
  type_word h none none e f = refl
  type_word h none (some t) e f = rw (type_tag_kind t) (type_tag s at (length s - 1) (omega arith) t)
  type_word h (some t) none e f = rw (tag_kind t) refl
  type_word h (some t) (some u) e f = none≢some (sym (tag_type_tag tag t e) ∙ f)

  abbrev read_parts_after : Tag → Maybe (Expression × List ℕ)
  read_parts_after t =
      read_parts (λ v. read_type (length s - 1) v) (λ v. read_expression (length s - 1) v) t (drop (at + 1) s)

  expression_word : at < length s → (o : Maybe Tag) (u : Maybe TypeTag)
      → end_if at (o ▸ λ t. read_parts_after t)
      ≡ on_front (row_front s ExpressionKind (row_if o (type_row_if u)) (at + 1)) (parts s)
  expression_word h none none = refl
  expression_word h none (some u) = rw (type_tag_kind u) refl
  expression_word h (some t) u = rw (tag_kind t) (expression_tag s at (length s - 1) (omega arith) t)

  no_type : (n : ℕ) → read_type n [] ≡ none
  unfolding read_type
  no_type zero = refl
  no_type (suc n) = refl

  no_expression : (n : ℕ) → read_expression n [] ≡ none
  unfolding read_expression
  no_expression zero = refl
  no_expression (suc n) = refl

  more : at < length s → length s ≡ suc (length s - 1)
  more h = omega arith

  pub type_node : type_end s at ≡ on_front (front_of s TypeKind at) (type_parts s)
  unfolding type_end front_of row_of read_type
  type_node = go (dec_lt at (length s))
    where
      go : Dec (at < length s) → type_end s at ≡ on_front (front_of s TypeKind at) (type_parts s)
      go (yes h) =
          ap (λ n. type_end_if at (read_type n (drop at s))) (more h)
          ∙ rw (drop_next s at h, lt-ltb at (length s) h) (type_word h (tag_of tag) (type_tag_of tag) refl refl)
      go (no h) =
          let out : length s ≤ at = omega arith in
          rw (drop_of_length-le s out, no_type (length s), ← front_out s TypeKind at out) refl

  pub expression_node : end_of s at ≡ on_front (front_of s ExpressionKind at) (parts s)
  unfolding end_of front_of row_of read_expression
  expression_node = go (dec_lt at (length s))
    where
      go : Dec (at < length s) → end_of s at ≡ on_front (front_of s ExpressionKind at) (parts s)
      go (yes h) =
          ap (λ n. end_if at (read_expression n (drop at s))) (more h)
          ∙ rw (drop_next s at h, lt-ltb at (length s) h) (expression_word h (tag_of tag) (type_tag_of tag))
      go (no h) =
          let out : length s ≤ at = omega arith in
          rw (drop_of_length-le s out, no_expression (length s), ← front_out s ExpressionKind at out) refl
