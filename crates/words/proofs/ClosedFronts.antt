-- Where an expression ends whose free variables are marked, by the node that `node_at` sees.
use Prim.Native.Nat.{ℕ, suc, ◌+◌, ◌<◌, ◌≤◌}
use mathlib.Core.Bool.{Bool, true, false}
use mathlib.Core.List.{List}
use mathlib.Core.Option.{Option as Maybe, none, some}
use mathlib.Core.Path.{◌≡◌, refl, sym, ap, ◌∙◌, subst as along}
use native.Mathlib.Decide.{dec_lt}
use native.Mathlib.Omega.{arith}
use lib.Dec.{eqb}
use lib.ListN.{length, get_or, drop, set}
use borrow.Author.Tests.{eq-eqb, ne_eqb}
use Rattle.std.specs.Prelude.{Option, Some, None}
use Rattle.calculus.specs.Options.{◌▸◌, test}
use Rattle.calculus.specs.Expressions.{Leaf, number, variable, location, revision, leaf}
use Rattle.calculus.specs.Tags.{Tag, constant_tag, leaf_tag, lambda_tag, one_tag, two_tag, if_tag, largest}
use Rattle.calculus.specs.Words.{words, type_words}
use Rattle.calculus.specs.Reading.{type_end, read_type, read_expression, tag_of}
use Rattle.calculus.proofs.Options.{some_inj, ▸-some}
use Rattle.calculus.proofs.Reading.{tag_word_tag_of}
use Rattle.words.specs.declared.closed.Node.{Node}
use Rattle.words.specs.declared.closed.Node.TheVariants.{Plain, Variable, Binder}
use Rattle.words.specs.declared.table.Kind.TheVariants.{Expression as ExpressionKind}
use Rattle.words.specs.Rows.{tag_row}
use Rattle.words.specs.Walks.{front, front_of}
use Rattle.words.specs.Scopes.{closed_under, closed_end, node_if, node_of, binder_if}
use Rattle.words.proofs.Fronts.{front_out}
use Rattle.words.proofs.TagFronts.{untagged_front, bare_front, short_front, fine_front, over_front}
use Rattle.words.proofs.ClosedReading.{read_past, read_node, own_over, own_past}
use Rattle.words.proofs.ClosedNodes.{closed_ends, end_if, parts, end_one, end_two, end_if_lem, end_leaf, end_lambda}

-- where the expression ends whose node is this one
abbrev pub node_end : List ℕ → List Bool → Option Node → Maybe ℕ
node_end s scope (Some (Plain k next)) = closed_ends s scope k next
node_end s scope (Some (Variable x next)) = test (get_or scope x false) ▸ λ u. some next
node_end s scope (Some (Binder x body)) = closed_end s (set scope x true) body
node_end s scope None = none

binder_end : (s : List ℕ) (scope : List Bool) (x : ℕ) (m : Maybe ℕ)
    → (m ▸ λ b. closed_end s (set scope x true) b) ≡ node_end s scope (binder_if x m)
binder_end s scope x none = refl
binder_end s scope x (some b) = refl

abbrev is_variable : Tag → Bool
is_variable (constant_tag c) = false
is_variable (leaf_tag number) = false
is_variable (leaf_tag variable) = true
is_variable (leaf_tag location) = false
is_variable (leaf_tag revision) = false
is_variable lambda_tag = false
is_variable (one_tag o) = false
is_variable (two_tag o) = false
is_variable if_tag = false

-- the own word that a node with a tag wants
data Own (s : List ℕ) (next b : ℕ) : Type 0 where
  fits : next < length s → get_or s next 0 ≤ b → Own s next b
  over : next < length s → b < get_or s next 0 → Own s next b
  past : length s ≤ next → Own s next b

own : (s : List ℕ) (next b : ℕ) → Own s next b
own s next b = go (dec_lt next (length s)) (dec_lt b (get_or s next 0))
  where
    go : Dec (next < length s) → Dec (b < get_or s next 0) → Own s next b
    go (yes h) (yes k) = over h k
    go (yes h) (no k) = fits h (omega arith)
    go (no h) d = past (omega arith)

module _ (s : List ℕ) (at : ℕ) (h : at < length s) where
  module _ (t : Tag) (e : tag_of (get_or s at 0) ≡ some t) where
    not_variable : is_variable t ≡ false → eqb (get_or s at 0) 4 ≡ false
    not_variable d =
        ne_eqb (get_or s at 0) 4 λ q.
        let v : is_variable t ≡ true = ap is_variable (some_inj (sym e ∙ ap tag_of q)) in cc

    plain : is_variable t ≡ false → (tag_row t).limit ≡ None → (tag_row t).types ≡ 0
        → node_of s at ≡ Some (Plain (tag_row t).children (at + 1))
    unfolding node_of
    plain d l z =
        ap (node_if s at) (bare_front s at h t e l) ∙ rw (eq-eqb (tag_row t).types 0 z, not_variable d) refl

    end_tag : (scope : List Bool) → closed_end s scope at ≡ (parts s scope at t ▸ end_if scope at)
    unfolding closed_end
    end_tag scope = rw (read_node s at h, e) refl

    -- the own word is below the limit, or the node is none
    module _ (b : ℕ) (l : (tag_row t).limit ≡ Some (suc b)) where
      front_own : at + 1 < length s → get_or s (at + 1) 0 ≤ b
          → front_of s ExpressionKind at ≡ Some (front (tag_row t) (at + 1 + 1))
      front_own i o = fine_front s at h t e (suc b) l i (omega arith)

      wrong_over : at + 1 < length s → b < get_or s (at + 1) 0 → node_of s at ≡ None
      unfolding node_of
      wrong_over i o = ap (node_if s at) (over_front s at h t e (suc b) l i (omega arith))

      wrong_past : length s ≤ at + 1 → node_of s at ≡ None
      unfolding node_of
      wrong_past i = ap (node_if s at) (short_front s at h t e (suc b) l i)

  -- a leaf
  plain_leaf : (k : Leaf) → tag_of (get_or s at 0) ≡ some (leaf_tag k) → is_variable (leaf_tag k) ≡ false
      → at + 1 < length s → get_or s (at + 1) 0 ≤ largest k → node_of s at ≡ Some (Plain 0 (at + 1 + 1))
  unfolding node_of
  plain_leaf k e d i o =
      ap (node_if s at) (front_own (leaf_tag k) e (largest k) refl i o) ∙ rw (not_variable (leaf_tag k) e d) refl

  variable_leaf : tag_of (get_or s at 0) ≡ some (leaf_tag variable) → at + 1 < length s → get_or s (at + 1) 0 ≤ 255
      → node_of s at ≡ Some (Variable (get_or s (at + 1) 0) (at + 1 + 1))
  unfolding node_of
  variable_leaf e i o =
      ap (node_if s at) (front_own (leaf_tag variable) e 255 refl i o)
      ∙ rw (eq-eqb (get_or s at 0) 4 (sym (tag_word_tag_of (get_or s at 0) e))) refl

  binder : tag_of (get_or s at 0) ≡ some lambda_tag → at + 1 < length s → get_or s (at + 1) 0 ≤ 255
      → node_of s at ≡ binder_if (get_or s (at + 1) 0) (type_end s (at + 1 + 1))
  unfolding node_of
  binder e i o = ap (node_if s at) (front_own lambda_tag e 255 refl i o)

  module _ (scope : List Bool) where
    leaf_end : (k : Leaf) → tag_of (get_or s at 0) ≡ some (leaf_tag k)
        → (at + 1 < length s → get_or s (at + 1) 0 ≤ largest k
        → (test (closed_under scope (leaf k (get_or s (at + 1) 0))) ▸ λ u. some (at + 1 + 1))
        ≡ node_end s scope (node_of s at))
        → closed_end s scope at ≡ node_end s scope (node_of s at)
    leaf_end k e same = go (own s (at + 1) (largest k))
      where
        go : Own s (at + 1) (largest k) → closed_end s scope at ≡ node_end s scope (node_of s at)
        go (fits i o) = end_tag (leaf_tag k) e scope ∙ end_leaf s scope at i k o ∙ same i o
        go (over i o) =
            end_tag (leaf_tag k) e scope
            ∙ rw (own_over s (at + 1) (largest k) i o, wrong_over (leaf_tag k) e (largest k) refl i o) refl
        go (past i) =
            end_tag (leaf_tag k) e scope
            ∙ rw (own_past s (at + 1) (largest k) i, wrong_past (leaf_tag k) e (largest k) refl i) refl

    lambda_end : tag_of (get_or s at 0) ≡ some lambda_tag → closed_end s scope at ≡ node_end s scope (node_of s at)
    lambda_end e = go (own s (at + 1) 255)
      where
        go : Own s (at + 1) 255 → closed_end s scope at ≡ node_end s scope (node_of s at)
        go (fits i o) =
            end_tag lambda_tag e scope
            ∙ end_lambda s scope at i o
            ∙ binder_end s scope (get_or s (at + 1) 0) (type_end s (at + 1 + 1))
            ∙ ap (node_end s scope) (sym (binder e i o))
        go (over i o) =
            end_tag lambda_tag e scope
            ∙ rw (own_over s (at + 1) 255 i o, wrong_over lambda_tag e 255 refl i o) refl
        go (past i) =
            end_tag lambda_tag e scope ∙ rw (own_past s (at + 1) 255 i, wrong_past lambda_tag e 255 refl i) refl

    untagged : tag_of (get_or s at 0) ≡ none → closed_end s scope at ≡ node_end s scope (node_of s at)
    unfolding closed_end node_of
    untagged e = rw (read_node s at h, e, untagged_front s at h e) refl

    tag_end : (t : Tag) → tag_of (get_or s at 0) ≡ some t → closed_end s scope at ≡ node_end s scope (node_of s at)
    unfolding closed_ends closed_under words
    tag_end (constant_tag c) e =
        end_tag (constant_tag c) e scope
        ∙ sym (ap (node_end s scope) (plain (constant_tag c) e refl refl refl))
    tag_end (leaf_tag number) e =
        leaf_end number e λ i o. sym (ap (node_end s scope) (plain_leaf number e refl i o))
    tag_end (leaf_tag variable) e = leaf_end variable e λ i o. sym (ap (node_end s scope) (variable_leaf e i o))
    tag_end (leaf_tag location) e =
        leaf_end location e λ i o. sym (ap (node_end s scope) (plain_leaf location e refl i o))
    tag_end (leaf_tag revision) e =
        leaf_end revision e λ i o. sym (ap (node_end s scope) (plain_leaf revision e refl i o))
    tag_end lambda_tag e = lambda_end e
    tag_end (one_tag o) e =
        end_tag (one_tag o) e scope
        ∙ end_one s scope at o
        ∙ sym (ap (node_end s scope) (plain (one_tag o) e refl refl refl))
    tag_end (two_tag o) e =
        end_tag (two_tag o) e scope
        ∙ end_two s scope at o
        ∙ sym (ap (node_end s scope) (plain (two_tag o) e refl refl refl))
    tag_end if_tag e =
        end_tag if_tag e scope
        ∙ end_if_lem s scope at
        ∙ sym (ap (node_end s scope) (plain if_tag e refl refl refl))

    inside : closed_end s scope at ≡ node_end s scope (node_of s at)
    inside = go (tag_of (get_or s at 0)) refl
      where
        go : (o : Maybe Tag) → tag_of (get_or s at 0) ≡ o → closed_end s scope at ≡ node_end s scope (node_of s at)
        go none e = untagged e
        go (some t) e = tag_end t e

outside : (s : List ℕ) (scope : List Bool) (at : ℕ) → length s ≤ at
    → closed_end s scope at ≡ node_end s scope (node_of s at)
unfolding closed_end node_of
outside s scope at h = rw (read_past s at h, ← front_out s ExpressionKind at h) refl

pub node_end_lem : (s : List ℕ) (scope : List Bool) (at : ℕ) → closed_end s scope at ≡ node_end s scope (node_of s at)
node_end_lem s scope at = go (dec_lt at (length s))
  where
    go : Dec (at < length s) → closed_end s scope at ≡ node_end s scope (node_of s at)
    go (yes h) = inside s at h scope
    go (no h) = outside s scope at (omega arith)

-- what a right node says: it stands within the words, it takes some of them, and what it asks for is small
pub record PlainAt (s : List ℕ) (at k next : ℕ) : Type 0 where
  pub within : at < length s
  pub low : at + 1 ≤ next
  pub few : k ≤ 3

pub record NameAt (s : List ℕ) (at x next : ℕ) : Type 0 where
  pub within : at < length s
  pub low : at + 1 ≤ next
  pub small : x < 256

abbrev Seen : List ℕ → ℕ → Option Node → Type 0
Seen s at (Some (Plain k next)) = PlainAt s at k next
Seen s at (Some (Variable x next)) = NameAt s at x next
Seen s at (Some (Binder x body)) = NameAt s at x body
Seen s at None = Unit {0}

type_low : (s : List ℕ) (at e : ℕ) → type_end s at ≡ some e → at ≤ e
unfolding type_end
type_low s at e q =
    let (p, r, f) = ▸-some (read_type (length s) (drop at s)) (λ p. some (at + length (type_words p.0))) q in
    let i = some_inj f in
    omega arith

pub closed_low : (s : List ℕ) (scope : List Bool) (at e : ℕ) → closed_end s scope at ≡ some e → at ≤ e
unfolding closed_end
closed_low s scope at e q =
    let (p, r, f) = ▸-some (read_expression (length s) (drop at s)) (end_if scope at) q in
    let (u, t, g) = ▸-some (test (closed_under scope p.0)) (λ u. some (at + length (words p.0))) f in
    let i = some_inj g in
    omega arith

module _ (s : List ℕ) (at : ℕ) (h : at < length s) where
  seen_bare : (t : Tag) → tag_of (get_or s at 0) ≡ some t → is_variable t ≡ false → (tag_row t).limit ≡ None → (tag_row t).types ≡ 0 → (tag_row t).children ≤ 3 → Seen s at (node_of s at)
  seen_bare t e d l z c =
      rw (plain s at h t e d l z) (record { within = h; low = omega arith; few = c })

  seen_leaf : (k : Leaf) → tag_of (get_or s at 0) ≡ some (leaf_tag k)
      → (at + 1 < length s → get_or s (at + 1) 0 ≤ largest k → Seen s at (node_of s at)) → Seen s at (node_of s at)
  seen_leaf k e f = go (own s (at + 1) (largest k))
    where
      go : Own s (at + 1) (largest k) → Seen s at (node_of s at)
      go (fits i o) = f i o
      go (over i o) = rw (wrong_over s at h (leaf_tag k) e (largest k) refl i o) tt
      go (past i) = rw (wrong_past s at h (leaf_tag k) e (largest k) refl i) tt

  seen_plain_leaf : (k : Leaf) → tag_of (get_or s at 0) ≡ some (leaf_tag k) → is_variable (leaf_tag k) ≡ false
      → Seen s at (node_of s at)
  seen_plain_leaf k e d =
      seen_leaf k e λ i o.
      rw (plain_leaf s at h k e d i o) (record { within = h; low = omega arith; few = omega arith })

  seen_lambda : tag_of (get_or s at 0) ≡ some lambda_tag → Seen s at (node_of s at)
  seen_lambda e = go (own s (at + 1) 255)
    where
      typed : (m : Maybe ℕ) → type_end s (at + 1 + 1) ≡ m → get_or s (at + 1) 0 ≤ 255
          → Seen s at (binder_if (get_or s (at + 1) 0) m)
      typed none q o = tt
      typed (some b) q o =
          record { within = h; low = omega (arith, type_low s (at + 1 + 1) b q); small = omega arith }

      go : Own s (at + 1) 255 → Seen s at (node_of s at)
      go (fits i o) = rw (binder s at h e i o) (typed (type_end s (at + 1 + 1)) refl o)
      go (over i o) = rw (wrong_over s at h lambda_tag e 255 refl i o) tt
      go (past i) = rw (wrong_past s at h lambda_tag e 255 refl i) tt

  seen_tag : (t : Tag) → tag_of (get_or s at 0) ≡ some t → Seen s at (node_of s at)
  seen_tag (constant_tag c) e =
      seen_bare (constant_tag c) e refl refl refl (omega arith)
  seen_tag (leaf_tag number) e = seen_plain_leaf number e refl
  seen_tag (leaf_tag variable) e =
      seen_leaf variable e λ i o.
      rw (variable_leaf s at h e i o) (record { within = h; low = omega arith; small = omega arith })
  seen_tag (leaf_tag location) e = seen_plain_leaf location e refl
  seen_tag (leaf_tag revision) e = seen_plain_leaf revision e refl
  seen_tag lambda_tag e = seen_lambda e
  seen_tag (one_tag o) e =
      seen_bare (one_tag o) e refl refl refl (omega arith)
  seen_tag (two_tag o) e =
      seen_bare (two_tag o) e refl refl refl (omega arith)
  seen_tag if_tag e = seen_bare if_tag e refl refl refl (omega arith)

  seen_inside : Seen s at (node_of s at)
  unfolding node_of
  seen_inside = go (tag_of (get_or s at 0)) refl
    where
      go : (o : Maybe Tag) → tag_of (get_or s at 0) ≡ o → Seen s at (node_of s at)
      go none e = rw (untagged_front s at h e) tt
      go (some t) e = seen_tag t e

seen : (s : List ℕ) (at : ℕ) → Seen s at (node_of s at)
unfolding node_of
seen s at = go (dec_lt at (length s))
  where
    go : Dec (at < length s) → Seen s at (node_of s at)
    go (yes h) = seen_inside s at h
    go (no h) = rw (sym (front_out s ExpressionKind at (omega arith))) tt

module _ (s : List ℕ) (at : ℕ) (v : Node) (q : Some v ≡ node_of s at) where
  pub plain_at : (k next : ℕ) → v ≡ Plain k next → PlainAt s at k next
  plain_at k next e = along (Seen s at) (sym q ∙ ap Some e) (seen s at)

  pub variable_at : (x next : ℕ) → v ≡ Variable x next → NameAt s at x next
  variable_at x next e = along (Seen s at) (sym q ∙ ap Some e) (seen s at)

  pub binder_at : (x body : ℕ) → v ≡ Binder x body → NameAt s at x body
  binder_at x body e = along (Seen s at) (sym q ∙ ap Some e) (seen s at)
