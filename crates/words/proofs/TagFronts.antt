-- The front of a node by its tag: a bare one, one whose own word is fine, over its limit or missing, and no tag.
use Prim.Native.Nat.{ℕ, ◌+◌, ◌<◌, ◌≤◌}
use mathlib.Core.Bool.{true}
use mathlib.Core.List.{List}
use mathlib.Core.Option.{Option as Maybe, none, some}
use mathlib.Core.Path.{◌≡◌, refl, sym, ap}
use lib.ListN.{length, get_or}
use Rattle.std.specs.Prelude.{Some, None}
use Rattle.calculus.specs.Tags.{Tag, TypeTag}
use Rattle.calculus.specs.Reading.{tag_of, type_tag_of}
use Rattle.words.specs.declared.table.Kind.{Kind}
use Rattle.words.specs.declared.table.Kind.TheVariants.{Expression as ExpressionKind}
use Rattle.words.specs.Rows.{tag_row, type_tag_row, type_row_if, row_if, row_of}
use Rattle.words.specs.Walks.{front, front_of, is_kind}
use Rattle.words.proofs.Rows.{tag_kind, type_tag_kind}
use Rattle.words.proofs.Fronts.{front_untagged, front_other, front_bare, front_short, front_fine, front_over}

module _ (s : List ℕ) (at : ℕ) (h : at < length s) where
  row_by_tags : (o : Maybe Tag) → tag_of (get_or s at 0) ≡ o → (u : Maybe TypeTag) → type_tag_of (get_or s at 0) ≡ u
      → row_if o (type_row_if u) ≡ row_of (get_or s at 0)
  unfolding row_of
  row_by_tags o e u f = rw (e, f) refl

  pub untagged_front : tag_of (get_or s at 0) ≡ none → front_of s ExpressionKind at ≡ None
  untagged_front e = go (type_tag_of (get_or s at 0)) refl
    where
      go : (u : Maybe TypeTag) → type_tag_of (get_or s at 0) ≡ u → front_of s ExpressionKind at ≡ None
      go none f = sym (front_untagged s ExpressionKind at h (get_or s at 0) refl (row_by_tags none e none f))
      go (some t) f =
          sym
          (front_other s ExpressionKind at h (get_or s at 0) refl (type_tag_row t) (row_by_tags none e (some t) f)
          (ap (λ (k : Kind). is_kind k ExpressionKind) (type_tag_kind t)))

  module _ (t : Tag) (e : tag_of (get_or s at 0) ≡ some t) where
    row_is : Some (tag_row t) ≡ row_of (get_or s at 0)
    row_is = row_by_tags (some t) e (type_tag_of (get_or s at 0)) refl

    of_kind : is_kind (tag_row t).kind ExpressionKind ≡ true
    of_kind = ap (λ (k : Kind). is_kind k ExpressionKind) (tag_kind t)

    pub bare_front : (tag_row t).limit ≡ None → front_of s ExpressionKind at ≡ Some (front (tag_row t) (at + 1))
    bare_front l = sym (front_bare s ExpressionKind at h (get_or s at 0) refl (tag_row t) row_is of_kind l)

    module _ (b : ℕ) (l : (tag_row t).limit ≡ Some b) where
      pub short_front : length s ≤ at + 1 → front_of s ExpressionKind at ≡ None
      short_front i = sym (front_short s ExpressionKind at h (get_or s at 0) refl (tag_row t) row_is of_kind b l i)

      module _ (i : at + 1 < length s) where
        pub fine_front : get_or s (at + 1) 0 < b → front_of s ExpressionKind at ≡ Some (front (tag_row t) (at + 1 + 1))
        fine_front j =
            sym
            (front_fine s ExpressionKind at h (get_or s at 0) refl (tag_row t) row_is of_kind b l i (get_or s (at + 1) 0)
            refl j)

        pub over_front : b ≤ get_or s (at + 1) 0 → front_of s ExpressionKind at ≡ None
        over_front j =
            sym
            (front_over s ExpressionKind at h (get_or s at 0) refl (tag_row t) row_is of_kind b l i (get_or s (at + 1) 0)
            refl j)
