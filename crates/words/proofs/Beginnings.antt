-- What a word begins by its row: one law for each way through `front_at`.
use Prim.Native.Nat.{ℕ, ◌+◌, ◌<◌, ◌≤◌}
use mathlib.Core.Bool.{true}
use mathlib.Core.List.{List}
use mathlib.Core.Path.{◌≡◌, refl, sym, ◌∙◌}
use borrow.Author.Tests.{lt-ltb, le-ltb, eq-eqb, ne_eqb}
use lib.ListN.{length, get_or}
use Rattle.std.specs.Prelude.{◌≢◌, Option, Some, None}
use Rattle.words.specs.declared.table.Kind.{Kind}
use Rattle.words.specs.declared.table.Kind.TheVariants.{Expression, «Type» as TypeKind}
use Rattle.words.specs.declared.table.Row.{Row}
use Rattle.words.specs.Rows.{row_of}
use Rattle.words.specs.Walks.{front_of, is_kind, kind_number, beginning, front_beginning, beginning_of}
use Rattle.words.proofs.Fronts.{by_own}

own_kind : (k : Kind) → is_kind k k ≡ true
own_kind Expression = refl
own_kind TypeKind = refl

module _ (s : List ℕ) (k at : ℕ) where
  pub begun_out : length s ≤ at → None ≡ beginning_of s k at
  unfolding beginning_of
  begun_out h = rw (le-ltb at (length s) h) refl

  module _ (h : at < length s) (w : ℕ) (v : w ≡ get_or s at 0) (o : Option Row) (e : o ≡ row_of w) where
    pub begun_other : kind_number o ≢ k → None ≡ beginning_of s k at
    unfolding beginning_of
    begun_other d = rw (lt-ltb at (length s) h, ← v, ← e, ne_eqb (kind_number o) k d) refl

    module _ (d : kind_number o ≡ k) where
      pub begun_untagged : o ≡ None → Some (beginning None (at + 1)) ≡ beginning_of s k at
      unfolding beginning_of
      begun_untagged i = rw (lt-ltb at (length s) h, ← v, ← e, eq-eqb (kind_number o) k d, i) refl

      pub begun_tagged : (n : Row) → o ≡ Some n → front_beginning (front_of s n.kind at) ≡ beginning_of s k at
      unfolding beginning_of
      begun_tagged n i =
          rw (lt-ltb at (length s) h, ← v, ← e, eq-eqb (kind_number o) k d, i)
          (rw (by_own s n.kind at h w v n (sym i ∙ e) (own_kind n.kind)) refl)
