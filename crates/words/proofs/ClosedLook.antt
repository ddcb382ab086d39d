-- The node that `node_at` sees: one law for each way through it.
use Prim.Native.Nat.{ℕ, ◌+◌}
use mathlib.Core.List.{List}
use mathlib.Core.Path.{◌≡◌, refl}
use lib.ListN.{get_or}
use borrow.Author.Tests.{eq-eqb, ne_eqb}
use Rattle.std.specs.Prelude.{Some, None}
use Rattle.calculus.specs.Reading.{type_end}
use Rattle.words.specs.declared.closed.Node.TheVariants.{Plain, Variable, Binder}
use Rattle.words.specs.declared.table.Kind.TheVariants.{Expression as ExpressionKind}
use Rattle.words.specs.declared.walk.Front.{Front}
use Rattle.words.specs.Walks.{front_of, walk_of}
use Rattle.words.specs.Scopes.{binder_if, node_of}
use Rattle.words.proofs.Children.{walk_ends, walk_broken}

module _ (s : List ℕ) (at : ℕ) where
  pub look_wrong : None ≡ front_of s ExpressionKind at → None ≡ node_of s at
  unfolding node_of
  look_wrong q = rw (← q) refl

  module _ (g : Front) (q : Some g ≡ front_of s ExpressionKind at) where
    module _ (z : g.row.types ≡ 0) (w : ℕ) (e : w ≡ get_or s at 0) where
      pub look_variable : w ≡ 4 → (x : ℕ) → x ≡ get_or s (at + 1) 0 → Some (Variable x g.next) ≡ node_of s at
      unfolding node_of
      look_variable v x i = rw (← q, eq-eqb g.row.types 0 z, ← e, eq-eqb w 4 v, i) refl

      pub look_plain : (w ≡ 4 → ⊥) → Some (Plain g.row.children g.next) ≡ node_of s at
      unfolding node_of
      look_plain v = rw (← q, eq-eqb g.row.types 0 z, ← e, ne_eqb w 4 v) refl

    module _ (z : g.row.types ≡ 0 → ⊥) where
      binder_is : node_of s at ≡ binder_if (get_or s (at + 1) 0) (type_end s g.next)
      unfolding node_of
      binder_is = rw (← q, ne_eqb g.row.types 0 z) refl

      pub look_broken : None ≡ walk_of (type_end s g.next) → None ≡ node_of s at
      look_broken b = rw (binder_is, walk_broken (type_end s g.next) b) refl

      pub look_binder : (b : ℕ) → Some b ≡ walk_of (type_end s g.next) → (x : ℕ) → x ≡ get_or s (at + 1) 0
          → Some (Binder x b) ≡ node_of s at
      look_binder b k x i = rw (binder_is, walk_ends (type_end s g.next) b k, i) refl
