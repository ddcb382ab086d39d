-- The loop of `types_end`: as many types as are still pending from p on end where all of them end.
use Prim.Native.Nat.{ℕ, zero, suc, ◌+◌, ◌-◌, ◌<◌, ◌≤◌}
use mathlib.Core.List.{List}
use mathlib.Core.Option.{Option as Maybe, none, some}
use mathlib.Core.Path.{◌≡◌, refl, sym, ap, ◌∙◌}
use native.Mathlib.Nat.{zero-add, suc-add}
use native.Mathlib.Omega.{arith}
use Rattle.std.specs.Prelude.{Option, Some, None}
use Rattle.calculus.specs.Options.{◌▸◌}
use Rattle.calculus.specs.Reading.{type_end}
use Rattle.words.specs.declared.table.Kind.TheVariants.{«Type» as TypeKind}
use Rattle.words.specs.declared.walk.Front.{Front}
use Rattle.words.specs.Walks.{walk_of, front_of, types_end}
use Rattle.words.proofs.Fronts.{Fronted, front_within}
use Rattle.words.proofs.Nodes.{▸-assoc, on_front, type_parts, type_node}

pub types_end_append : (s : List ℕ) (m n at : ℕ) → types_end s (m + n) at ≡ (types_end s m at ▸ λ e. types_end s n e)
unfolding types_end
types_end_append s zero n at = ap (λ k. types_end s k at) (zero-add n)
types_end_append s (suc m) n at =
    ap (λ k. types_end s k at) (suc-add m n)
    ∙ go (type_end s at) (λ e. types_end_append s m n e)
    ∙ sym (▸-assoc (type_end s at) (λ e. types_end s m e) (λ e. types_end s n e))
  where
    go : (o : Maybe ℕ) → ((e : ℕ) → types_end s (m + n) e ≡ (types_end s m e ▸ λ d. types_end s n d))
        → (o ▸ λ e. types_end s (m + n) e) ≡ (o ▸ λ e. (types_end s m e ▸ λ d. types_end s n d))
    go none f = refl
    go (some e) f = f e

pub one_type_lem : (s : List ℕ) (at : ℕ) → types_end s 1 at ≡ type_end s at
unfolding types_end
one_type_lem s at = go (type_end s at)
  where
    go : (o : Maybe ℕ) → (o ▸ λ e. some e) ≡ o
    go none = refl
    go (some e) = refl

-- a type more, by its front
pub types_node : (s : List ℕ) (n at : ℕ) → 0 < n
    → types_end s n at ≡ on_front (front_of s TypeKind at) (λ m p. types_end s (n - 1 + m.types) p)
unfolding types_end
types_node s zero at h = absurd (omega arith)
types_node s (suc n) at h = ap (λ o. o ▸ λ e. types_end s n e) (type_node s at) ∙ go (front_of s TypeKind at)
  where
    go : (f : Option Front) → (on_front f (type_parts s) ▸ λ e. types_end s n e)
        ≡ on_front f (λ m p. types_end s (suc n - 1 + m.types) p)
    go None = refl
    go (Some g) =
        let sum : g.row.types + n ≡ suc n - 1 + g.row.types = omega arith in
        sym (types_end_append s g.row.types n g.next) ∙ ap (λ k. types_end s k g.next) sum

pub record Pending (s : List ℕ) (n at pending p : ℕ) : Type 0 where
  pub same : types_end s n at ≡ types_end s pending p
  pub few : pending ≤ p + 2

-- the loop begins with all of at most two types pending
pub pending_start : (s : List ℕ) (n at : ℕ) → n ≤ 2 → Pending s n at n at
pending_start s n at h = record { same = refl; few = omega arith }

module _ (s : List ℕ) (n at pending p : ℕ) (i : Pending s n at pending p) where
  pub pending_done : pending ≤ 0 → Some p ≡ walk_of (types_end s n at)
  unfolding types_end
  pending_done h =
      let none_left : pending ≡ 0 = omega arith in
      sym (ap walk_of (i.same ∙ ap (λ k. types_end s k p) none_left))

  module _ (more : 0 < pending) where
    pub pending_wrong : None ≡ front_of s TypeKind p → None ≡ walk_of (types_end s n at)
    pending_wrong q = sym (ap walk_of i.same ∙ rw (types_node s pending p more, ← q) refl)

    pub pending_turn : (g : Front) → Some g ≡ front_of s TypeKind p → Pending s n at (pending - 1 + g.row.types) g.next
    pending_turn g q =
        let f : Fronted s TypeKind p g.row g.next = front_within s TypeKind p g q in
        record { same = i.same ∙ rw (types_node s pending p more, ← q) refl; few = omega arith }
