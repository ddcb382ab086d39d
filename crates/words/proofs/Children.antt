-- The recursion of `expressions_end`: a node's front, its types, its children, and the other expressions.
use Prim.Native.Nat.{ℕ, zero, suc, ◌-◌, ◌<◌, ◌≤◌}
use mathlib.Core.List.{List}
use mathlib.Core.Option.{Option as Maybe, none, some}
use mathlib.Core.Path.{◌≡◌, refl, ap}
use native.Mathlib.Omega.{arith}
use lib.ListN.{length}
use Rattle.std.specs.Prelude.{Option, Some, None}
use Rattle.calculus.specs.Options.{◌▸◌}
use Rattle.calculus.specs.Reading.{type_end, end_of}
use Rattle.calculus.proofs.Options.{some_inj, ▸-some}
use Rattle.words.specs.declared.table.Kind.TheVariants.{Expression as ExpressionKind}
use Rattle.words.specs.declared.walk.Front.{Front}
use Rattle.words.specs.Walks.{walk_of, front_of, types_end, expressions_end}
use Rattle.words.proofs.Fronts.{Fronted, front_within}
use Rattle.words.proofs.Ends.{type_stands, expression_stands}
use Rattle.words.proofs.Nodes.{on_front, parts, expression_node}

pub walk_ends : (o : Maybe ℕ) (e : ℕ) → Some e ≡ walk_of o → o ≡ some e
walk_ends none e q = cc
walk_ends (some f) e q = cc

pub walk_broken : (o : Maybe ℕ) → None ≡ walk_of o → o ≡ none
walk_broken none q = refl
walk_broken (some f) q = cc

-- an end is not before its start
pub types_low : (s : List ℕ) (n at e : ℕ) → types_end s n at ≡ some e → at ≤ e
unfolding types_end
types_low s zero at e q = let same : at ≡ e = some_inj q in omega arith
types_low s (suc n) at e q =
    let (m, p, r) = ▸-some (type_end s at) (λ e. types_end s n e) q in
    let to = (type_stands s at m p).to in
    let low = types_low s n m e r in omega arith

pub expressions_low : (s : List ℕ) (n at e : ℕ) → expressions_end s n at ≡ some e → at ≤ e
unfolding expressions_end
expressions_low s zero at e q = let same : at ≡ e = some_inj q in omega arith
expressions_low s (suc n) at e q =
    let (m, p, r) = ▸-some (end_of s at) (λ e. expressions_end s n e) q in
    let to = (expression_stands s at m p).to in
    let low = expressions_low s n m e r in omega arith

pub one_expression : (s : List ℕ) (at : ℕ) → expressions_end s 1 at ≡ end_of s at
unfolding expressions_end
one_expression s at = go (end_of s at)
  where
    go : (o : Maybe ℕ) → (o ▸ λ e. some e) ≡ o
    go none = refl
    go (some e) = refl

pub expressions_none : (s : List ℕ) (n at : ℕ) → n ≡ 0 → Some at ≡ walk_of (expressions_end s n at)
unfolding expressions_end
expressions_none s n at e = rw e refl

-- an expression more, by its front
expressions_node : (s : List ℕ) (n at : ℕ) → (n ≡ 0 → ⊥)
    → expressions_end s n at ≡ (on_front (front_of s ExpressionKind at) (parts s) ▸ λ e. expressions_end s (n - 1) e)
unfolding expressions_end
expressions_node s zero at h = absurd (h refl)
expressions_node s (suc n) at h =
    let less : suc n - 1 ≡ n = omega arith in
    rw less (ap (λ o. o ▸ λ e. expressions_end s n e) (expression_node s at))

-- a place behind the node's front
pub record Deeper (s : List ℕ) (at p : ℕ) : Type 0 where
  pub within : at < length s
  pub low : at < p

module _ (s : List ℕ) (at : ℕ) (g : Front) (q : Some g ≡ front_of s ExpressionKind at)
    (body : ℕ) (to : Some body ≡ walk_of (types_end s g.row.types g.next)) where
  pub body_deeper : Deeper s at body
  body_deeper =
      let x : Fronted s ExpressionKind at g.row g.next = front_within s ExpressionKind at g q in
      let l = types_low s g.row.types g.next body (walk_ends (types_end s g.row.types g.next) body to) in
      record { within = x.within; low = omega arith }

  pub end_deeper : (end : ℕ) → Some end ≡ walk_of (expressions_end s g.row.children body) → Deeper s at end
  end_deeper end out =
      let i : Deeper s at body = body_deeper in
      let l = expressions_low s g.row.children body end (walk_ends (expressions_end s g.row.children body) end out) in
      record { within = i.within; low = omega arith }

module _ (s : List ℕ) (n at : ℕ) (more : n ≡ 0 → ⊥) where
  pub expressions_wrong : None ≡ front_of s ExpressionKind at → None ≡ walk_of (expressions_end s n at)
  expressions_wrong q = rw (expressions_node s n at more, ← q) refl

  module _ (g : Front) (q : Some g ≡ front_of s ExpressionKind at) where
    by_front : expressions_end s n at ≡ (parts s g.row g.next ▸ λ e. expressions_end s (n - 1) e)
    by_front = rw (expressions_node s n at more, ← q) refl

    pub expressions_types : None ≡ walk_of (types_end s g.row.types g.next) → None ≡ walk_of (expressions_end s n at)
    expressions_types b = rw (by_front, walk_broken (types_end s g.row.types g.next) b) refl

    module _ (body : ℕ) (to : Some body ≡ walk_of (types_end s g.row.types g.next)) where
      pub expressions_children : None ≡ walk_of (expressions_end s g.row.children body)
          → None ≡ walk_of (expressions_end s n at)
      expressions_children b =
          let from = walk_ends (types_end s g.row.types g.next) body to in
          rw (by_front, from, walk_broken (expressions_end s g.row.children body) b) refl

      pub expressions_more : (end : ℕ) → Some end ≡ walk_of (expressions_end s g.row.children body)
          → (z : Option ℕ) → z ≡ walk_of (expressions_end s (n - 1) end) → z ≡ walk_of (expressions_end s n at)
      expressions_more end out z u =
          let from = walk_ends (types_end s g.row.types g.next) body to in
          rw (by_front, from, walk_ends (expressions_end s g.row.children body) end out) u
