-- The loop of `closed_in`: what is still to come is so many expressions in one scope. One law for each way of a turn.
use Prim.Native.Nat.{ℕ, zero, suc, ◌+◌, ◌-◌, ◌*◌, ◌<◌, ◌≤◌}
use mathlib.Core.Bool.{Bool, true, false}
use mathlib.Core.List.{List}
use mathlib.Core.Option.{Option as Maybe, none, some}
use mathlib.Core.Path.{◌≡◌, refl, sym, ap, ◌∙◌}
use native.Mathlib.Nat.{add_comm}
use native.Mathlib.Numerals.{sub-one}
use native.Mathlib.Omega.{arith}
use lib.ListN.{get_or, set}
use Rattle.std.specs.Prelude.{Option, Some, None}
use Rattle.calculus.specs.Options.{◌▸◌}
use Rattle.words.specs.declared.closed.Node.{Node}
use Rattle.words.specs.declared.closed.Node.TheVariants.{Plain, Variable, Binder}
use Rattle.words.specs.Walks.{walk_of}
use Rattle.words.specs.Scopes.{closed_end, node_of}
use Rattle.words.proofs.Nodes.{▸-assoc}
use Rattle.words.proofs.Children.{walk_ends, walk_broken}
use Rattle.words.proofs.ClosedScopes.{set_marked}
use Rattle.words.proofs.ClosedNodes.{closed_ends, bind_some}
use Rattle.words.proofs.ClosedFronts.{node_end, node_end_lem, closed_low}
use Rattle.words.proofs.ClosedFronts.{NameAt, plain_at, variable_at, binder_at}

-- n expressions are still to come from p on; each node brings at most two more than it takes
pub record Pending (s : List ℕ) (scope : List Bool) (at n p : ℕ) : Type 0 where
  pub same : closed_end s scope at ≡ closed_ends s scope n p
  pub few : n ≤ 2 * p + 1
  pub low : at ≤ p

ends_add : (s : List ℕ) (scope : List Bool) (k n p : ℕ)
    → closed_ends s scope (k + n) p ≡ (closed_ends s scope k p ▸ λ e. closed_ends s scope n e)
unfolding closed_ends
ends_add s scope zero n p =
    let z : 0 + n ≡ n = omega arith in
    ap (λ m. closed_ends s scope m p) z
ends_add s scope (suc k) n p =
    let z : suc k + n ≡ suc (k + n) = omega arith in
    ap (λ m. closed_ends s scope m p) z
    ∙ more (closed_end s scope p) (λ e. ends_add s scope k n e)
    ∙ sym (▸-assoc (closed_end s scope p) (λ e. closed_ends s scope k e) (λ e. closed_ends s scope n e))
  where
    more : (m : Maybe ℕ)
        → ((e : ℕ) → closed_ends s scope (k + n) e ≡ (closed_ends s scope k e ▸ λ f. closed_ends s scope n f))
        → (m ▸ λ e. closed_ends s scope (k + n) e) ≡ (m ▸ λ e. closed_ends s scope k e ▸ λ f. closed_ends s scope n f)
    more none h = refl
    more (some e) h = h e

ends_more : (s : List ℕ) (scope : List Bool) (n p : ℕ) → 0 < n
    → closed_ends s scope n p ≡ (closed_end s scope p ▸ λ e. closed_ends s scope (n - 1) e)
unfolding closed_ends
ends_more s scope zero p h = absurd (omega arith)
ends_more s scope (suc n) p h = rw sub-one

ends_none : (s : List ℕ) (scope : List Bool) (n p : ℕ) → n ≤ 0 → closed_ends s scope n p ≡ some p
unfolding closed_ends
ends_none s scope zero p h = refl
ends_none s scope (suc n) p h = absurd (omega arith)

pub start : (s : List ℕ) (scope : List Bool) (at : ℕ) → Pending s scope at 1 at
unfolding closed_ends
start s scope at = record { same = sym (bind_some (closed_end s scope at)); few = omega arith; low = omega arith }

-- where the body of a binder that is new in scope ends, which is past the binder
pub inner_at : (s : List ℕ) (scope : List Bool) (p : ℕ) (v : Node) → Some v ≡ node_of s p → (x next : ℕ)
    → v ≡ Binder x next → (e : ℕ) → Some e ≡ walk_of (closed_end s (set scope x true) next) → NameAt s p x e
inner_at s scope p v q x next d e b =
    let g = binder_at s p v q x next d in
    let t = closed_low s (set scope x true) next e (walk_ends (closed_end s (set scope x true) next) e b) in
    record { within = g.within; low = omega arith; small = g.small }

module _ (s : List ℕ) (scope : List Bool) (at n p : ℕ) (i : Pending s scope at n p) where
  pub done : n ≤ 0 → Some p ≡ walk_of (closed_end s scope at)
  done h = rw (i.same, ends_none s scope n p h) refl

  module _ (more : 0 < n) where
    -- the whole, by the node at p
    next_node : (v : Option Node) → v ≡ node_of s p
        → closed_end s scope at ≡ (node_end s scope v ▸ λ e. closed_ends s scope (n - 1) e)
    next_node v q = i.same ∙ ends_more s scope n p more ∙ rw (node_end_lem s scope p, q) refl

    pub turn_wrong : None ≡ node_of s p → None ≡ walk_of (closed_end s scope at)
    turn_wrong q = rw (next_node None q) refl

    module _ (v : Node) (q : Some v ≡ node_of s p) where
      pub turn_plain : (k next : ℕ) → v ≡ Plain k next → Pending s scope at (n - 1 + k) next
      turn_plain k next d =
          let g = plain_at s p v q k next d in
          let j = i.few in
          let l = i.low in
          record {
            same =
                next_node (Some v) q
                ∙ ap (λ w. node_end s scope (Some w) ▸ λ e. closed_ends s scope (n - 1) e) d
                ∙ sym (ends_add s scope k (n - 1) next)
                ∙ ap (λ m. closed_ends s scope m next) (add_comm k (n - 1));
            few = omega arith;
            low = omega arith;
          }

      module _ (x next : ℕ) where
        pub turn_free : v ≡ Variable x next → get_or scope x false ≡ false → None ≡ walk_of (closed_end s scope at)
        turn_free d f = rw (next_node (Some v) q, d, f) refl

        pub turn_bound : v ≡ Variable x next → get_or scope x false ≡ true → Pending s scope at (n - 1) next
        turn_bound d f =
            let g = variable_at s p v q x next d in
            let j = i.few in
            let l = i.low in
            record { same = next_node (Some v) q ∙ rw (d, f) refl; few = omega arith; low = omega arith }

        -- a binder of a variable in scope is as its body
        pub turn_again : v ≡ Binder x next → get_or scope x false ≡ true → Pending s scope at n next
        turn_again d f =
            let g = binder_at s p v q x next d in
            let j = i.few in
            let l = i.low in
            record {
              same = next_node (Some v) q ∙ rw (d, set_marked scope x f) (sym (ends_more s scope n next more));
              few = omega arith;
              low = omega arith;
            }

        module _ (d : v ≡ Binder x next) where
          pub turn_broken : None ≡ walk_of (closed_end s (set scope x true) next)
              → None ≡ walk_of (closed_end s scope at)
          turn_broken b = rw (next_node (Some v) q, d, walk_broken (closed_end s (set scope x true) next) b) refl

          pub turn_inner : (e : ℕ) → Some e ≡ walk_of (closed_end s (set scope x true) next)
              → Pending s scope at (n - 1) e
          turn_inner e b =
              let c = walk_ends (closed_end s (set scope x true) next) e b in
              let g = inner_at s scope p v q x next d e b in
              let j = i.few in
              let l = i.low in
              record { same = next_node (Some v) q ∙ rw (d, c) refl; few = omega arith; low = omega arith }
