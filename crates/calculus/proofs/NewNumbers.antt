-- The search for a new number gives the smallest that is free, and none only where all are taken.
use Prim.Native.Nat.{◌+◌, ℕ, ◌≤◌, ◌<◌, zero, suc}
use mathlib.Core.Bool.{false, true, Bool}
use mathlib.Core.List.{List}
use mathlib.Core.Option.{none, some, Option}
use mathlib.Core.Path.{subst as along, ◌≡◌, refl, ap, ◌∙◌, sym}
use native.Mathlib.Decide.{ℕ_discrete}
use native.Mathlib.Omega.{arith}
use Rattle.calculus.specs.Formed.{member}
use Rattle.calculus.specs.NewNumbers.{smallest}
use Rattle.calculus.proofs.Options.{none≢some, some_inj}
use Rattle.calculus.proofs.Maps.{tri, Tri, below, same, above}
use Rattle.calculus.proofs.Places.{true≢false}

-- j is the smallest of k .. k + n - 1 that is not in u
pub record Smallest (n k : ℕ) (u : List ℕ) (j : ℕ) : Type 0 where
  pub low : k ≤ j
  pub high : j < n + k
  pub free : member j u ≡ false
  pub least : (i : ℕ) → k ≤ i → i < j → member i u ≡ true

-- what is found is the smallest
pub smallest_is : (n k : ℕ) (u : List ℕ) {j : ℕ} → smallest n k u ≡ some j → Smallest n k u j
unfolding smallest
smallest_is zero k u h = none≢some h
smallest_is (suc n) k u {j} h = go (member k u) refl h (λ x. smallest_is n (suc k) u x)
  where
    low : member k u ≡ true → Smallest n (suc k) u j → (i : ℕ) → Dec (i ≡ k) → k ≤ i → i < j → member i u ≡ true
    low p s i (yes e) a b = ap (λ i. member i u) e ∙ p
    low p s i (no d) a b = s.least i (omega arith) b

    go : (b : Bool) → member k u ≡ b → ◌≡◌ {A = Option ℕ} (elim b [ true ↦ smallest n (suc k) u | false ↦ some k ])
        (some j) → (smallest n (suc k) u ≡ some j → Smallest n (suc k) u j) → Smallest (suc n) k u j
    go true p q ih =
        let s = ih q in
        let a = s.low in
        let b = s.high in
        record {
          low = omega arith;
          high = omega arith;
          free = s.free;
          least = λ i x y. low p s i (ℕ_discrete i k) x y;
        }
    go false p q ih =
        let e : k ≡ j = some_inj q in
        record {
          low = omega arith;
          high = omega arith;
          free = along (λ j. member j u ≡ false) e p;
          least = λ i x y.
              absurd (omega arith);
        }

-- where none is found all are taken
pub smallest_none : (n k : ℕ) (u : List ℕ) → smallest n k u ≡ none → (i : ℕ) → k ≤ i → i < n + k → member i u ≡ true
unfolding smallest
smallest_none zero k u h i a b = absurd (omega arith)
smallest_none (suc n) k u h i a b = go (member k u) refl h (λ x. smallest_none n (suc k) u x i) (ℕ_discrete i k)
  where
    go : (c : Bool) → member k u ≡ c → ◌≡◌ {A = Option ℕ} (elim c [ true ↦ smallest n (suc k) u | false ↦ some k ]) none
        → (smallest n (suc k) u ≡ none → suc k ≤ i → i < n + suc k → member i u ≡ true) → Dec (i ≡ k) → member i u ≡ true
    go true p q ih (yes e) = ap (λ i. member i u) e ∙ p
    go true p q ih (no d) = ih q (omega arith) (omega arith)
    go false p q ih d = none≢some (sym q)

-- there is one smallest at most
pub smallest_unique : (n k : ℕ) (u : List ℕ) (i j : ℕ) → Smallest n k u i → Smallest n k u j → i ≡ j
smallest_unique n k u i j a b = go (tri i j)
  where
    go : Tri i j → i ≡ j
    go (below l) = true≢false (sym (b.least i a.low l) ∙ a.free)
    go (same e) = e
    go (above l) = true≢false (sym (a.least j b.low l) ∙ b.free)

-- the smallest is found
pub is_smallest : (n k : ℕ) (u : List ℕ) (j : ℕ) → Smallest n k u j → smallest n k u ≡ some j
is_smallest n k u j s = go (smallest n k u) refl
  where
    go : (o : Option ℕ) → smallest n k u ≡ o → smallest n k u ≡ some j
    go none p = true≢false (sym (smallest_none n k u p j s.low s.high) ∙ s.free)
    go (some i) p = p ∙ ap some (smallest_unique n k u i j (smallest_is n k u p) s)

-- lists with the same members give the same
pub smallest_same : (n k : ℕ) (u w : List ℕ) → ((i : ℕ) → member i u ≡ member i w) → smallest n k u ≡ smallest n k w
unfolding smallest
smallest_same zero k u w h = refl
smallest_same (suc n) k u w h = go (member k u) (member k w) (h k) (smallest_same n (suc k) u w h)
  where
    go : (b c : Bool) → b ≡ c → smallest n (suc k) u ≡ smallest n (suc k) w → ◌≡◌ {A = Option ℕ}
        (elim b [ true ↦ smallest n (suc k) u | false ↦ some k ])
        (elim c [ true ↦ smallest n (suc k) w | false ↦ some k ])
    go true true p ih = ih
    go true false p ih = true≢false p
    go false true p ih = true≢false (sym p)
    go false false p ih = refl
