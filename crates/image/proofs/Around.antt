-- A map around one key: what lies before and after the key changes by itself.
use Prim.Native.Nat.{ℕ, ◌≤◌, ◌<◌}
use mathlib.Core.Bool.{Bool, true, false, cond}
use mathlib.Core.List.{[], ◌∷◌, ◌++◌}
use mathlib.Core.Path.{◌≡◌, refl, sym, ap, ◌∙◌}
use native.Mathlib.Omega.{arith}
use lib.Dec.{eqb, ltb}
use borrow.Author.Tests.{le-ltb, lt-ltb, eq-eqb, ne_eqb}
use Rattle.calculus.specs.Maps.{Map, put, remove}
use Rattle.calculus.proofs.Maps.{Tri, below, same, above, tri}
use Rattle.image.specs.Cuts.{before, beyond, hits}

module _ {A : Type 0} where
  abbrev pub Below : ℕ → Map A → Type 0
  Below k [] = Unit {0}
  Below k (e ∷ m) = (e.0 < k) × Below k m

  pub before_below : (k : ℕ) (m : Map A) → Below k (before k m)
  unfolding before
  before_below k [] = tt
  before_below k (e ∷ m) = go (tri e.0 k) (before_below k m)
    where
      go : Tri e.0 k → Below k (before k m) → Below k (before k (e ∷ m))
      go (below l) ih = rw (lt-ltb e.0 k l) (l, ih)
      go (same p) ih = rw (le-ltb e.0 k (omega arith)) tt
      go (above l) ih = rw (le-ltb e.0 k (omega arith)) tt

  pub below_more : (j k : ℕ) (m : Map A) → j ≤ k → Below j m → Below k m
  below_more j k [] h b = tt
  below_more j k (e ∷ m) h b = (let l = b.0 in omega arith, below_more j k m h b.1)

  -- past smaller keys
  module _ (k : ℕ) (a : A) where
    pub put_past : (X Y : Map A) → Below k X → put k a (X ++ Y) ≡ X ++ put k a Y
    unfolding put
    put_past [] Y b = refl
    put_past (e ∷ X) Y b =
        let l = b.0 in
        rw (le-ltb k e.0 (omega arith), ne_eqb k e.0 (λ z. omega arith))
        (ap (λ l. e ∷ l) (put_past X Y b.1))

  module _ (k : ℕ) where
    pub remove_past : (X Y : Map A) → Below k X → remove k (X ++ Y) ≡ X ++ remove k Y
    unfolding remove
    remove_past [] Y b = refl
    remove_past (e ∷ X) Y b =
        let l = b.0 in
        rw (ne_eqb k e.0 (λ z. omega arith)) (ap (λ l. e ∷ l) (remove_past X Y b.1))

    pub before_past : (X Y : Map A) → Below k X → before k (X ++ Y) ≡ X ++ before k Y
    unfolding before
    before_past [] Y b = refl
    before_past (e ∷ X) Y b = rw (lt-ltb e.0 k b.0) (ap (λ l. e ∷ l) (before_past X Y b.1))

    pub hits_past : (X Y : Map A) → Below k X → hits k (X ++ Y) ≡ hits k Y
    unfolding hits
    hits_past [] Y b = refl
    hits_past (e ∷ X) Y b = rw (lt-ltb e.0 k b.0) (hits_past X Y b.1)

  -- around the key r with K
  module _ (r : ℕ) (K : A) (Y : Map A) where
    module _ (k : ℕ) where
      module _ (l : k < r) where
        pub put_left : (a : A) (X : Map A) → put k a (X ++ ((r, K) ∷ Y)) ≡ put k a X ++ ((r, K) ∷ Y)
        unfolding put
        put_left a [] = rw (lt-ltb k r l) refl
        put_left a (e ∷ X) = go (ltb k e.0) (eqb k e.0) (put_left a X)
          where
            go : (b c : Bool) → put k a (X ++ ((r, K) ∷ Y)) ≡ put k a X ++ ((r, K) ∷ Y)
                → cond b ((k, a) ∷ e ∷ (X ++ ((r, K) ∷ Y)))
                (cond c ((k, a) ∷ (X ++ ((r, K) ∷ Y))) (e ∷ put k a (X ++ ((r, K) ∷ Y))))
                ≡ cond b ((k, a) ∷ e ∷ X) (cond c ((k, a) ∷ X) (e ∷ put k a X)) ++ ((r, K) ∷ Y)
            go true c h = refl
            go false true h = refl
            go false false h = ap (λ l. e ∷ l) h

        pub before_left : (X : Map A) → before k (X ++ ((r, K) ∷ Y)) ≡ before k X
        unfolding before
        before_left [] = rw (le-ltb r k (omega arith)) refl
        before_left (e ∷ X) = ap (λ z. cond (ltb e.0 k) (e ∷ z) []) (before_left X)

        pub hits_left : (X : Map A) → hits k (X ++ ((r, K) ∷ Y)) ≡ hits k X
        unfolding hits
        hits_left [] = rw (le-ltb r k (omega arith), ne_eqb r k (λ z. omega arith)) refl
        hits_left (e ∷ X) = ap (λ z. cond (ltb e.0 k) z (eqb e.0 k)) (hits_left X)

        pub remove_left : (X : Map A) → hits k X ≡ true → remove k (X ++ ((r, K) ∷ Y)) ≡ remove k X ++ ((r, K) ∷ Y)
        unfolding remove hits
        remove_left [] h = absurd cc
        remove_left (e ∷ X) h = go (tri e.0 k) h (remove_left X)
          where
            go : Tri e.0 k → hits k (e ∷ X) ≡ true
                → (hits k X ≡ true → remove k (X ++ ((r, K) ∷ Y)) ≡ remove k X ++ ((r, K) ∷ Y))
                → remove k ((e ∷ X) ++ ((r, K) ∷ Y)) ≡ remove k (e ∷ X) ++ ((r, K) ∷ Y)
            go (below l) q ih =
                rw (ne_eqb k e.0 (λ z. omega arith))
                (ap (λ l. e ∷ l) (ih (sym (rw (lt-ltb e.0 k l) refl) ∙ q)))
            go (same p) q ih = rw (eq-eqb k e.0 (sym p)) refl
            go (above l) q ih =
                let w : false ≡ true
                = sym (rw (le-ltb e.0 k (omega arith), ne_eqb e.0 k (λ z. omega arith)) refl) ∙ q in
                absurd cc

      module _ (l : r < k) (X : Map A) (b : Below r X) where
        pub put_right : (a : A) → put k a (X ++ ((r, K) ∷ Y)) ≡ X ++ ((r, K) ∷ put k a Y)
        unfolding put
        put_right a =
            put_past k a X ((r, K) ∷ Y) (below_more r k X (omega arith) b)
            ∙ ap (λ z. X ++ z) (rw (le-ltb k r (omega arith), ne_eqb k r (λ z. omega arith)) refl)

        pub before_right : before k (X ++ ((r, K) ∷ Y)) ≡ X ++ ((r, K) ∷ before k Y)
        unfolding before
        before_right =
            before_past k X ((r, K) ∷ Y) (below_more r k X (omega arith) b)
            ∙ ap (λ z. X ++ z) (rw (lt-ltb r k l) refl)

        pub hits_right : hits k (X ++ ((r, K) ∷ Y)) ≡ hits k Y
        unfolding hits
        hits_right = hits_past k X ((r, K) ∷ Y) (below_more r k X (omega arith) b) ∙ rw (lt-ltb r k l) refl

        pub remove_right : remove k (X ++ ((r, K) ∷ Y)) ≡ X ++ ((r, K) ∷ remove k Y)
        unfolding remove
        remove_right =
            remove_past k X ((r, K) ∷ Y) (below_more r k X (omega arith) b)
            ∙ ap (λ z. X ++ z) (rw (ne_eqb k r (λ z. omega arith)) refl)

    pub put_here : (J : A) (X : Map A) → Below r X → put r K (X ++ ((r, J) ∷ Y)) ≡ X ++ ((r, K) ∷ Y)
    unfolding put
    put_here J X b =
        put_past r K X ((r, J) ∷ Y) b ∙ ap (λ z. X ++ z) (rw (le-ltb r r (omega arith), eq-eqb r r refl) refl)

  -- what is left of smaller keys
  pub below_parts : (j k : ℕ) (m : Map A) → Below k m → Below k (before j m) × Below k (beyond j m)
  unfolding before beyond
  below_parts j k [] b = (tt, tt)
  below_parts j k (e ∷ m) b = go (ltb e.0 j) (eqb e.0 j) (below_parts j k m b.1)
    where
      go : (c d : Bool) → Below k (before j m) × Below k (beyond j m)
          → Below k (cond c (e ∷ before j m) []) × Below k (cond c (beyond j m) (cond d m (e ∷ m)))
      go true d ih = ((b.0, ih.0), ih.1)
      go false true ih = (tt, b.1)
      go false false ih = (tt, b)

  pub below_append : (k : ℕ) (m n : Map A) → Below k m → Below k n → Below k (m ++ n)
  below_append k [] n a b = b
  below_append k (e ∷ m) n a b = (a.0, below_append k m n a.1 b)
