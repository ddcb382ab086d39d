-- The overlay of two maps of rising keys, entry by entry: the lower key is next; of equal keys, the second map's entry.
use Prim.Native.Nat.{ℕ, suc, ◌≤◌, ◌<◌}
use mathlib.Core.Path.{◌≡◌, refl, ap, ◌∙◌}
use mathlib.Core.Bool.{Bool, true, false, cond}
use mathlib.Core.List.{[], ◌∷◌}
use native.Mathlib.Omega.{arith}
use lib.Dec.{eqb, ltb}
use borrow.Author.Tests.{le-ltb, lt-ltb, eq-eqb, ne_eqb}
use Rattle.calculus.specs.Maps.{Map, put, overlaid}
use Rattle.calculus.specs.Images.{Listed}

module _ {A : Type 0} where
  -- the first key, if any, is over k
  abbrev Over : ℕ → Map A → Type 0
  Over k [] = Unit {0}
  Over k (e ∷ m) = (k < e.0)

  over_put : (k j : ℕ) (a : A) (m : Map A) → k < j → Over k m → Over k (put j a m)
  unfolding put
  over_put k j a [] l h = l
  over_put k j a (e ∷ m) l h = go (ltb j e.0) (eqb j e.0)
    where
      go : (b c : Bool) → Over k (cond b ((j, a) ∷ e ∷ m) (cond c ((j, a) ∷ m) (e ∷ put j a m)))
      go true c = l
      go false true = l
      go false false = h

  put_before : (k : ℕ) (a : A) (m : Map A) → Over k m → put k a m ≡ (k, a) ∷ m
  unfolding put
  put_before k a [] h = refl
  put_before k a (e ∷ m) h = rw (lt-ltb k e.0 h)

  put_after : (k : ℕ) (a : A) (e : ℕ × A) (m : Map A) → e.0 < k → put k a (e ∷ m) ≡ e ∷ put k a m
  unfolding put
  put_after k a e m h = rw (le-ltb k e.0 (omega arith), ne_eqb k e.0 (λ z. omega arith))

  put_here : (k : ℕ) (a : A) (e : ℕ × A) (m : Map A) → k ≡ e.0 → put k a (e ∷ m) ≡ (k, a) ∷ m
  unfolding put
  put_here k a e m p = rw (le-ltb k e.0 (omega arith), eq-eqb k e.0 p)

module _ {A : Type 0} (ok : A → Type 0) (top : ℕ) where
  pub listed_lower : (j k : ℕ) (m : Map A) → j ≤ k → Listed ok top k m → Listed ok top j m
  unfolding Listed
  listed_lower j k [] l h = tt
  listed_lower j k (e ∷ m) l (a, b, o, h) = (omega arith, b, o, h)

  over_overlaid : (k : ℕ) (m n : Map A) → Listed ok top (suc k) m → Listed ok top (suc k) n → Over k (overlaid m n)
  unfolding overlaid Listed
  over_overlaid k [] [] g h = tt
  over_overlaid k (x ∷ m) [] g h = g.0
  over_overlaid k m (y ∷ n) g (a, b, o, h) =
      over_put k y.0 y.1 (overlaid m n) a
      (over_overlaid k m n g (listed_lower (suc k) (suc y.0) n (omega arith) h))

  -- the first map's entry is next where its key is lower
  pub overlaid_first : (x : ℕ × A) (m n : Map A) → Listed ok top (suc x.0) n → overlaid (x ∷ m) n ≡ x ∷ overlaid m n
  unfolding overlaid Listed
  overlaid_first x m [] h = refl
  overlaid_first x m (y ∷ n) (a, b, o, h) =
      ap (put y.0 y.1) (overlaid_first x m n (listed_lower (suc x.0) (suc y.0) n (omega arith) h))
      ∙ put_after y.0 y.1 x (overlaid m n) a

  -- the second map's, where its key is
  pub overlaid_second : (y : ℕ × A) (m n : Map A) → Listed ok top (suc y.0) m → Listed ok top (suc y.0) n
      → overlaid m (y ∷ n) ≡ y ∷ overlaid m n
  unfolding overlaid
  overlaid_second y m n g h = put_before y.0 y.1 (overlaid m n) (over_overlaid y.0 m n g h)

  -- and in place of the first map's, where they are equal
  pub overlaid_both : (x y : ℕ × A) (m n : Map A) → x.0 ≡ y.0 → Listed ok top (suc y.0) n
      → overlaid (x ∷ m) (y ∷ n) ≡ y ∷ overlaid m n
  unfolding overlaid
  overlaid_both x y m n e h =
      ap (put y.0 y.1) (overlaid_first x m n (rw e h)) ∙ put_here y.0 y.1 x (overlaid m n) (omega arith)
