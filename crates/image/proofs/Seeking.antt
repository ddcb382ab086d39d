-- Cuts of a map at a key, and the loop over entries or sections that finds them.
use Prim.Native.Nat.{ℕ, ◌+◌, ◌≤◌, ◌<◌}
use mathlib.Core.Bool.{Bool, true, false, cond}
use mathlib.Core.List.{List, [], ◌∷◌, ◌++◌, append_assoc}
use mathlib.Core.Option.{none, some}
use Rattle.std.specs.Prelude.{Result, Ok, Err}
use Rattle.std.specs.Cmp.{ranked}
use Rattle.std.specs.Ordering.{nat_cmp}
use Rattle.std.specs.declared.cmp.Ordering.TheVariants.{Less, Equal, Greater}
use mathlib.Core.Path.{◌≡◌, refl, sym, ap, ◌∙◌, subst}
use native.Mathlib.Omega.{arith}
use lib.Dec.{eqb, ltb}
use lib.ListN.{length, get_or, length-append}
use borrow.Author.Tests.{le-ltb, lt-ltb, eq-eqb, ne_eqb}
use Rattle.calculus.specs.Maps.{Map, get, put, remove, Rising}
use Rattle.calculus.specs.Stores.{Cell, plain}
use Rattle.calculus.specs.Images.{entries, cell_words, Listed, ValidCell}
use Rattle.calculus.proofs.Maps.{Tri, below, same, above, tri, above_rising, get_above}
use Rattle.calculus.proofs.Maps.{get_tail, get_none}
use Rattle.image.specs.Standing.{Stands, EndsAt}
use Rattle.image.specs.Cuts.{before, onward, beyond, hits, place_if, place_in, seek_of, Past, Seeks}
use Rattle.image.proofs.Left.{Left, left_none, left_some, left_next}

module _ {A : Type 0} where
  pub before_onward : (k : ℕ) (m : Map A) → m ≡ before k m ++ onward k m
  unfolding before onward
  before_onward k [] = refl
  before_onward k (e ∷ m) = go (ltb e.0 k) (before_onward k m)
    where
      go : (b : Bool) → m ≡ before k m ++ onward k m
          → e ∷ m ≡ cond b (e ∷ before k m) [] ++ cond b (onward k m) (e ∷ m)
      go true h = ap (λ l. e ∷ l) h
      go false h = refl

  pub put_cut : (k : ℕ) (a : A) (m : Map A) → put k a m ≡ before k m ++ ((k, a) ∷ beyond k m)
  unfolding put before beyond
  put_cut k a [] = refl
  put_cut k a (e ∷ m) = go (tri k e.0) (put_cut k a m)
    where
      go : Tri k e.0 → put k a m ≡ before k m ++ ((k, a) ∷ beyond k m)
          → put k a (e ∷ m) ≡ before k (e ∷ m) ++ ((k, a) ∷ beyond k (e ∷ m))
      go (below l) h =
          rw (lt-ltb k e.0 l, le-ltb e.0 k (omega arith), ne_eqb e.0 k (λ z. omega arith)) refl
      go (same p) h =
          rw (le-ltb k e.0 (omega arith), le-ltb e.0 k (omega arith), eq-eqb k e.0 p, eq-eqb e.0 k (sym p))
          refl
      go (above l) h =
          rw (le-ltb k e.0 (omega arith), lt-ltb e.0 k l, ne_eqb k e.0 (λ z. omega arith))
          (ap (λ l. e ∷ l) h)

  -- a key that is hit
  pub record Hit (k : ℕ) (m : Map A) : Type 0 where
    pub here : A
    pub onward : onward k m ≡ (k, here) ∷ beyond k m
    pub get : get k m ≡ some here
    pub remove : remove k m ≡ before k m ++ beyond k m

  pub hit : (k : ℕ) (m : Map A) → hits k m ≡ true → Hit k m
  unfolding onward beyond hits before get remove
  hit k [] h = absurd cc
  hit k (e ∷ m) h = go (tri e.0 k) h (hit k m)
    where
      step : e.0 < k → Hit k m → Hit k (e ∷ m)
      step l r =
          record {
            here = r.here;
            onward = rw (lt-ltb e.0 k l) r.onward;
            get = rw (ne_eqb k e.0 (λ z. omega arith)) r.get;
            remove
                = rw (lt-ltb e.0 k l, ne_eqb k e.0 (λ z. omega arith)) (ap (λ l. e ∷ l) r.remove);
          }

      go : Tri e.0 k → hits k (e ∷ m) ≡ true → (hits k m ≡ true → Hit k m) → Hit k (e ∷ m)
      go (below l) q ih = step l (ih (sym (rw (lt-ltb e.0 k l) refl) ∙ q))
      go (same p) q ih =
          record {
            here = e.1;
            onward = rw (le-ltb e.0 k (omega arith), eq-eqb e.0 k p) (ap (λ x. (x, e.1) ∷ m) p);
            get = rw (eq-eqb k e.0 (sym p)) refl;
            remove
                = rw (le-ltb e.0 k (omega arith), eq-eqb e.0 k p, eq-eqb k e.0 (sym p)) refl;
          }
      go (above l) q ih =
          let w : false ≡ true
          = sym (rw (le-ltb e.0 k (omega arith), ne_eqb e.0 k (λ z. omega arith)) refl) ∙ q in
          absurd cc

  -- and one that is not: nothing is at k, and nothing is to be taken away
  pub miss_onward : (k : ℕ) (m : Map A) → hits k m ≡ false → onward k m ≡ beyond k m
  unfolding onward beyond hits
  miss_onward k [] h = refl
  miss_onward k (e ∷ m) h = go (tri e.0 k) h (miss_onward k m)
    where
      go : Tri e.0 k → hits k (e ∷ m) ≡ false → (hits k m ≡ false → onward k m ≡ beyond k m)
          → onward k (e ∷ m) ≡ beyond k (e ∷ m)
      go (below l) q ih = rw (lt-ltb e.0 k l) (ih (sym (rw (lt-ltb e.0 k l) refl) ∙ q))
      go (same p) q ih =
          let w : true ≡ false = sym (rw (le-ltb e.0 k (omega arith), eq-eqb e.0 k p) refl) ∙ q in
          absurd cc
      go (above l) q ih = rw (le-ltb e.0 k (omega arith), ne_eqb e.0 k (λ z. omega arith)) refl

  pub miss_get : (k : ℕ) (m : Map A) → Rising m → hits k m ≡ false → get k m ≡ none
  unfolding hits
  miss_get k [] u h = get_none k
  miss_get k (e ∷ m) u h = go (tri e.0 k) h (miss_get k m (above_rising e.0 m u))
    where
      go : Tri e.0 k → hits k (e ∷ m) ≡ false → (hits k m ≡ false → get k m ≡ none) → get k (e ∷ m) ≡ none
      go (below l) q ih =
          get_tail k e m (λ z. omega arith) ∙ ih (sym (rw (lt-ltb e.0 k l) refl) ∙ q)
      go (same p) q ih =
          let w : true ≡ false = sym (rw (le-ltb e.0 k (omega arith), eq-eqb e.0 k p) refl) ∙ q in
          absurd cc
      go (above l) q ih = get_above k k (e ∷ m) (l, u) (omega arith)

  pub record Miss (k : ℕ) (m : Map A) : Type 0 where
    pub onward : onward k m ≡ beyond k m
    pub get : get k m ≡ none

  pub miss : (k : ℕ) (m : Map A) → Rising m → hits k m ≡ false → Miss k m
  miss k m u h = record { onward = miss_onward k m h; get = miss_get k m u h }

pub entries_append : {A : Type 0} (w : A → List ℕ) (m n : Map A) → entries w (m ++ n) ≡ entries w m ++ entries w n
entries_append w [] n = refl
entries_append w (e ∷ m) n =
    ap (λ l. e.0 ∷ l)
    (ap (λ l. w e.1 ++ l) (entries_append w m n) ∙ sym (append_assoc (w e.1) (entries w m) (entries w n)))

-- what a place says
pub placed_hit : (b : Bool) (x a : ℕ) → Ok a ≡ place_if b x → (b ≡ true) × (a ≡ x)
placed_hit true x a e = (refl, cc)
placed_hit false x a e = absurd cc

pub placed_miss : (b : Bool) (x a : ℕ) → Err a ≡ place_if b x → (b ≡ false) × (a ≡ x)
placed_miss true x a e = absurd cc
placed_miss false x a e = (refl, cc)

-- the loop of a search: what is left of the map holds the answer
module _ {A : Type 0} (w : A → List ℕ) (ok : A → Type 0) (top : ℕ) where
  pub record Seeking (s : List ℕ) (at n k p i : ℕ) : Type 0 where
    pub high : at ≤ length s → p ≤ length s
    pub sees : (m : Map A) (low : ℕ) → Listed ok top low m → Stands s at (entries w m) → length m ≡ n
        → Left w ok top s n p i (λ x. seek_of w p k x ≡ seek_of w at k m)

  pub seek_start : (s : List ℕ) (at n k : ℕ) → Seeking s at n k at 0
  seek_start s at n k =
      record {
        high = λ h. h;
        sees = λ m low u h c.
            record { map = m; low = low; listed = u; stand = h; count = omega arith; holds = refl };
      }

  module _ (s : List ℕ) (at n k p i : ℕ) (g : Seeking s at n k p i) where
    none_left : seek_of w p k [] ≡ Err p
    unfolding before hits
    none_left = let q : p + 0 ≡ p = omega arith in ap Err q

    -- at the end of the map
    pub seek_none : n ≤ i → Seeks w ok top s at n k (Err p)
    seek_none l =
        record {
          high = g.high;
          answer = λ m low u h c. sym none_left ∙ left_none w ok top (g.sees m low u h c) l;
        }

    -- past the end of s
    pub seek_out : i < n → length s ≤ p → Seeks w ok top s at n k (Err p)
    seek_out l o =
        record {
          high = g.high;
          answer = λ m low u h c.
              left_some w ok top (g.sees m low u h c) l (λ y x d e. let z = d.inside in absurd (omega arith));
        }

    module _ (l : i < n) (x : ℕ) (is : x ≡ get_or s p 0) where
      -- at the key or a higher one
      here : k ≤ x → (r : Result ℕ ℕ) → r ≡ place_if (eqb x k) p → (y : ℕ × A) (z : Map A) → x ≡ y.0
          → r ≡ seek_of w p k (y ∷ z)
      unfolding before hits
      here o r e y z v =
          let b : ltb y.0 k ≡ false = le-ltb y.0 k (omega arith) in
          let q : p + 0 ≡ p = omega arith in
          e ∙ sym (rw b (λ j. place_if (eqb (sym v j) k) (q j)))

      found : k ≤ x → (r : Result ℕ ℕ) → r ≡ place_if (eqb x k) p → Seeks w ok top s at n k r
      found o r e =
          record {
            high = λ h. subst (λ r. place_in r ≤ length s) (sym e) (at_place (eqb x k) (g.high h));
            answer = λ m low u h c.
                left_some w ok top (g.sees m low u h c) l (λ y z t f. here o r e y z (is ∙ t.key) ∙ f);
          }
        where
          at_place : (b : Bool) → p ≤ length s → place_in (place_if b p) ≤ length s
          at_place true h = h
          at_place false h = h

      pub seek_hit : Equal ≡ nat_cmp k x → Seeks w ok top s at n k (Ok p)
      seek_hit e =
          let o = ranked k x Equal e in
          found (omega arith) (Ok p) (ap (λ b. place_if b p) (sym (eq-eqb x k (sym o))))

      pub seek_over : Less ≡ nat_cmp k x → Seeks w ok top s at n k (Err p)
      seek_over e =
          let o = ranked k x Less e in
          found (omega arith) (Err p) (ap (λ b. place_if b p) (sym (ne_eqb x k (λ z. omega arith))))

      pub seek_next : Greater ≡ nat_cmp k x → (q : ℕ) → Past w ok s (p + 1) q → Seeking s at n k q (i + 1)
      unfolding before hits
      seek_next c q past =
          let o = ranked k x Greater c in
          record {
            high = λ h. past.high;
            sees = λ m low u h e.
                left_next w ok top (g.sees m low u h e) l q past (λ y z t e h. over o y z (is ∙ t.key) e ∙ h);
          }
        where
          over : x < k → (y : ℕ × A) (z : Map A) → x ≡ y.0 → q ≡ p + 1 + length (w y.1)
              → seek_of w q k z ≡ seek_of w p k (y ∷ z)
          over o y z v e =
              let b : ltb y.0 k ≡ true = lt-ltb y.0 k (omega arith) in
              let la = length-append (w y.1) (entries w (before k z)) in
              let t : q + length (entries w (before k z))
              ≡ p + length (y.0 ∷ (w y.1 ++ entries w (before k z)))
              = omega arith in
              rw b (ap (place_if (hits k z)) t)

-- a cell ends where its value does
pub cell_ends : (s : List ℕ) (at q : ℕ) → EndsAt s at q → (c : Cell) → ValidCell c → Stands s at (cell_words c)
    → q ≡ at + length (cell_words c)
cell_ends s at q e (plain v) ok h = e.ends v ok.0.0 h

-- an entry ends where its value does
pub entry_past : (s : List ℕ) (at q : ℕ) → EndsAt s at q → Past cell_words ValidCell s at q
entry_past s at q e = record { high = e.high; ends = cell_ends s at q e }
