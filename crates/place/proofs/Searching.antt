-- The loop of the search: what stands at p has the same place of work as the whole.
use Prim.Native.Nat.{ℕ, ◌+◌, ◌-◌, ◌<◌}
use mathlib.Core.Path.{subst as along, ◌≡◌, refl, sym, ap, ◌∙◌}
use mathlib.Core.List.{List, [], ◌++◌}
use native.Mathlib.Omega.{arith}
use lib.ListN.{length, length-append}
use Rattle.calculus.specs.Expressions.{Expression}
use Rattle.calculus.specs.Words.{words}
use Rattle.calculus.specs.Formed.{Formed}
use Rattle.calculus.specs.Places.{Frame, Place, is_value, works_at, stuck_at, under, place}
use Rattle.image.specs.Standing.{Stands}
use Rattle.image.proofs.Standing.{stands_left, stands_right, stands_at, stands_as}
use Rattle.place.specs.declared.Move.{Move}
use Rattle.place.specs.declared.Move.TheVariants.{Enter, IsRedex, IsStuck}
use Rattle.place.specs.declared.Spot.{Spot}
use Rattle.place.specs.declared.Spot.TheVariants.{RedexAt, StuckAt}
use Rattle.place.specs.Search.{leading, trailing, prefix, Finds, Forward, Looks, spot_of, Placed}
use Rattle.place.proofs.Contexts.{words_fill, formed_child}

pub record Seen (s : List ℕ) (p : ℕ) (r : Spot) : Type 0 where
  pub tree : Expression
  pub formed : Formed tree
  pub stands : Stands s p (words tree)
  pub same : r ≡ spot_of p (place tree)

pub record Going (s : List ℕ) (at p : ℕ) : Type 0 where
  pub sees : (e : Expression) → Formed e → Stands s at (words e) → Seen s p (spot_of at (place e))

pub start : (s : List ℕ) (at : ℕ) → Going s at at
start s at = record { sees = λ e f h. record { tree = e; formed = f; stands = h; same = refl } }

-- the place of work in a frame is that of what it holds
spot_under : (p : ℕ) (f : Frame) (q : Place) → spot_of p (under f q) ≡ spot_of (p + length (leading f)) q
unfolding prefix
spot_under p f is_value = refl
spot_under p f (works_at E R) = ap RedexAt (omega (arith, length-append (leading f) (prefix E)))
spot_under p f (stuck_at E e) = ap StuckAt (omega (arith, length-append (leading f) (prefix E)))

spot_here : (p : ℕ) → p + length (prefix []) ≡ p
unfolding prefix
spot_here p = omega arith

module _ (s : List ℕ) (at p : ℕ) (g : Going s at p) where
  module _ (m : Move) (l : Looks s p m) where
    finds : (r : Move) → m ≡ r → (e : Expression) → Formed e → Stands s p (words e) → Finds p e r
    finds r z e f h = along (Finds p e) z (l.finds e f h)

    pub enter : (q : ℕ) → m ≡ Enter q → Going s at q
    enter q z = record { sees = λ e f h. go (g.sees e f h) }
      where
        go : {r : Spot} → Seen s p r → Seen s q r
        go v =
            let n = finds (Enter q) z v.tree v.formed v.stands in
            let a = n.frame in
            let c = n.child in
            record {
              tree = c;
              formed = formed_child a c (along Formed (sym n.whole) v.formed);
              stands = stands_at q (sym n.at)
                  (stands_left (words c) (trailing a)
                  (stands_right (leading a) (words c ++ trailing a)
                  (stands_as (ap words (sym n.whole) ∙ words_fill a c) v.stands)));
              same = v.same
                  ∙ ap (spot_of p) n.same
                  ∙ spot_under p a (place c)
                  ∙ ap (λ i. spot_of i (place c)) (sym n.at);
            }

    pub stop_redex : m ≡ IsRedex → Placed s at (RedexAt p)
    stop_redex z =
        record {
          answer = λ e f h.
              let v = g.sees e f h in
              let (R, w) = finds IsRedex z v.tree v.formed v.stands in
              sym (v.same ∙ ap (spot_of p) w ∙ ap RedexAt (spot_here p));
        }

    pub stop_stuck : m ≡ IsStuck → Placed s at (StuckAt p)
    stop_stuck z =
        record {
          answer = λ e f h.
              let v = g.sees e f h in
              let w = finds IsStuck z v.tree v.formed v.stands in
              sym (v.same ∙ ap (spot_of p) w ∙ ap StuckAt (spot_here p));
        }

-- each turn goes forward
pub falls : (s : List ℕ) (p q : ℕ) (m : Move) → Looks s p m → m ≡ Enter q → length s - q < length s - p
falls s p q m k e = let f : (p < length s) × (p < q) = along (Forward s p) e k.forward in omega arith
