-- The search for the place of work calls a value what is a value, and nothing else.
use Prim.Native.Nat.{ℕ}
use mathlib.Core.Bool.{true, false, Bool, cond}
use mathlib.Core.List.{[]}
use mathlib.Core.Logic.{◌≢◌}
use mathlib.Core.Option.{Option, some, none}
use mathlib.Core.Path.{◌≡◌, refl, sym}
use native.Mathlib.Omega.{arith}
use Rattle.calculus.specs.Expressions.{Expression, constant, leaf, lambda, one, two, if}
use Rattle.calculus.specs.Formed.{value}
use Rattle.calculus.specs.Redexes.{Redex, redex_one, redex_two, redex_if}
use Rattle.calculus.specs.Places.{place, is_value, Context, works_at, stuck_at, under, Frame, Place, or_elsewhere}
use Rattle.calculus.specs.Places.{only, enters_second, second_of, first_of, condition}
use Rattle.calculus.proofs.Places.{true≢false}

pub value_place : (e : Expression) → value e ≡ true → place e ≡ is_value
unfolding place
value_place (constant c) h = refl
value_place (leaf k n) h = refl
value_place (lambda x A e) h = refl
value_place (one o e) h = true≢false (sym h)
value_place (two o a b) h = true≢false (sym h)
value_place (if a b c) h = true≢false (sym h)

work≢value : {E : Context} {R : Redex} {C : Type 0} → works_at E R ≡ is_value → C
work≢value h = absurd (let z : ◌≡◌ {A = ℕ} 0 1 = cc in omega arith)

stuck≢value : {E : Context} {e : Expression} {C : Type 0} → stuck_at E e ≡ is_value → C
stuck≢value h = absurd (let z : ◌≡◌ {A = ℕ} 0 1 = cc in omega arith)

under_value : (f : Frame) (p : Place) → under f p ≡ is_value → p ≡ is_value
under_value f is_value h = refl
under_value f (works_at E R) h = work≢value h
under_value f (stuck_at E e) h = stuck≢value h

pub not_value_place : (e : Expression) → value e ≡ false → place e ≢ is_value
unfolding place
not_value_place (constant c) v h = true≢false v
not_value_place (leaf k n) v h = true≢false v
not_value_place (lambda x A e) v h = true≢false v
not_value_place (one o e) v h = go (redex_one o e) (value e) refl h (λ u. not_value_place e u)
  where
    go : (m : Option Redex) (b : Bool) → value e ≡ b
        → or_elsewhere m (cond b (stuck_at [] (one o e)) (under (only o) (place e))) ≡ is_value
        → (value e ≡ false → place e ≢ is_value) → ⊥
    go (some R) b u h ih = work≢value h
    go none true u h ih = stuck≢value h
    go none false u h ih = ih u (under_value (only o) (place e) h)
not_value_place (two o a b) v h =
    go (redex_two o a b) (value a) (value b) (enters_second o a) refl refl h (λ u. not_value_place a u)
    (λ u. not_value_place b u)
  where
    inner : Bool → Bool → Place
    inner y z =
        cond y (stuck_at [] (two o a b)) (cond z (under (second_of o a) (place b)) (stuck_at [] (two o a b)))

    go : (m : Option Redex) (x y z : Bool) → value a ≡ x → value b ≡ y
        → or_elsewhere m (cond x (inner y z) (under (first_of o b) (place a))) ≡ is_value
        → (value a ≡ false → place a ≢ is_value) → (value b ≡ false → place b ≢ is_value) → ⊥
    go (some R) x y z u w h ia ib = work≢value h
    go none true true z u w h ia ib = stuck≢value h
    go none true false true u w h ia ib = ib w (under_value (second_of o a) (place b) h)
    go none true false false u w h ia ib = stuck≢value h
    go none false y z u w h ia ib = ia u (under_value (first_of o b) (place a) h)
not_value_place (if a b c) v h = go (redex_if a b c) (value a) refl h (λ u. not_value_place a u)
  where
    go : (m : Option Redex) (x : Bool) → value a ≡ x
        → or_elsewhere m (cond x (stuck_at [] (if a b c)) (under (condition b c) (place a))) ≡ is_value
        → (value a ≡ false → place a ≢ is_value) → ⊥
    go (some R) x u h ih = work≢value h
    go none true u h ih = stuck≢value h
    go none false u h ih = ih u (under_value (condition b c) (place a) h)
