-- One node of the search on trees: where the place of work is, by what the node's children are.
use Prim.Native.Nat.{ℕ, ◌+◌}
use mathlib.Core.Path.{◌≡◌, refl, sym}
use mathlib.Core.Bool.{Bool, true, false, cond}
use mathlib.Core.Option.{Option, none, some}
use mathlib.Core.List.{[]}
use Rattle.calculus.specs.Expressions.{Leaf, Expression, constant, leaf, lambda, one, two, if}
use Rattle.calculus.specs.Expressions.{Two, apply, assign, arithmetic, location, number}
use Rattle.calculus.specs.Formed.{value}
use Rattle.calculus.specs.Redexes.{Redex, as_leaf, redex_one, redex_two, redex_if, redex}
use Rattle.calculus.specs.Places.{present, enters_second, only, first_of, second_of, condition}
use Rattle.calculus.specs.Places.{Place, is_value, works_at, stuck_at, under, or_elsewhere, place}
use Rattle.place.specs.Search.{asks_second, is_some, Enters}

is_none : {A : Type 0} (m : Option A) → false ≡ is_some m → m ≡ none
is_none none e = refl
is_none (some a) e = cc

-- a value; a redex
pub place_value : (e : Expression) → value e ≡ true → place e ≡ is_value
unfolding place
place_value (constant c) v = refl
place_value (leaf k n) v = refl
place_value (lambda x A e) v = refl
place_value (one o a) v = cc
place_value (two o a b) v = cc
place_value (if a b c) v = cc

found : (m : Option Redex) (p : Place) → true ≡ is_some m → (R : Redex) × (or_elsewhere m p ≡ works_at [] R)
found none p e = cc
found (some R) p e = (R, refl)

pub place_redex : (e : Expression) → true ≡ is_some (redex e) → (R : Redex) × (place e ≡ works_at [] R)
unfolding place
place_redex (constant c) r = cc
place_redex (leaf k n) r = cc
place_redex (lambda x A e) r = cc
place_redex (one o a) r = found (redex_one o a) _ r
place_redex (two o a b) r = found (redex_two o a b) _ r
place_redex (if a b c) r = found (redex_if a b c) _ r

-- the first child's value
abbrev pub FirstValue : Expression → Bool → Type 0
FirstValue (constant c) v = Unit {0}
FirstValue (leaf k n) v = Unit {0}
FirstValue (lambda x A e) v = Unit {0}
FirstValue (one o a) v = value a ≡ v
FirstValue (two o a b) v = value a ≡ v
FirstValue (if a b c) v = value a ≡ v

same_end : {A : Type 0} (b : Bool) (x : A) → cond b x x ≡ x
same_end true x = refl
same_end false x = refl

-- no redex: the node is stuck where its first child is a value, and else that child is entered
pub stuck_first : (e : Expression) → value e ≡ false → false ≡ is_some (redex e) → false ≡ asks_second e
    → FirstValue e true → place e ≡ stuck_at [] e
unfolding place
stuck_first (constant c) i n ask v = cc
stuck_first (leaf k m) i n ask v = cc
stuck_first (lambda x A e) i n ask v = cc
stuck_first (one o a) i n ask v = rw (is_none (redex_one o a) n, v)
stuck_first (two o a b) i n ask v =
    rw (is_none (redex_two o a b) n, v, ← ask) (same_end (value b) (stuck_at [] (two o a b)))
stuck_first (if a b c) i n ask v = rw (is_none (redex_if a b c) n, v)

pub enter_first : (p : ℕ) (e : Expression) → value e ≡ false → false ≡ is_some (redex e) → FirstValue e false
    → Enters p e (p + 1)
unfolding place
enter_first p (constant c) i n v = cc
enter_first p (leaf k m) i n v = cc
enter_first p (lambda x A e) i n v = cc
enter_first p (one o a) i n v =
    record { frame = only o; child = a; whole = refl; same = rw (is_none (redex_one o a) n, v); at = refl }
enter_first p (two o a b) i n v =
    record { frame = first_of o b; child = a; whole = refl; same = rw (is_none (redex_two o a b) n, v); at = refl }
enter_first p (if a b c) i n v =
    record { frame = condition b c; child = a; whole = refl; same = rw (is_none (redex_if a b c) n, v); at = refl }

-- where the second child may be entered, the first is a value
leaf_value : (k : Leaf) (e : Expression) → true ≡ present (as_leaf k e) → value e ≡ true
leaf_value k (constant c) t = refl
leaf_value k (leaf j n) t = refl
leaf_value k (lambda x A e) t = refl
leaf_value k (one o a) t = cc
leaf_value k (two o a b) t = cc
leaf_value k (if a b c) t = cc

first_value : (o : Two) (a : Expression) → true ≡ enters_second o a → value a ≡ true
first_value apply a t = sym t
first_value assign a t = leaf_value location a t
first_value (arithmetic o) a t = leaf_value number a t

module _ (o : Two) (a b : Expression) (ask : true ≡ enters_second o a) (n : false ≡ is_some (redex_two o a b)) where
  pub stuck_second : value b ≡ true → place (two o a b) ≡ stuck_at [] (two o a b)
  unfolding place
  stuck_second v = rw (is_none (redex_two o a b) n, first_value o a ask, v)

  pub enter_second : value b ≡ false → place (two o a b) ≡ under (second_of o a) (place b)
  unfolding place
  enter_second v = rw (is_none (redex_two o a b) n, first_value o a ask, v, ← ask)
