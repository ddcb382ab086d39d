-- The place of work (01, "One step": "found from the top"; 001, decompose): as a relation, and as the search that
-- finds it.
use Rattle.std.specs.Prelude.{ℕ, ◌≡◌, List, [], ◌∷◌, Bool, true, false, cond, T}
use Rattle.std.proofs.Math.Option.{Option, none, some}
use Rattle.calculus.specs.Expressions.{number, location, One, ref, read, fork, join, Two, apply, assign}
use Rattle.calculus.specs.Expressions.{arithmetic}
use Rattle.calculus.specs.Expressions.{Expression, constant, leaf, lambda, one, two, if}
use Rattle.calculus.specs.Formed.{value}
use Rattle.calculus.specs.Redexes.{Redex, as_leaf, redex_one, redex_two, redex_if, redex}

-- a node with a hole for one of its children
pub data Frame : Type 0 where
  only : One → Frame
  first_of : Two → Expression → Frame
  second_of : Two → Expression → Frame
  condition : Expression → Expression → Frame

abbrev pub fill : Frame → Expression → Expression
fill (only o) e = one o e
fill (first_of o b) e = two o e b
fill (second_of o a) e = two o a e
fill (condition b c) e = if e b c

-- an evaluation context: frames from the top down to the hole
abbrev pub Context : Type 0
Context = List Frame

abbrev pub plug : Context → Expression → Expression
plug [] e = e
plug (f ∷ E) e = fill f (plug E e)

abbrev pub present : Option ℕ → Bool
present none = false
present (some n) = true

-- "apply enters the second child" after a value, "assign only after a location; add, subtract and less only after a
-- number"
abbrev pub enters_second : Two → Expression → Bool
enters_second apply a = value a
enters_second assign a = present (as_leaf location a)
enters_second (arithmetic o) a = present (as_leaf number a)

-- may the hole be entered? ("fork never")
abbrev pub enters : Frame → Bool
enters (only ref) = true
enters (only read) = true
enters (only fork) = false
enters (only join) = true
enters (first_of o b) = true
enters (second_of o a) = enters_second o a
enters (condition b c) = true

-- `Decomposed e E R`: e is E around the redex R, and every hole on the way may be entered
pub data Decomposed : Expression → Context → Redex → Type 0 where
  here : {e : Expression} {R : Redex} → redex e ≡ some R → Decomposed e [] R
  within : (f : Frame) {e : Expression} {E : Context} {R : Redex} → T (enters f) → Decomposed e E R
      → Decomposed (fill f e) (f ∷ E) R

-- the search: a value has no place of work; else a redex in its context, or the node where no rule goes on
pub data Place : Type 0 where
  is_value : Place
  works_at : Context → Redex → Place
  stuck_at : Context → Expression → Place

abbrev pub under : Frame → Place → Place
under f is_value = is_value
under f (works_at E R) = works_at (f ∷ E) R
under f (stuck_at E e) = stuck_at (f ∷ E) e

-- the redex that stands here, or else p
abbrev pub or_elsewhere : Option Redex → Place → Place
or_elsewhere (some R) p = works_at [] R
or_elsewhere none p = p

unfoldable pub place : Expression → Place
place (constant c) = is_value
place (leaf k n) = is_value
place (lambda x A e) = is_value
place (one o e) =
    or_elsewhere (redex_one o e) (cond (value e) (stuck_at [] (one o e)) (under (only o) (place e)))
place (two o a b) =
    or_elsewhere (redex_two o a b)
    (cond (value a)
    (cond (value b) (stuck_at [] (two o a b))
    (cond (enters_second o a) (under (second_of o a) (place b)) (stuck_at [] (two o a b))))
    (under (first_of o b) (place a)))
place (if a b c) =
    or_elsewhere (redex_if a b c) (cond (value a) (stuck_at [] (if a b c)) (under (condition b c) (place a)))
