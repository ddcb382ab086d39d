-- One step of revision r as a function of the state (01, "One step"), with what it comes to where there is no step.
use Rattle.std.specs.Prelude.{ℕ, cond}
use Rattle.std.proofs.Math.Option.{Option, none, some}
use Rattle.calculus.specs.Maps.{get, put, remove}
use Rattle.calculus.specs.Expressions.{unit, location, revision, constant, leaf}
use Rattle.calculus.specs.Formed.{value}
use Rattle.calculus.specs.Numbers.{choose, calculated}
use Rattle.calculus.specs.Stores.{Cell, content, written}
use Rattle.calculus.specs.States.{Task, State, view, absorbed}
use Rattle.calculus.specs.Substitution.{substituted}
use Rattle.calculus.specs.Redexes.{Redex, applying, choosing, making, reading, assigning}
use Rattle.calculus.specs.Redexes.{forking, joining, calculating}
use Rattle.calculus.specs.Places.{Context, plug, Place, is_value, works_at, stuck_at, place}
use Rattle.calculus.specs.NewNumbers.{new_location, new_revision}
use Rattle.calculus.specs.Rules.{become, child}

-- "A stuck answer carries inside it which of the two reasons it has"
pub data Reason : Type 0 where
  by_shape by_location : Reason

pub data Outcome : Type 0 where
  next : State → Outcome
  emptied finished waits : Outcome
  stuck : Reason → Outcome
  not_live no_number : Outcome

-- with the new number, if there is one
abbrev pub with_new : Option ℕ → (ℕ → Outcome) → Outcome
with_new none f = no_number
with_new (some n) f = f n

-- with the cell, if it is there, else stuck for the reason given
abbrev pub with_cell : Reason → Option Cell → (Cell → Outcome) → Outcome
with_cell ρ none f = stuck ρ
with_cell ρ (some c) f = f c

-- with the task to join: not live, live with a value, live without
abbrev pub with_joined : Option Task → (Task → Outcome) → Outcome
with_joined none f = emptied
with_joined (some other) f = cond (value other.expression) (f other) waits

abbrev pub act : ℕ → State → Task → Context → Redex → Outcome
act r s me E (applying f v) =
    next (put r (become me me.local (plug E (substituted f.variable v f.body))) s)
act r s me E (choosing t b c) = next (put r (become me me.local (plug E (choose t b c))) s)
act r s me E (making c) =
    with_new (new_location s) λ l. next (put r (become me (put l c me.local) (plug E (leaf location l))) s)
act r s me E (reading l) =
    with_cell by_location (get l (view me)) λ c. next (put r (become me me.local (plug E (content c))) s)
act r s me E (assigning l v) =
    with_cell by_location (written (view me) l v) λ c.
    next (put r (become me (put l c me.local) (plug E (constant unit))) s)
act r s me E (forking e) =
    with_new (new_revision s) λ r'.
    next (put r' (child me e) (put r (become me me.local (plug E (leaf revision r'))) s))
act r s me E (joining r') =
    with_joined (get r' s) λ other.
    next (put r (become me (absorbed me other) (plug E (constant unit))) (remove r' s))
act r s me E (calculating o m n) = next (put r (become me me.local (plug E (calculated o m n))) s)

abbrev pub step_at : ℕ → State → Task → Place → Outcome
step_at r s me is_value = finished
step_at r s me (works_at E R) = act r s me E R
step_at r s me (stuck_at E e) = stuck by_shape

abbrev pub step_of : ℕ → State → Option Task → Outcome
step_of r s none = not_live
step_of r s (some me) = step_at r s me (place me.expression)

unfoldable pub step : ℕ → State → Outcome
step r s = step_of r s (get r s)
