-- A walk that matches readers which stand one after the other.
use Prim.Native.Nat.{ℕ, ◌+◌, ◌≤◌, ◌<◌}
use mathlib.Core.List.{List, ◌∷◌}
use mathlib.Core.Option.{Option as Maybe, none, some}
use mathlib.Core.Path.{◌≡◌, sym, ap, ◌∙◌, subst}
use native.Mathlib.Numerals.{add-one}
use lib.ListN.{length, get_or, drop}
use lib.Seq.{drop-cons}
use Rattle.calculus.specs.Options.{◌▸◌}
use Rattle.std.specs.Prelude.{Option, Some, None}
use Rattle.image.specs.Matches.{Matches}

-- the words at a place
pub cons_at : (s : List ℕ) (p : ℕ) → p < length s → drop p s ≡ get_or s p 0 ∷ drop (p + 1) s
cons_at s p h = drop-cons s p 0 h ∙ ap (λ i. get_or s p 0 ∷ drop i s) (sym (add-one p))

-- a reader that goes on after another
pub broken : {A B : Type 0} (s : List ℕ) (m : Maybe (A × List ℕ)) (f : A × List ℕ → Maybe (B × List ℕ))
    → Matches s m None → Matches s (m ▸ f) None
broken s none f h = tt
broken s (some p) f h = absurd h

pub goes_on : {A B : Type 0} (s : List ℕ) (m : Maybe (A × List ℕ)) (f : A × List ℕ → Maybe (B × List ℕ)) (e : ℕ)
    (w : Option ℕ) → Matches s m (Some e) → ((a : A) → Matches s (f (a, drop e s)) w) → Matches s (m ▸ f) w
goes_on s none f e w h k = absurd h
goes_on s (some p) f e w h k = subst (λ x. Matches s (f (p.0, x)) w) (sym h.0) (k p.0)

-- and one that only makes something of what was read
pub made : {A B : Type 0} (s : List ℕ) (m : Maybe (A × List ℕ)) (g : A → B) (w : Option ℕ) → Matches s m w
    → Matches s (m ▸ λ q. some (g q.0, q.1)) w
made s none g None h = tt
made s none g (Some e) h = absurd h
made s (some p) g None h = absurd h
made s (some p) g (Some e) h = h

pub ends_in : {A : Type 0} (s : List ℕ) (m : Maybe (A × List ℕ)) (e : ℕ) → Matches s m (Some e) → e ≤ length s
ends_in s none e h = absurd h
ends_in s (some p) e h = h.1
