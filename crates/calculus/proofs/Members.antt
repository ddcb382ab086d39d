-- Membership in a list of numbers, by its head and by its parts.
use Prim.Native.Nat.{ℕ}
use mathlib.Core.Bool.{Bool, ◌||◌, true, false}
use mathlib.Core.List.{List, ◌∷◌, ◌++◌, []}
use mathlib.Core.Logic.{◌⊎◌, inl, inr}
use mathlib.Core.Path.{◌≡◌, refl}
use lib.Dec.{T, eqb}
use Rattle.calculus.specs.Formed.{member}
use Rattle.calculus.proofs.Options.{true→eq, eqb_same}

pub member_cons : (n y : ℕ) (l : List ℕ) → T (member n (y ∷ l)) → (n ≡ y) ⊎ T (member n l)
unfolding member
member_cons n y l t = go (eqb n y) refl t
  where
    go : (b : Bool) → eqb n y ≡ b → T (b || member n l) → (n ≡ y) ⊎ T (member n l)
    go true p u = inl (true→eq n y p)
    go false p u = inr u

pub member_here : (n y : ℕ) (l : List ℕ) → n ≡ y → T (member n (y ∷ l))
unfolding member
member_here n y l e = rw (e, eqb_same y) tt

pub member_there : (n y : ℕ) (l : List ℕ) → T (member n l) → T (member n (y ∷ l))
unfolding member
member_there n y l t = go (eqb n y)
  where
    go : (b : Bool) → T (b || member n l)
    go true = tt
    go false = t

pub member_append : (k : ℕ) (a b : List ℕ) → member k (a ++ b) ≡ (member k a || member k b)
unfolding member
member_append k [] b = refl
member_append k (j ∷ a) b = go (eqb k j) (member_append k a b)
  where
    go : (c : Bool) → member k (a ++ b) ≡ (member k a || member k b)
        → (c || member k (a ++ b)) ≡ ((c || member k a) || member k b)
    go true h = refl
    go false h = h
