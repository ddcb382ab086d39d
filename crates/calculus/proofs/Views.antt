-- What a task's view holds, and how views grow: by an entry, by a joined task's store, and that task's by the joiner's.
use Prim.Native.Nat.{ℕ}
use mathlib.Core.Option.{some, none, Option}
use mathlib.Core.Path.{◌≡◌, refl, ◌∙◌, sym}
use native.Mathlib.Decide.{ℕ_discrete}
use Rattle.calculus.specs.Maps.{get, overlaid, put}
use Rattle.calculus.specs.Expressions.{Expression}
use Rattle.calculus.specs.Stores.{Store, Cell, written, plain}
use Rattle.calculus.specs.States.{view, Task, absorbed}
use Rattle.calculus.proofs.Maps.{get_overlaid, get_put_same, get_put_other}
use Rattle.calculus.proofs.Stores.{absorbed_own, absorbed_other}

-- every location of the one store is in the other
abbrev pub Within : Store → Store → Type 0
Within m n = (l : ℕ) (c : Cell) → get l m ≡ some c → (d : Cell) × (get l n ≡ some d)

pub within_same : (m : Store) → Within m m
within_same m l c h = (c, h)

-- at a location an overlaid store holds what lies over, or else what lies under
pub over_seen : (m n : Store) (l : ℕ) (c : Cell) → get l n ≡ some c → get l (overlaid m n) ≡ some c
over_seen m n l c h = rw (get_overlaid l m n, h) refl

pub under_seen : (m n : Store) (l : ℕ) → get l n ≡ none → get l (overlaid m n) ≡ get l m
under_seen m n l h = rw (get_overlaid l m n, h) refl

pub under_within : (m n : Store) → Within m (overlaid m n)
under_within m n l c h = go (get l n) refl
  where
    go : (o : Option Cell) → get l n ≡ o → (d : Cell) × (get l (overlaid m n) ≡ some d)
    go none p = (c, under_seen m n l p ∙ h)
    go (some d) p = (d, over_seen m n l d p)

-- so a store lies within another where both what lies over and what lies under it do
pub overlaid_within : (m n k : Store) → Within m k → Within n k → Within (overlaid m n) k
overlaid_within m n k hm hn l c h = go (get l n) refl
  where
    go : (o : Option Cell) → get l n ≡ o → (d : Cell) × (get l k ≡ some d)
    go none p = hm l c (sym (under_seen m n l p) ∙ h)
    go (some d) p = hn l d p

-- an assignment or a new cell
pub put_grows : (m n : Store) (l : ℕ) (c : Cell) → Within (overlaid m n) (overlaid m (put l c n))
put_grows m n l c = overlaid_within m n (overlaid m (put l c n)) (under_within m (put l c n)) inside
  where
    inside : Within n (overlaid m (put l c n))
    inside k d h = go (ℕ_discrete k l)
      where
        go : Dec (k ≡ l) → (e : Cell) × (get k (overlaid m (put l c n)) ≡ some e)
        go (yes p) = (c, over_seen m (put l c n) k c (rw p (get_put_same l c n)))
        go (no q) = (d, over_seen m (put l c n) k d (get_put_other l k c n q ∙ h))

-- a join
pub join_grows : (me other : Task) → Within (view me) (overlaid me.snapshot (absorbed me other))
join_grows me other =
    overlaid_within me.snapshot me.local (overlaid me.snapshot (absorbed me other))
    (under_within me.snapshot (absorbed me other))
    (λ l c h.
    let (d, p) = absorbed_own me other l c h in (d, over_seen me.snapshot (absorbed me other) l d p))

pub join_holds : (me other : Task) → Within other.snapshot (view me)
    → Within (view other) (overlaid me.snapshot (absorbed me other))
join_holds me other w =
    overlaid_within other.snapshot other.local (overlaid me.snapshot (absorbed me other))
    (λ l c h. let (d, p) = w l c h in join_grows me other l d p)
    (λ l c h.
    let (d, p) = absorbed_other me other l c h in (d, over_seen me.snapshot (absorbed me other) l d p))

-- an assignment is made where the view holds the location, and only there
pub seen_written : (m : Store) (l : ℕ) (v : Expression) (c : Cell) → get l m ≡ some c
    → written m l v ≡ some (plain v)
unfolding written
seen_written m l v c h = rw h refl

pub unseen_written : (m : Store) (l : ℕ) (v : Expression) → get l m ≡ none → written m l v ≡ none
unfolding written
unseen_written m l v h = rw h refl
