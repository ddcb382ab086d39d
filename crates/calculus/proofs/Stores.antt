-- The laws of a store's cells, of what assign writes, of what a joiner's store becomes, and of a fact of every entry.
use Prim.Native.Nat.{ℕ}
use mathlib.Core.List.{[]}
use mathlib.Core.Logic.{◌⊎◌, inl, inr, ◌≢◌}
use mathlib.Core.Option.{some, Option, none}
use mathlib.Core.Path.{subst as along, ap, ◌≡◌, sym, refl, ◌∙◌}
use Rattle.calculus.specs.Maps.{Map, get, overlaid, Rising, put}
use Rattle.calculus.specs.Expressions.{Expression}
use Rattle.calculus.specs.Stores.{written, Cell, plain, content}
use Rattle.calculus.specs.States.{Task, absorbed}
use Rattle.calculus.proofs.Options.{▸-some, some_inj, none≢some}
use Rattle.calculus.proofs.Maps.{get_overlaid, or_else, rising_overlaid, get_none, put_cases}

-- an assignment is of a location in the view, and leaves an entry of the value assigned
pub written_at : (X : Map Cell) (l : ℕ) (v : Expression) (d : Cell) → written X l v ≡ some d
    → (c : Cell) × (get l X ≡ some c)
unfolding written
written_at X l v d h = let (c, p, q) = ▸-some (get l X) (λ c. some (plain v)) h in (c, p)

pub written_is : (X : Map Cell) (l : ℕ) (v : Expression) (d : Cell) → written X l v ≡ some d → content d ≡ v
unfolding written
written_is X l v d h = let (c, p, q) = ▸-some (get l X) (λ c. some (plain v)) h in ap content (sym (some_inj q))

-- the child's entry c at k comes to the joiner as d
abbrev pub Brought : Task → Task → ℕ → Cell → Cell → Type 0
Brought L J k c d = c ≡ d

-- what a joiner's store holds at k: its own entry, or what the child wrote
pub absorbed_from : (L J : Task) (k : ℕ) (d : Cell) → get k (absorbed L J) ≡ some d
    → (get k L.local ≡ some d) ⊎ ((c : Cell) × (get k J.local ≡ some c) × Brought L J k c d)
unfolding absorbed
absorbed_from L J k d h = go (get k J.local) refl (sym (get_overlaid k L.local J.local) ∙ h)
  where
    go : (o : Option Cell) → get k J.local ≡ o → or_else (get k J.local) (get k L.local) ≡ some d
        → (get k L.local ≡ some d) ⊎ ((c : Cell) × (get k J.local ≡ some c) × Brought L J k c d)
    go none p q = inl (ap (λ o. or_else o (get k L.local)) (sym p) ∙ q)
    go (some c) p q = inr (c, p, some_inj (ap (λ o. or_else o (get k L.local)) (sym p) ∙ q))

-- it holds what it held and what the child wrote
pub absorbed_own : (L J : Task) (k : ℕ) (c : Cell) → get k L.local ≡ some c
    → (d : Cell) × (get k (absorbed L J) ≡ some d)
unfolding absorbed
absorbed_own L J k c h = go (get k J.local) refl
  where
    go : (o : Option Cell) → get k J.local ≡ o → (d : Cell) × (get k (absorbed L J) ≡ some d)
    go none p = (c, get_overlaid k L.local J.local ∙ ap (λ o. or_else o (get k L.local)) p ∙ h)
    go (some d) p = (d, get_overlaid k L.local J.local ∙ ap (λ o. or_else o (get k L.local)) p)

pub absorbed_other : (L J : Task) (k : ℕ) (c : Cell) → get k J.local ≡ some c
    → (d : Cell) × (get k (absorbed L J) ≡ some d)
unfolding absorbed
absorbed_other L J k c h = (c, get_overlaid k L.local J.local ∙ ap (λ o. or_else o (get k L.local)) h)

pub rising_absorbed : (L J : Task) → Rising L.local → Rising (absorbed L J)
unfolding absorbed
rising_absorbed L J = rising_overlaid L.local J.local

-- a fact of every entry, and that it holds of what the rules make of stores
abbrev pub Every : (ℕ → Cell → Type 0) → Map Cell → Type 0
Every F m = (l : ℕ) (c : Cell) → get l m ≡ some c → F l c

module _ (F : ℕ → Cell → Type 0) where
  pub every_none : Every F []
  every_none l c h = none≢some (sym (get_none l) ∙ h)

  pub every_put : (k : ℕ) (d : Cell) (m : Map Cell) → F k d → Every F m → Every F (put k d m)
  every_put k d m hd hm l c h = go (put_cases l k d c m h)
    where
      go : ((l ≡ k) × (d ≡ c)) ⊎ ((l ≢ k) × (get l m ≡ some c)) → F l c
      go (inl (p, e)) = along (F l) e (along (λ l. F l d) (sym p) hd)
      go (inr (n, e)) = hm l c e

  pub every_overlaid : (m n : Map Cell) → Every F m → Every F n → Every F (overlaid m n)
  every_overlaid m n hm hn l c h = go (get l n) refl (sym (get_overlaid l m n) ∙ h)
    where
      go : (o : Option Cell) → get l n ≡ o → or_else (get l n) (get l m) ≡ some c → F l c
      go none p q = hm l c (ap (λ o. or_else o (get l m)) (sym p) ∙ q)
      go (some w) p q = hn l c (p ∙ (ap (λ o. or_else o (get l m)) (sym p) ∙ q))

  pub every_absorbed : (L J : Task) → Every F L.local → Every F J.local → Every F (absorbed L J)
  every_absorbed L J hl hj l d h = go (absorbed_from L J l d h)
    where
      go : (get l L.local ≡ some d) ⊎ ((c : Cell) × (get l J.local ≡ some c) × Brought L J l c d) → F l d
      go (inl p) = hl l d p
      go (inr (c, p, e)) = along (F l) e (hj l c p)
