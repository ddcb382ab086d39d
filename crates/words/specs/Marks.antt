-- Marks of numbers, and which are set for the names that stand in words.
use Rattle.std.specs.Prelude.{ℕ, ◌≡◌, List, [], ◌∷◌, Bool, true, false, set, replicate}
use Rattle.calculus.specs.Expressions.{Leaf, location, revision, Expression}
use Rattle.calculus.specs.Words.{words}
use Rattle.calculus.specs.Formed.{Formed}
use Rattle.calculus.specs.NewNumbers.{named}
use Rattle.words.specs.declared.in_use.InUse.{InUse}

-- the marks with those of the numbers set; a number past their end marks nothing
unfoldable pub mark_all : List ℕ → List Bool → List Bool
mark_all [] m = m
mark_all (n ∷ ns) m = mark_all ns (set m n true)

-- nothing is marked
pub record Clear (u : InUse) : Type 0 where
  pub marks : u.marks ≡ replicate 64 false
  pub count : u.count ≡ 0

-- one number more is marked
pub record Marked (u : InUse) (n : ℕ) (r : InUse) : Type 0 where
  pub marks : r.marks ≡ set u.marks n true

-- the numbers that the leaves of the kind name are marked too
pub record NamesMarked (s : List ℕ) (k : Leaf) (m r : List Bool) : Type 0 where
  pub marks : (e : Expression) → s ≡ words e → Formed e → r ≡ mark_all (named k e) m

pub record RevisionsMarked (s : List ℕ) (u r : InUse) : Type 0 where
  pub marks : (e : Expression) → s ≡ words e → Formed e → r.marks ≡ mark_all (named revision e) u.marks

pub record LocationsMarked (s : List ℕ) (m r : List Bool) : Type 0 where
  pub marks : (e : Expression) → s ≡ words e → Formed e → r ≡ mark_all (named location e) m
