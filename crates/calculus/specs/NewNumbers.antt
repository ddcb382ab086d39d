-- New numbers (01, "One step", ref and fork): what is named where, and the smallest number that is not taken.
use Rattle.std.specs.Prelude.{ℕ, zero, suc, List, [], ◌∷◌, ◌++◌, true, false, cond}
use Rattle.std.proofs.Math.Option.{Option, none, some}
use Rattle.calculus.specs.Maps.{keys}
use Rattle.calculus.specs.Expressions.{Leaf, revision, Expression, constant, leaf, lambda, one, two, if}
use Rattle.calculus.specs.Formed.{member}
use Rattle.calculus.specs.Redexes.{same_leaf}
use Rattle.calculus.specs.Stores.{content, Store}
use Rattle.calculus.specs.States.{Task, State}

-- the own words of an expression's leaves of a kind, lambda bodies included
unfoldable pub named : Leaf → Expression → List ℕ
named k (constant c) = []
named k (leaf j n) = cond (same_leaf k j) (n ∷ []) []
named k (lambda x A e) = named k e
named k (one o e) = named k e
named k (two o a b) = named k a ++ named k b
named k (if a b c) = named k a ++ (named k b ++ named k c)

unfoldable pub named_in_store : Leaf → Store → List ℕ
named_in_store k [] = []
named_in_store k (e ∷ m) = named k (content e.1) ++ named_in_store k m

-- in any snapshot value, also one that the local store hides, any local value, the expression
unfoldable pub named_in_task : Leaf → Task → List ℕ
named_in_task k me = named_in_store k me.snapshot ++ (named_in_store k me.local ++ named k me.expression)

-- the locations that a new one avoids: "in no snapshot and no local store of any live revision"
unfoldable pub taken_locations : State → List ℕ
taken_locations [] = []
taken_locations (e ∷ s) = keys e.1.snapshot ++ (keys e.1.local ++ taken_locations s)

-- the revision numbers that a new one avoids: "neither live nor mentioned anywhere in the state"
unfoldable pub taken_revisions : State → List ℕ
taken_revisions [] = []
taken_revisions (e ∷ s) = e.0 ∷ (named_in_task revision e.1 ++ taken_revisions s)

-- the smallest of k .. k + n - 1 that is not in the list
unfoldable pub smallest : ℕ → ℕ → List ℕ → Option ℕ
smallest zero k taken = none
smallest (suc n) k taken = elim (member k taken) [ true ↦ smallest n (suc k) taken | false ↦ some k ]

-- "the smallest of 0..255", "the smallest of 0..63"
abbrev pub new_location : State → Option ℕ
new_location s = smallest 256 0 (taken_locations s)

abbrev pub new_revision : State → Option ℕ
new_revision s = smallest 64 0 (taken_revisions s)
