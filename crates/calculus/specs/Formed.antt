-- Which trees are expressions of the paper (01, "Expressions as words"): own words in range, values, closed, handles.
use Rattle.std.specs.Prelude.{ℕ, ◌≤◌, List, [], ◌∷◌, Bool, true, false, ◌&&◌, ◌||◌, eqb}
use Rattle.calculus.specs.Expressions.{Leaf, number, variable, location, revision}
use Rattle.calculus.specs.Expressions.{Expression, constant, leaf, lambda, one, two, if}
use Rattle.calculus.specs.Tags.{largest}

-- each own word is in its range
unfoldable pub Formed : Expression → Type 0
Formed (constant c) = Unit {0}
Formed (leaf k n) = n ≤ largest k
Formed (lambda x A e) = (x ≤ largest variable) × Formed e
Formed (one o e) = Formed e
Formed (two o a b) = Formed a × Formed b
Formed (if a b c) = Formed a × Formed b × Formed c

-- "Values are tags 0 to 7"
abbrev pub value : Expression → Bool
value (constant c) = true
value (leaf k n) = true
value (lambda x A e) = true
value (one o e) = false
value (two o a b) = false
value (if a b c) = false

unfoldable pub member : ℕ → List ℕ → Bool
member k [] = false
member k (j ∷ l) = eqb k j || member k l

-- no variable is free but those of the list; "closed (no free variable)"
unfoldable pub closed_in : List ℕ → Expression → Bool
closed_in xs (constant c) = true
closed_in xs (leaf number n) = true
closed_in xs (leaf variable n) = member n xs
closed_in xs (leaf location n) = true
closed_in xs (leaf revision n) = true
closed_in xs (lambda x A e) = closed_in (x ∷ xs) e
closed_in xs (one o e) = closed_in xs e
closed_in xs (two o a b) = closed_in xs a && closed_in xs b
closed_in xs (if a b c) = closed_in xs a && (closed_in xs b && closed_in xs c)

abbrev pub closed : Expression → Bool
closed e = closed_in [] e

-- is it a location or a revision ("tags 5 and 6")?
abbrev pub handle : Leaf → Bool
handle number = false
handle variable = false
handle location = true
handle revision = true

unfoldable pub holds_handle : Expression → Bool
holds_handle (constant c) = false
holds_handle (leaf k n) = handle k
holds_handle (lambda x A e) = holds_handle e
holds_handle (one o e) = holds_handle e
holds_handle (two o a b) = holds_handle a || holds_handle b
holds_handle (if a b c) = holds_handle a || (holds_handle b || holds_handle c)
