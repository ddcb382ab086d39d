-- Which names stand in words, said of every tree that the words are.
use Rattle.std.specs.Prelude.{ℕ, ◌+◌, ◌<◌, ◌≤◌, ◌≡◌, List, [], ◌∷◌, ◌++◌, Bool, length, get_or, drop, Option, Some, None}
use Rattle.calculus.specs.Expressions.{Leaf, number, variable, location, revision, Expression}
use Rattle.calculus.specs.Words.{words}
use Rattle.calculus.specs.Formed.{Formed, holds_handle}
use Rattle.calculus.specs.NewNumbers.{named}
use Rattle.words.specs.declared.names.Leaf.{Leaf as LeafKind}
use Rattle.words.specs.declared.names.Leaf.TheVariants.{Number, Variable, Location, Revision}

-- the kind of leaf, as calculus has it
abbrev pub leaf_of : LeafKind → Leaf
leaf_of Number = number
leaf_of Variable = variable
leaf_of Location = location
leaf_of Revision = revision

-- trees that stand one after the other: their words, that each is formed, what they name
unfoldable pub all_words : List Expression → List ℕ
all_words [] = []
all_words (e ∷ es) = words e ++ all_words es

unfoldable pub AllFormed : List Expression → Type 0
AllFormed [] = Unit {0}
AllFormed (e ∷ es) = Formed e × AllFormed es

unfoldable pub all_named : Leaf → List Expression → List ℕ
all_named k [] = []
all_named k (e ∷ es) = named k e ++ all_named k es

-- the words from p on are the trees
pub record TreesAt (s : List ℕ) (p : ℕ) (es : List Expression) : Type 0 where
  pub written : drop p s ≡ all_words es
  pub formed : AllFormed es

-- of the trees that stand somewhere: what their first leaf of the kind is, and what stands after it
pub record FirstAt (s : List ℕ) (k : Leaf) (es : List Expression) (q : ℕ) : Type 0 where
  pub after : List Expression
  pub stands : TreesAt s (q + 2) after
  pub names : all_named k es ≡ get_or s (q + 1) 0 ∷ all_named k after

abbrev pub First : List ℕ → Leaf → List Expression → Option ℕ → Type 0
First s k es (Some q) = FirstAt s k es q
First s k es None = all_named k es ≡ []

-- a leaf that was found stands in the words, no earlier than `at`
abbrev pub Within : List ℕ → ℕ → Option ℕ → Type 0
Within s at (Some q) = (at ≤ q) × (q + 1 < length s)
Within s at None = Unit {0}

pub record NextLeaf (s : List ℕ) (at : ℕ) (k : LeafKind) (r : Option ℕ) : Type 0 where
  pub within : Within s at r
  pub first : (es : List Expression) → TreesAt s at es → First s (leaf_of k) es r

pub record HandleTold (s : List ℕ) (r : Bool) : Type 0 where
  pub told : (e : Expression) → s ≡ words e → Formed e → r ≡ holds_handle e
