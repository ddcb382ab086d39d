-- The search for the place of work on words (01, "One step": "found from the top"), against `place` on trees.
use Rattle.std.specs.Prelude.{ℕ, ◌+◌, ◌<◌, ◌≤◌, ◌≡◌, ◌⊎◌, Bool, true, false, List, [], ◌∷◌, ◌++◌, length, get_or, T}
use Rattle.std.specs.Prelude.{Option, Some, None}
use Rattle.std.proofs.Math.Option.{Option as Maybe, none, some}
use Rattle.calculus.specs.Expressions.{Expression, constant, leaf, lambda, one, two, if}
use Rattle.calculus.specs.Tags.{one_tag, two_tag, if_tag, tag_word}
use Rattle.calculus.specs.Words.{words}
use Rattle.calculus.specs.Formed.{Formed}
use Rattle.calculus.specs.Redexes.{Redex, redex}
use Rattle.calculus.specs.Places.{Frame, only, first_of, second_of, condition, fill, Context, enters_second}
use Rattle.calculus.specs.Places.{Place, is_value, works_at, stuck_at, under, place}
use Rattle.image.specs.Standing.{Stands, EndsAt}
use Rattle.words.specs.declared.tags.Tag.{Tag}
use Rattle.words.specs.Tags.{word_of}
use Rattle.place.specs.declared.Move.{Move}
use Rattle.place.specs.declared.Move.TheVariants.{Enter, IsValue, IsRedex, IsStuck}
use Rattle.place.specs.declared.Spot.{Spot}
use Rattle.place.specs.declared.Spot.TheVariants.{Value, RedexAt, StuckAt}

-- the tag of an expression is its first word
unfoldable pub top_tag : Expression → ℕ
top_tag e = get_or (words e) 0 0

-- may the second child be entered?
abbrev pub asks_second : Expression → Bool
asks_second (constant c) = false
asks_second (leaf k n) = false
asks_second (lambda x A e) = false
asks_second (one o a) = false
asks_second (two o a b) = enters_second o a
asks_second (if a b c) = false

-- t is the tag of the first child, if there is one; u is that of the second, if it may be entered
abbrev pub FirstTag : Expression → ℕ → Type 0
FirstTag (constant c) t = Unit {0}
FirstTag (leaf k n) t = Unit {0}
FirstTag (lambda x A e) t = Unit {0}
FirstTag (one o a) t = t ≡ top_tag a
FirstTag (two o a b) t = t ≡ top_tag a
FirstTag (if a b c) t = t ≡ top_tag a

abbrev pub SecondTag : Expression → ℕ → Type 0
SecondTag (constant c) u = Unit {0}
SecondTag (leaf k n) u = Unit {0}
SecondTag (lambda x A e) u = Unit {0}
SecondTag (one o a) u = Unit {0}
SecondTag (two o a b) u = T (enters_second o a) → u ≡ top_tag b
SecondTag (if a b c) u = Unit {0}

abbrev pub is_some : {A : Type 0} → Maybe A → Bool
is_some none = false
is_some (some a) = true

-- the tag that stands at `at`, and none past the end and of a word past the tags
abbrev pub TagAt : List ℕ → ℕ → Option Tag → Type 0
TagAt s at (Some t) = (at < length s) × (word_of t ≡ get_or s at 0)
TagAt s at None = (length s ≤ at) ⊎ (18 ≤ get_or s at 0)

-- what the tags say of every expression that has them
pub record Asks (g t : ℕ) (r : Bool) : Type 0 where
  pub answer : (e : Expression) → g ≡ top_tag e → FirstTag e t → r ≡ asks_second e

pub record RedexBy (g t u : ℕ) (r : Bool) : Type 0 where
  pub answer : (e : Expression) → g ≡ top_tag e → FirstTag e t → SecondTag e u → r ≡ is_some (redex e)

-- where a child stands, the first at `at` or the second
abbrev pub ChildAt : List ℕ → ℕ → Bool → ℕ → Type 0
ChildAt s at true r = EndsAt s at r
ChildAt s at false r = (r ≡ at)

-- the child whose tag decides, of a node whose tag is g and whose first child's, which stands at `at`, is t
pub record Decides (s : List ℕ) (g t at r : ℕ) : Type 0 where
  pub asks : Bool
  pub told : Asks g t asks
  pub child : ChildAt s at asks r

-- a frame's words on either side of its hole; a context's
abbrev pub leading : Frame → List ℕ
leading (only o) = tag_word (one_tag o) ∷ []
leading (first_of o b) = tag_word (two_tag o) ∷ []
leading (second_of o a) = tag_word (two_tag o) ∷ words a
leading (condition b c) = tag_word if_tag ∷ []

abbrev pub trailing : Frame → List ℕ
trailing (only o) = []
trailing (first_of o b) = words b
trailing (second_of o a) = []
trailing (condition b c) = words b ++ words c

unfoldable pub prefix : Context → List ℕ
prefix [] = []
prefix (f ∷ E) = leading f ++ prefix E

unfoldable pub suffix : Context → List ℕ
suffix [] = []
suffix (f ∷ E) = suffix E ++ trailing f

-- the search in e, which starts at p, goes on in a child, which starts at q
pub record Enters (p : ℕ) (e : Expression) (q : ℕ) : Type 0 where
  pub frame : Frame
  pub child : Expression
  pub whole : fill frame child ≡ e
  pub same : place e ≡ under frame (place child)
  pub at : q ≡ p + length (leading frame)

-- what a look at e finds
abbrev pub Finds : ℕ → Expression → Move → Type 0
Finds p e (Enter q) = Enters p e q
Finds p e IsValue = place e ≡ is_value
Finds p e IsRedex = (R : Redex) × (place e ≡ works_at [] R)
Finds p e IsStuck = place e ≡ stuck_at [] e

-- a child that is entered stands further on, after a word
abbrev pub Forward : List ℕ → ℕ → Move → Type 0
Forward s p (Enter q) = (p < length s) × (p < q)
Forward s p IsValue = Unit {0}
Forward s p IsRedex = Unit {0}
Forward s p IsStuck = Unit {0}

pub record Looks (s : List ℕ) (p : ℕ) (r : Move) : Type 0 where
  pub forward : Forward s p r
  pub finds : (e : Expression) → Formed e → Stands s p (words e) → Finds p e r

-- the answer for a place in an expression whose words start at p
abbrev pub spot_of : ℕ → Place → Spot
spot_of p is_value = Value
spot_of p (works_at E R) = RedexAt (p + length (prefix E))
spot_of p (stuck_at E e) = StuckAt (p + length (prefix E))

pub record Placed (s : List ℕ) (at : ℕ) (r : Spot) : Type 0 where
  pub answer : (e : Expression) → Formed e → Stands s at (words e) → r ≡ spot_of at (place e)
