-- Types held as positions: what a position p of the script s stands for, with the table t of links.
use Rattle.std.specs.Prelude.{ℕ, ◌+◌, ◌-◌, ◌≤◌, ◌<◌, Bool, List, ◌∷◌, [], ◌++◌, ◌⊎◌, ◌≡◌, get_or, drop, length, Option}
use Rattle.std.specs.Prelude.{Some, None}
use Rattle.std.specs.Bool.{Decides}
use Rattle.std.proofs.Math.Option.{Option as Maybe, some, none}
use Rattle.typing.specs.declared.types.Head.{Head}
use Rattle.typing.specs.declared.types.Head.TheVariants.{Unit as UnitHead, Bool as BoolHead, Number, Rev, Reference}
use Rattle.typing.specs.declared.types.Head.TheVariants.{Function}
use Rattle.calculus.specs.Types.{Basic, unit_type, bool_type, num_type, rev_type, basic, ScriptType, reference, function}
use Rattle.calculus.specs.Words.{type_words}
use Rattle.words.specs.declared.tags.TypeTag.{TypeTag}
use Rattle.words.specs.declared.tags.TypeTag.TheVariants.{Unit as UnitTag, Bool as BoolTag, Number as NumberTag, Rev as RevTag}
use Rattle.words.specs.declared.tags.TypeTag.TheVariants.{Reference as ReferenceTag, Function as FunctionTag}

-- the tag of a type, by its head
abbrev pub head_tag : Head → TypeTag
head_tag UnitHead = UnitTag
head_tag BoolHead = BoolTag
head_tag Number = NumberTag
head_tag Rev = RevTag
head_tag (Reference n) = ReferenceTag
head_tag (Function m n) = FunctionTag

-- where the rest of the type is held, if it has one
abbrev pub head_rest : Head → Option ℕ
head_rest UnitHead = None
head_rest BoolHead = None
head_rest Number = None
head_rest Rev = None
head_rest (Reference n) = Some n
head_rest (Function m n) = Some n

-- the head of a basic type
abbrev pub basic_head : Basic → Head
basic_head unit_type = UnitHead
basic_head bool_type = BoolHead
basic_head num_type = Number
basic_head rev_type = Rev

-- the head of a basic type, if it is one
abbrev pub head_if : Maybe Basic → Option Head
head_if none = None
head_if (some b) = Some (basic_head b)

-- for each tag from 0 the basic type of its node, if it has one whatever its children are
abbrev pub basics : List (Maybe Basic)
basics =
    some unit_type ∷ some bool_type ∷ some bool_type ∷ some num_type ∷ none ∷ none ∷ none ∷ none ∷ none ∷ none ∷ none
    ∷ none ∷ some unit_type ∷ some rev_type ∷ some unit_type ∷ some num_type ∷ some num_type ∷ some bool_type ∷ []

-- the basic type of a node with the tag w
unfoldable pub basic_of : ℕ → Maybe Basic
basic_of w = get_or basics w none

-- the words of A stand at p
pub record Written (s : List ℕ) (p : ℕ) (A : ScriptType) : Type 0 where
  pub rest : List ℕ
  pub is : drop p s ≡ type_words A ++ rest

-- the part of the script that is the type written at p
pub record Named (s : List ℕ) (p : ℕ) (ws : List ℕ) : Type 0 where
  pub short : length ws ≤ length s - p
  pub is : (A : ScriptType) → Written s p A → ws ≡ type_words A

-- p stands for A by the annotation that stands there, or for the annotation of the variable there, which is linked
abbrev pub Annotated : List ℕ → List ℕ → ℕ → ℕ → ℕ → ScriptType → Type 0
Annotated s t i j p A =
    Written s p A ⊎ ((get_or s p 0 ≡ 4) × (i ≤ p) × (p < j) × Written s (get_or t p 0) A)

-- what the position p stands for; the links that this goes through are those of the nodes from i up to j
unfoldable pub Means : List ℕ → List ℕ → ℕ → ℕ → ℕ → ScriptType → Type 0
Means s t i j p (basic b) =
    Annotated s t i j p (basic b) ⊎ (basic_of (get_or s p 0) ≡ some b)
Means s t i j p (reference A) =
    Annotated s t i j p (reference A) ⊎ ((get_or s p 0 ≡ 10) × (i ≤ p) × (p < j) × Means s t i j (get_or t p 0) A)
Means s t i j p (function A B) =
    Annotated s t i j p (function A B)
    ⊎ ((get_or s p 0 ≡ 7) × (i ≤ p) × (p < j) × Written s (p + 2) A × Means s t i j (get_or t p 0) B)

-- the head of a type that is written at p: where its parts stand
unfoldable pub HeadAt : ℕ → ScriptType → Option Head → Type 0
HeadAt p (basic b) h = h ≡ Some (basic_head b)
HeadAt p (reference A) h = h ≡ Some (Reference (p + 1))
HeadAt p (function A B) h = h ≡ Some (Function (p + 1) (p + 1 + length (type_words A)))

pub record HeadIn (ws : List ℕ) (p : ℕ) (h : Option Head) : Type 0 where
  pub is : (A : ScriptType) → Written ws 0 A → HeadAt p A h

-- the head of a type: where its argument is written, and where what is left of it is held
unfoldable pub HeadIs : List ℕ → List ℕ → ℕ → ℕ → ScriptType → Option Head → Type 0
HeadIs s t i j (basic b) h = h ≡ Some (basic_head b)
HeadIs s t i j (reference A) h = (n : ℕ) × (h ≡ Some (Reference n)) × Means s t i j n A
HeadIs s t i j (function A B) h = (m n : ℕ) × (h ≡ Some (Function m n)) × Written s m A × Means s t i j n B

pub record Headed (s t : List ℕ) (p : ℕ) (h : Option Head) : Type 0 where
  pub is : (i j : ℕ) (A : ScriptType) → Means s t i j p A → HeadIs s t i j A h

-- equal but for what is left
unfoldable pub Alike : ScriptType → ScriptType → Type 0
Alike (basic a) (basic b) = a ≡ b
Alike (basic a) (reference B) = ⊥
Alike (basic a) (function B C) = ⊥
Alike (reference A) (basic b) = ⊥
Alike (reference A) (reference B) = Unit {0}
Alike (reference A) (function B C) = ⊥
Alike (function A D) (basic b) = ⊥
Alike (function A D) (reference B) = ⊥
Alike (function A D) (function B C) = A ≡ B

pub record SameHeads (s : List ℕ) (a b : Head) (r : Bool) : Type 0 where
  pub is : (t : List ℕ) (i j : ℕ) (A B : ScriptType) → HeadIs s t i j A (Some a) → HeadIs s t i j B (Some b)
      → Decides r (Alike A B)

abbrev pub Small : ScriptType → Type 0
Small A = length (type_words A) ≤ 4096

pub record SameTypes (s t : List ℕ) (p q : ℕ) (r : Bool) : Type 0 where
  pub is : (i j : ℕ) (A B : ScriptType) → Means s t i j p A → Means s t i j q B → Small A → Decides r (A ≡ B)
