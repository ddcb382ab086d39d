-- The words of the tags, and which tag a word is.
use Rattle.std.specs.Prelude.{ℕ, ◌<◌, ◌≤◌, ◌≡◌, ◌⊎◌, Option, Some, None}
use Rattle.words.specs.declared.tags.Tag.{Tag}
use Rattle.words.specs.declared.tags.Tag.TheVariants.{Unit as UnitTag, False, True, Number, Variable, Location, Revision, Lambda, Apply, If, Ref, Read, Assign, Fork, Join, Add, Subtract, Less}
use Rattle.words.specs.declared.tags.TypeTag.{TypeTag}
use Rattle.words.specs.declared.tags.TypeTag.TheVariants.{Unit as UnitType, Bool as BoolType, Number as NumberType, Rev, Reference, Function}

-- the word of a tag
abbrev pub word_of : Tag → ℕ
word_of UnitTag = 0
word_of False = 1
word_of True = 2
word_of Number = 3
word_of Variable = 4
word_of Location = 5
word_of Revision = 6
word_of Lambda = 7
word_of Apply = 8
word_of If = 9
word_of Ref = 10
word_of Read = 11
word_of Assign = 12
word_of Fork = 13
word_of Join = 14
word_of Add = 15
word_of Subtract = 16
word_of Less = 17

-- the word of a type's tag
abbrev pub type_word_of : TypeTag → ℕ
type_word_of UnitType = 32
type_word_of BoolType = 33
type_word_of NumberType = 34
type_word_of Rev = 35
type_word_of Reference = 36
type_word_of Function = 37

-- the tag that the word is, and none of a word past them
abbrev pub TagTold : ℕ → Option Tag → Type 0
TagTold w (Some t) = word_of t ≡ w
TagTold w None = 18 ≤ w

-- the type's tag that the word is, and none of a word below or past them
abbrev pub TypeTagTold : ℕ → Option TypeTag → Type 0
TypeTagTold w (Some t) = type_word_of t ≡ w
TypeTagTold w None = (w < 32) ⊎ (38 ≤ w)
