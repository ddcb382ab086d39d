-- The table of tags (01, "Expressions as words"): a tag is a place in it; what follows a tag is its own word, types,
-- children.
use Rattle.std.specs.Prelude.{ℕ, List, [], ◌∷◌, true, false}
use Rattle.calculus.specs.Types.{Basic, unit_type, bool_type, num_type, rev_type}
use Rattle.calculus.specs.Expressions.{Constant, unit, bool, Leaf, number, variable, location, revision}
use Rattle.calculus.specs.Expressions.{One, ref, read, fork, join, add, subtract, less}
use Rattle.calculus.specs.Expressions.{Two, apply, assign, arithmetic}

-- an expression without its own words and children
pub data Tag : Type 0 where
  constant_tag : Constant → Tag
  leaf_tag : Leaf → Tag
  lambda_tag : Tag
  one_tag : One → Tag
  two_tag : Two → Tag
  if_tag : Tag

-- the tags from 0
abbrev pub tags : List Tag
tags =
    constant_tag unit
    ∷ constant_tag (bool false)
    ∷ constant_tag (bool true)
    ∷ leaf_tag number
    ∷ leaf_tag variable
    ∷ leaf_tag location
    ∷ leaf_tag revision
    ∷ lambda_tag
    ∷ two_tag apply
    ∷ if_tag
    ∷ one_tag ref
    ∷ one_tag read
    ∷ two_tag assign
    ∷ one_tag fork
    ∷ one_tag join
    ∷ two_tag (arithmetic add)
    ∷ two_tag (arithmetic subtract)
    ∷ two_tag (arithmetic less)
    ∷ []

abbrev pub tag_word : Tag → ℕ
tag_word (constant_tag unit) = 0
tag_word (constant_tag (bool false)) = 1
tag_word (constant_tag (bool true)) = 2
tag_word (leaf_tag number) = 3
tag_word (leaf_tag variable) = 4
tag_word (leaf_tag location) = 5
tag_word (leaf_tag revision) = 6
tag_word lambda_tag = 7
tag_word (two_tag apply) = 8
tag_word if_tag = 9
tag_word (one_tag ref) = 10
tag_word (one_tag read) = 11
tag_word (two_tag assign) = 12
tag_word (one_tag fork) = 13
tag_word (one_tag join) = 14
tag_word (two_tag (arithmetic add)) = 15
tag_word (two_tag (arithmetic subtract)) = 16
tag_word (two_tag (arithmetic less)) = 17

-- a type without its parts, and the tags from 32
pub data TypeTag : Type 0 where
  basic_tag : Basic → TypeTag
  reference_tag function_tag : TypeTag

abbrev pub type_tags : List TypeTag
type_tags =
    basic_tag unit_type
    ∷ basic_tag bool_type
    ∷ basic_tag num_type
    ∷ basic_tag rev_type
    ∷ reference_tag
    ∷ function_tag
    ∷ []

abbrev pub type_tag_word : TypeTag → ℕ
type_tag_word (basic_tag unit_type) = 32
type_tag_word (basic_tag bool_type) = 33
type_tag_word (basic_tag num_type) = 34
type_tag_word (basic_tag rev_type) = 35
type_tag_word reference_tag = 36
type_tag_word function_tag = 37

-- the largest own word: n 0..65535, x and l 0..255, r 0..63
abbrev pub largest : Leaf → ℕ
largest number = 65535
largest variable = 255
largest location = 255
largest revision = 63
