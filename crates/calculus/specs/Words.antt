-- The words of a type and of an expression (01, "Expressions as words"): the tag, its own words, its children in order.
use Rattle.std.specs.Prelude.{ℕ, List, [], ◌∷◌, ◌++◌}
use Rattle.calculus.specs.Types.{ScriptType, basic, reference, function}
use Rattle.calculus.specs.Expressions.{Expression, constant, leaf, lambda, one, two, if}
use Rattle.calculus.specs.Tags.{constant_tag, leaf_tag, lambda_tag, one_tag, two_tag, if_tag, tag_word}
use Rattle.calculus.specs.Tags.{basic_tag, reference_tag, function_tag, type_tag_word}

unfoldable pub type_words : ScriptType → List ℕ
type_words (basic b) = type_tag_word (basic_tag b) ∷ []
type_words (reference A) = type_tag_word reference_tag ∷ type_words A
type_words (function A B) = type_tag_word function_tag ∷ (type_words A ++ type_words B)

unfoldable pub words : Expression → List ℕ
words (constant c) = tag_word (constant_tag c) ∷ []
words (leaf k n) = tag_word (leaf_tag k) ∷ n ∷ []
words (lambda x A e) = tag_word lambda_tag ∷ x ∷ (type_words A ++ words e)
words (one o e) = tag_word (one_tag o) ∷ words e
words (two o a b) = tag_word (two_tag o) ∷ (words a ++ words b)
words (if a b c) = tag_word if_tag ∷ (words a ++ (words b ++ words c))
