-- The operations of the calculus, by the names that the code gives them.
use Rattle.std.specs.Prelude.{ℕ}
use Rattle.calculus.specs.Expressions.{Arithmetic, add, subtract, less, arithmetic}
use Rattle.calculus.specs.Tags.{two_tag, tag_word}
use Rattle.rules.specs.declared.local.Operation.{Operation}
use Rattle.rules.specs.declared.local.Operation.TheVariants.{Add, Subtract, Less}

-- the calculus's operation
abbrev pub meant : Operation → Arithmetic
meant Add = add
meant Subtract = subtract
meant Less = less

-- the tag of its node
abbrev pub tag_of : Operation → ℕ
tag_of operation = tag_word (two_tag (arithmetic (meant operation)))
