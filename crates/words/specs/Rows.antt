-- The row of a tag (01, the table of tags): the kind of node, its own word's limit, how many types and children follow.
use Rattle.std.specs.Prelude.{ℕ, suc, Option, Some, None}
use Rattle.std.proofs.Math.Option.{Option as Maybe, none, some}
use Rattle.calculus.specs.Expressions.{variable}
use Rattle.calculus.specs.Tags.{Tag, constant_tag, leaf_tag, lambda_tag, one_tag, two_tag, if_tag}
use Rattle.calculus.specs.Tags.{TypeTag, basic_tag, reference_tag, function_tag, largest}
use Rattle.calculus.specs.Reading.{tag_of, type_tag_of}
use Rattle.words.specs.declared.table.Kind.{Kind}
use Rattle.words.specs.declared.table.Kind.TheVariants.{Expression, «Type» as TypeKind}
use Rattle.words.specs.declared.table.Row.{Row}

abbrev pub row : Kind → Option ℕ → ℕ → ℕ → Row
row kind limit types children = record { kind = kind; limit = limit; types = types; children = children }

abbrev pub tag_row : Tag → Row
tag_row (constant_tag c) = row Expression None 0 0
tag_row (leaf_tag k) = row Expression (Some (suc (largest k))) 0 0
tag_row lambda_tag = row Expression (Some (suc (largest variable))) 1 1
tag_row (one_tag o) = row Expression None 0 1
tag_row (two_tag o) = row Expression None 0 2
tag_row if_tag = row Expression None 0 3

abbrev pub type_tag_row : TypeTag → Row
type_tag_row (basic_tag b) = row TypeKind None 0 0
type_tag_row reference_tag = row TypeKind None 1 0
type_tag_row function_tag = row TypeKind None 2 0

abbrev pub type_row_if : Maybe TypeTag → Option Row
type_row_if none = None
type_row_if (some t) = Some (type_tag_row t)

abbrev pub row_if : Maybe Tag → Option Row → Option Row
row_if none other = other
row_if (some t) other = Some (tag_row t)

-- the row of a word, and none of a word that is no tag
unfoldable pub row_of : ℕ → Option Row
row_of w = row_if (tag_of w) (type_row_if (type_tag_of w))
