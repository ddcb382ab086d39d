-- Reading words back as trees (01, "Expressions as words"): which words are one well-formed type, one well-formed
-- expression.
use Rattle.std.specs.Prelude.{ℕ, zero, suc, ◌+◌, ◌-◌, List, [], ◌∷◌, length, drop, leb}
use Rattle.std.proofs.Math.Option.{Option, none, some}
use Rattle.std.proofs.Math.ListN.{get_elem?}
use Rattle.calculus.specs.Options.{◌▸◌, test}
use Rattle.calculus.specs.Types.{ScriptType, basic, reference, function}
use Rattle.calculus.specs.Expressions.{variable, Expression, constant, leaf, lambda, one, two, if}
use Rattle.calculus.specs.Tags.{Tag, constant_tag, leaf_tag, lambda_tag, one_tag, two_tag, if_tag, tags}
use Rattle.calculus.specs.Tags.{TypeTag, basic_tag, reference_tag, function_tag, type_tags, largest}
use Rattle.calculus.specs.Words.{words, type_words}

-- what stands at the front of the words, and the words after it
abbrev pub Reader : Type 0 → Type 0
Reader A = List ℕ → Option (A × List ℕ)

-- one more word, at most b
abbrev pub read_word : ℕ → Reader ℕ
read_word b [] = none
read_word b (w ∷ ws) = test (leb w b) ▸ λ u. some (w, ws)

abbrev pub type_tag_of : ℕ → Option TypeTag
type_tag_of t = test (leb 32 t) ▸ λ u. get_elem? type_tags (t - 32)

-- what follows a type's tag, where r reads a type
abbrev pub read_type_parts : Reader ScriptType → TypeTag → Reader ScriptType
read_type_parts r (basic_tag b) ws = some (basic b, ws)
read_type_parts r reference_tag ws = r ws ▸ λ p. some (reference p.0, p.1)
read_type_parts r function_tag ws = r ws ▸ λ p. r p.1 ▸ λ q. some (function p.0 q.0, q.1)

-- the first argument bounds the depth; as many as there are words is always enough
unfoldable pub read_type : ℕ → Reader ScriptType
read_type zero ws = none
read_type (suc n) [] = none
read_type (suc n) (t ∷ ws) = type_tag_of t ▸ λ s. read_type_parts (λ v. read_type n v) s ws

abbrev pub tag_of : ℕ → Option Tag
tag_of t = get_elem? tags t

-- what follows a tag, where t reads a type and r an expression
abbrev pub read_parts : Reader ScriptType → Reader Expression → Tag → Reader Expression
read_parts t r (constant_tag c) ws = some (constant c, ws)
read_parts t r (leaf_tag k) ws = read_word (largest k) ws ▸ λ p. some (leaf k p.0, p.1)
read_parts t r lambda_tag ws =
    read_word (largest variable) ws ▸ λ p. t p.1 ▸ λ A. r A.1 ▸ λ q. some (lambda p.0 A.0 q.0, q.1)
read_parts t r (one_tag o) ws = r ws ▸ λ p. some (one o p.0, p.1)
read_parts t r (two_tag o) ws = r ws ▸ λ p. r p.1 ▸ λ q. some (two o p.0 q.0, q.1)
read_parts t r if_tag ws = r ws ▸ λ p. r p.1 ▸ λ q. r q.1 ▸ λ s. some (if p.0 q.0 s.0, s.1)

unfoldable pub read_expression : ℕ → Reader Expression
read_expression zero ws = none
read_expression (suc n) [] = none
read_expression (suc n) (t ∷ ws) = tag_of t ▸ λ s. read_parts (λ v. read_type n v) (λ v. read_expression n v) s ws

-- where the type, the expression at `at` ends, if one stands there
unfoldable pub type_end : List ℕ → ℕ → Option ℕ
type_end ws at = read_type (length ws) (drop at ws) ▸ λ p. some (at + length (type_words p.0))

unfoldable pub end_of : List ℕ → ℕ → Option ℕ
end_of ws at = read_expression (length ws) (drop at ws) ▸ λ p. some (at + length (words p.0))

-- all of the words as one expression
abbrev pub wholly : {A : Type 0} → Option (A × List ℕ) → Option A
wholly none = none
wholly (some (a, [])) = some a
wholly (some (a, w ∷ ws)) = none

unfoldable pub expression_of : List ℕ → Option Expression
expression_of ws = wholly (read_expression (length ws) ws)
