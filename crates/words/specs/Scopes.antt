-- Closedness as one walk sees it: the variables in scope as marks, and what each node asks of them.
use Rattle.std.specs.Prelude.{ℕ, ◌+◌, List, Bool, true, false, ◌&&◌, length, get_or, drop, set, eqb, Option, Some, None}
use Rattle.std.proofs.Math.Option.{Option as Maybe, none, some}
use Rattle.calculus.specs.Options.{◌▸◌, test}
use Rattle.calculus.specs.Expressions.{number, variable, location, revision}
use Rattle.calculus.specs.Expressions.{Expression, constant, leaf, lambda, one, two, if}
use Rattle.calculus.specs.Tags.{leaf_tag, tag_word}
use Rattle.calculus.specs.Words.{words}
use Rattle.calculus.specs.Reading.{type_end, read_expression}
use Rattle.calculus.specs.Numbers.{choose}
use Rattle.words.specs.declared.walk.Front.{Front}
use Rattle.words.specs.declared.table.Kind.TheVariants.{Expression as ExpressionKind}
use Rattle.words.specs.declared.closed.Node.{Node}
use Rattle.words.specs.declared.closed.Node.TheVariants.{Plain, Variable, Binder}
use Rattle.words.specs.Walks.{front_of}

-- no variable is free but those that are marked
unfoldable pub closed_under : List Bool → Expression → Bool
closed_under scope (constant c) = true
closed_under scope (leaf number n) = true
closed_under scope (leaf variable n) = get_or scope n false
closed_under scope (leaf location n) = true
closed_under scope (leaf revision n) = true
closed_under scope (lambda x A e) = closed_under (set scope x true) e
closed_under scope (one o e) = closed_under scope e
closed_under scope (two o a b) = closed_under scope a && closed_under scope b
closed_under scope (if a b c) = closed_under scope a && (closed_under scope b && closed_under scope c)

-- where the expression at `at` ends, if one stands there and its free variables are marked
unfoldable pub closed_end : List ℕ → List Bool → ℕ → Maybe ℕ
closed_end s scope at =
    read_expression (length s) (drop at s)
    ▸ λ p. test (closed_under scope p.0) ▸ λ u. some (at + length (words p.0))

abbrev pub binder_if : ℕ → Maybe ℕ → Option Node
binder_if x none = None
binder_if x (some body) = Some (Binder x body)

-- of a node at `at` whose front is right: a node with a type is the binder
abbrev pub node_if : List ℕ → ℕ → Option Front → Option Node
node_if s at None = None
node_if s at (Some f) =
    choose (eqb f.row.types 0)
    (choose (eqb (get_or s at 0) (tag_word (leaf_tag variable)))
    (Some (Variable (get_or s (at + 1) 0) f.next))
    (Some (Plain f.row.children f.next)))
    (binder_if (get_or s (at + 1) 0) (type_end s f.next))

-- what the node at `at` asks of the variables in scope, if a right one stands there
unfoldable pub node_of : List ℕ → ℕ → Option Node
node_of s at = node_if s at (front_of s ExpressionKind at)
