-- What a walk over words answers: where a node ends, as calculus defines it, and a node's front by its row.
use Rattle.std.specs.Prelude.{ℕ, zero, suc, ◌+◌, List, Bool, true, false, length, get_or, drop, ltb, eqb}
use Rattle.std.specs.Prelude.{Option, Some, None}
use Rattle.std.proofs.Math.Option.{Option as Maybe, none, some}
use Rattle.calculus.specs.Options.{◌▸◌, test}
use Rattle.calculus.specs.Words.{words}
use Rattle.calculus.specs.Formed.{closed}
use Rattle.calculus.specs.Reading.{type_end, end_of, read_expression}
use Rattle.calculus.specs.Numbers.{choose}
use Rattle.words.specs.declared.table.Kind.{Kind}
use Rattle.words.specs.declared.table.Kind.TheVariants.{Expression, «Type» as TypeKind}
use Rattle.words.specs.declared.table.Row.{Row}
use Rattle.words.specs.declared.walk.Front.{Front}
use Rattle.words.specs.declared.walk.Beginning.{Beginning}
use Rattle.words.specs.Rows.{row_of}

-- a place that calculus tells, or none, as the walks answer it
abbrev pub walk_of : Maybe ℕ → Option ℕ
walk_of none = None
walk_of (some e) = Some e

abbrev pub is_there : {A : Type 0} → Maybe A → Bool
is_there none = false
is_there (some a) = true

abbrev pub front : Row → ℕ → Front
front n next = record { row = n; next = next }

-- of a row n whose tag stands before `next`: the own word is there and below its limit, where there is one
abbrev pub own_front : List ℕ → Row → Option ℕ → ℕ → Option Front
own_front s n None next = Some (front n next)
own_front s n (Some limit) next =
    choose (ltb next (length s)) (choose (ltb (get_or s next 0) limit) (Some (front n (next + 1))) None) None

abbrev pub is_kind : Kind → Kind → Bool
is_kind Expression Expression = true
is_kind Expression TypeKind = false
is_kind TypeKind Expression = false
is_kind TypeKind TypeKind = true

-- the number of a kind, as a caller may give it
abbrev pub number_of : Kind → ℕ
number_of Expression = 1
number_of TypeKind = 2

-- of the row of the word at `at`, if it has one: it is of the kind
abbrev pub row_front : List ℕ → Kind → Option Row → ℕ → Option Front
row_front s kind None next = None
row_front s kind (Some n) next = choose (is_kind n.kind kind) (own_front s n n.limit next) None

-- the front of the node of that kind at `at`
unfoldable pub front_of : List ℕ → Kind → ℕ → Option Front
front_of s kind at = choose (ltb at (length s)) (row_front s kind (row_of (get_or s at 0)) (at + 1)) None

-- the number of the kind of a word with that row, and 0 of a word that is no tag
abbrev pub kind_number : Option Row → ℕ
kind_number None = 0
kind_number (Some n) = number_of n.kind

-- what a word with that row, or with none, begins: what follows starts at `next`
abbrev pub beginning : Option Row → ℕ → Beginning
beginning o next = record { row = o; next = next }

-- a node's front as what its word begins
abbrev pub front_beginning : Option Front → Option Beginning
front_beginning None = None
front_beginning (Some f) = Some (beginning (Some f.row) f.next)

-- of a word with that row, which stands before `next`: its own word is right, where it has one
abbrev pub own_beginning : List ℕ → Option Row → ℕ → Option Beginning
own_beginning s None next = Some (beginning None next)
own_beginning s (Some n) next = front_beginning (own_front s n n.limit next)

-- what the word at `at` begins, if it is of the kind with that number
unfoldable pub beginning_of : List ℕ → ℕ → ℕ → Option Beginning
beginning_of s kind at =
    choose (ltb at (length s))
    (choose (eqb (kind_number (row_of (get_or s at 0))) kind) (own_beginning s (row_of (get_or s at 0)) (at + 1)) None)
    None

-- where n types that stand one after the other from `at` on end
unfoldable pub types_end : List ℕ → ℕ → ℕ → Maybe ℕ
types_end s zero at = some at
types_end s (suc n) at = type_end s at ▸ λ e. types_end s n e

-- where n expressions that stand one after the other from `at` on end
unfoldable pub expressions_end : List ℕ → ℕ → ℕ → Maybe ℕ
expressions_end s zero at = some at
expressions_end s (suc n) at = end_of s at ▸ λ e. expressions_end s n e

-- where the expression at `at` ends, if one stands there and it is closed
unfoldable pub closed_end_of : List ℕ → ℕ → Maybe ℕ
closed_end_of ws at =
    read_expression (length ws) (drop at ws) ▸ λ p. test (closed p.0) ▸ λ u. some (at + length (words p.0))
