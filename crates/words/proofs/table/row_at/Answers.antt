-- `table::row_at` meets its contract: up to 37 by the law of the table, whose rows are the code's, past it there is none.
use mathlib.Core.Path.{◌∙◌}
use Rattle.std.proofs.Common.{arith}
use Rattle.words.proofs.Rows.{expressions, types, in_expressions, in_types, in_neither, table_row, no_row_past}
use Rattle.words.proofs.table.row_at.Goals as goal

pub returns-in-0-to-17 : goal.returns-in-0-to-17
unfolding expressions
returns-in-0-to-17 c = in_expressions c.args.tag _ (omega arith) ∙ table_row c.args.tag (omega arith)

pub returns-in-32-to-37 : goal.returns-in-32-to-37
unfolding types
returns-in-32-to-37 c = in_types c.args.tag _ (omega arith) (omega arith) ∙ table_row c.args.tag (omega arith)

pub returns-in_default : goal.returns-in_default
returns-in_default c = in_neither c.args.tag (omega arith) (omega arith) ∙ table_row c.args.tag (omega arith)

pub returns-in_default-2 : goal.returns-in_default-2
returns-in_default-2 c = no_row_past c.args.tag (omega arith)
