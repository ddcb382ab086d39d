-- `typing::types::Held::head` meets its contract: one law for each way through it.
use Rattle.std.proofs.Common.{refl, rules}
use Rattle.typing.proofs.Meaning.{head_variable, head_lambda, head_ref, head_basic, head_part}
use Rattle.typing.proofs.types.Held.head.Goals as goal

pub returns-in_default : goal.returns-in_default
returns-in_default c =
    head_part _ _ _ _ c.word_at.ensures _ _ c.in_default.ensures refl c.head_in.ensures

pub returns-in-Variable : goal.returns-in-Variable
returns-in-Variable c = search (rules, head_variable, c.in-Some.ensures)

pub returns-in-Lambda : goal.returns-in-Lambda
returns-in-Lambda c = search (rules, head_lambda, c.in-Some.ensures)

pub returns-in-Ref : goal.returns-in-Ref
returns-in-Ref c = search (rules, head_ref, c.in-Some.ensures)

pub returns-in_default-tag : goal.returns-in_default-tag
returns-in_default-tag c = search (rules, head_basic, c.in-Some.ensures)
