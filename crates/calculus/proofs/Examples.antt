-- Every row of the table of fixed examples holds, by computation from the definitions.
use lib.Dec.{T}
use Rattle.calculus.specs.Maps.{put, get, remove, overlaid, keys}
use Rattle.calculus.specs.Words.{words, type_words}
use Rattle.calculus.specs.Formed.{closed_in, holds_handle, member}
use Rattle.calculus.specs.Reading.{expression_of, read_expression, read_type}
use Rattle.calculus.specs.Stores.{written}
use Rattle.calculus.specs.States.{absorbed}
use Rattle.calculus.specs.Images.{state_of, read_entries, image, task_words}
use Rattle.calculus.specs.Substitution.{substituted}
use Rattle.calculus.specs.Places.{place}
use Rattle.calculus.specs.NewNumbers.{named, named_in_store, named_in_task, taken_locations, taken_revisions}
use Rattle.calculus.specs.NewNumbers.{smallest}
use Rattle.calculus.specs.Steps.{step}
use Rattle.calculus.specs.Typing.{type_of, equal}
use Rattle.calculus.specs.Answers.{step_answer, load_answer, check_answer, script_of, holds_long_type}
use Rattle.calculus.specs.Examples.{table, holds, all_hold, same_words, look_right}

pub examples_hold : T (all_hold table)
unfolding all_hold holds same_words step_answer load_answer check_answer script_of expression_of holds_long_type
    state_of read_entries read_expression read_type image task_words words type_words closed_in holds_handle member
    get put remove overlaid written absorbed place substituted named named_in_store named_in_task keys
    taken_locations taken_revisions smallest step type_of equal
examples_hold = tt

-- and so does every row that rules out an error which looks right
pub errors_ruled_out : T (all_hold look_right)
unfolding all_hold holds same_words step_answer state_of read_entries read_expression read_type image task_words words
    closed_in member get put remove overlaid absorbed place named named_in_store named_in_task
    taken_revisions smallest step
errors_ruled_out = tt
