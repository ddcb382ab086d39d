-- What comes back (01, "What comes back"): the numbers, the order of refusals, and what is in each lent buffer after.
use Rattle.std.specs.Prelude.{ℕ, zero, suc, ◌+◌, ◌-◌, List, [], ◌∷◌, ◌++◌, Bool, false, ◌&&◌, ◌||◌, length, take, drop, replicate, leb, ltb, eqb}
use Rattle.std.proofs.Math.Option.{Option, none, some}
use Rattle.calculus.specs.Types.{ScriptType}
use Rattle.calculus.specs.Expressions.{Expression, constant, leaf, lambda, one, two, if}
use Rattle.calculus.specs.Words.{type_words}
use Rattle.calculus.specs.Formed.{member, closed, holds_handle}
use Rattle.calculus.specs.Reading.{expression_of}
use Rattle.calculus.specs.Numbers.{choose}
use Rattle.calculus.specs.States.{State, first}
use Rattle.calculus.specs.Images.{image, state_of}
use Rattle.calculus.specs.NewNumbers.{taken_revisions}
use Rattle.calculus.specs.Steps.{by_shape, by_location, Outcome, next, emptied, finished, waits, stuck}
use Rattle.calculus.specs.Steps.{not_live, no_number, step}
use Rattle.calculus.specs.Typing.{Assignment, nothing, bind, no_world, type_of}

-- the answer's number, and the words that come with it; a refusal comes with none
pub record Answer : Type 0 where
  pub number : ℕ
  pub written : List ℕ

abbrev pub answer : ℕ → List ℕ → Answer
answer n ws = record { number = n; written = ws }

abbrev pub refused : ℕ → Answer
refused n = answer n []

-- a result that is longer than the room lent for it is 9
abbrev pub within : ℕ → Answer → Answer
within room a = choose (leb (length a.written) room) a (refused 9)

-- "for an image, than 8,192 words"
abbrev pub image_room : ℕ → ℕ
image_room room = choose (leb room 8192) room 8192

-- "a work buffer that isn't 8,192 words" comes first
abbrev pub with_work : ℕ → Answer → Answer
with_work work a = choose (eqb work 8192) a (refused 9)

-- "the out buffer holds the result, then zeros to its end", else "keeps its bytes"
abbrev pub out_after : List ℕ → Answer → List ℕ
out_after out a =
    choose (leb a.number 1) (a.written ++ replicate (length out - length a.written) 0) out

-- "they are zeros on return, always"
abbrev pub work_after : List ℕ → List ℕ
work_after work = replicate (length work) 0

-- step: 8, 6, then 2, 3, 4, 5, then 7, 9
abbrev pub number_of : Outcome → ℕ
number_of (next s) = 0
number_of emptied = 1
number_of finished = 2
number_of waits = 3
number_of (stuck by_shape) = 4
number_of (stuck by_location) = 5
number_of not_live = 6
number_of no_number = 7

abbrev pub leads_to : Outcome → Option State
leads_to (next s) = some s
leads_to emptied = some []
leads_to finished = none
leads_to waits = none
leads_to (stuck ρ) = none
leads_to not_live = none
leads_to no_number = none

abbrev pub imaged : ℕ → Option State → Answer
imaged n none = refused n
imaged n (some s) = answer n (image s)

abbrev pub outcome_answer : ℕ → Outcome → Answer
outcome_answer room o = within (image_room room) (imaged (number_of o) (leads_to o))

abbrev pub stepped_from : ℕ → ℕ → Option State → Answer
stepped_from r room none = refused 8
stepped_from r room (some s) = outcome_answer room (step r s)

-- the image, the pick, the lengths of the out buffer and of the work buffer
unfoldable pub step_answer : List ℕ → ℕ → ℕ → ℕ → Answer
step_answer ws r room work = with_work work (stepped_from r room (state_of ws))

-- load: 10, 11, 12, 9; "A script is one closed expression of at most 2,048 words without tags 5 and 6"
pub data Script : Type 0 where
  script : Expression → Script
  no_script : ℕ → Script

abbrev pub script_if : Option Expression → Script
script_if none = no_script 10
script_if (some e) = choose (holds_handle e) (no_script 11) (choose (closed e) (script e) (no_script 12))

unfoldable pub script_of : List ℕ → Script
script_of ws = choose (leb (length ws) 2048) (script_if (expression_of ws)) (no_script 10)

abbrev pub loaded_from : ℕ → Script → Answer
loaded_from room (no_script n) = refused n
loaded_from room (script e) = within (image_room room) (answer 0 (image (first e)))

unfoldable pub load_answer : List ℕ → ℕ → ℕ → Answer
load_answer ws room work = with_work work (loaded_from room (script_of ws))

-- check: 10, 11, 12, 13, 14, 9; 14 for a subexpression whose type has over 4,096 words
abbrev pub long_type : Option ScriptType → Bool
long_type none = false
long_type (some A) = ltb 4096 (length (type_words A))

unfoldable pub holds_long_type : Assignment → Expression → Bool
holds_long_type Γ (constant c) = false
holds_long_type Γ (leaf k n) = long_type (type_of no_world Γ (leaf k n))
holds_long_type Γ (lambda x A e) = long_type (type_of no_world Γ (lambda x A e)) || holds_long_type (bind x A Γ) e
holds_long_type Γ (one o e) = long_type (type_of no_world Γ (one o e)) || holds_long_type Γ e
holds_long_type Γ (two o a b) =
    long_type (type_of no_world Γ (two o a b)) || (holds_long_type Γ a || holds_long_type Γ b)
holds_long_type Γ (if a b c) =
    long_type (type_of no_world Γ (if a b c)) || (holds_long_type Γ a || (holds_long_type Γ b || holds_long_type Γ c))

abbrev pub typed_answer : ℕ → Bool → Option ScriptType → Answer
typed_answer room long none = refused 13
typed_answer room long (some A) = choose long (refused 14) (within room (answer 0 (type_words A)))

abbrev pub checked_from : ℕ → Script → Answer
checked_from room (no_script n) = refused n
checked_from room (script e) = typed_answer room (holds_long_type nothing e) (type_of no_world nothing e)

unfoldable pub check_answer : List ℕ → ℕ → ℕ → Answer
check_answer ws room work = with_work work (checked_from room (script_of ws))

-- run: "It tries every pick in turn ... and goes on after a refusal"; a pick that is answered 0 or 1 moves the state
abbrev pub state_after : State → Outcome → Option State → State
state_after s o none = s
state_after s o (some t) = choose (leb (length (image t)) 8192) t s

unfoldable pub picked_state : State → ℕ → State
picked_state s r = state_after s (step r s) (leads_to (step r s))

unfoldable pub last_state : State → List ℕ → State
last_state s [] = s
last_state s (r ∷ rs) = last_state (picked_state s r) rs

unfoldable pub pick_numbers : State → List ℕ → List ℕ
pick_numbers s [] = []
pick_numbers s (r ∷ rs) = (outcome_answer 8192 (step r s)).number ∷ pick_numbers (picked_state s r) rs

-- its own answer, the length that comes with it, and its buffers after
pub record Ran : Type 0 where
  pub number : ℕ
  pub length : ℕ
  pub state : List ℕ
  pub answers : List ℕ
  pub work : List ℕ

-- "A refused run touches nothing"
abbrev pub run_refused : ℕ → List ℕ → List ℕ → List ℕ → Ran
run_refused n state answers work = record { number = n; length = 0; state = state; answers = answers; work = work }

abbrev pub ran_from : List ℕ → List ℕ → List ℕ → List ℕ → Option State → Ran
ran_from state picks answers work none = run_refused 8 state answers work
ran_from state picks answers work (some s) =
    record {
      number = 0;
      length = length (image (last_state s picks));
      state = image (last_state s picks) ++ replicate (8192 - length (image (last_state s picks))) 0;
      answers = pick_numbers s picks ++ drop (length picks) answers;
      work = work_after work;
    }

-- 9, 8; the state buffer, the image's length in it, the picks, the answers buffer, the work buffer
unfoldable pub run_answer : List ℕ → ℕ → List ℕ → List ℕ → List ℕ → Ran
run_answer state n picks answers work =
    choose (eqb (length state) 8192 && (eqb (length work) 8192 && leb (length picks) (length answers)))
    (choose (leb n 8192)
    (ran_from state picks answers work (state_of (take n state)))
    (run_refused 8 state answers work))
    (run_refused 9 state answers work)

-- report: which revision numbers are live or mentioned, as 64 marks beside their count
pub record Report : Type 0 where
  pub number : ℕ
  pub marks : List Bool
  pub count : ℕ

-- the marks of k .. k + n - 1, and how many are set
unfoldable pub marks_of : ℕ → ℕ → List ℕ → List Bool
marks_of zero k taken = []
marks_of (suc n) k taken = member k taken ∷ marks_of n (suc k) taken

unfoldable pub tally : List Bool → ℕ
tally [] = 0
tally (b ∷ bs) = choose b 1 0 + tally bs

abbrev pub report_from : Option State → Report
report_from none = record { number = 8; marks = replicate 64 false; count = 0 }
report_from (some s) =
    record { number = 0; marks = marks_of 64 0 (taken_revisions s); count = tally (marks_of 64 0 (taken_revisions s)) }

unfoldable pub report_answer : List ℕ → Report
report_answer ws = report_from (state_of ws)
