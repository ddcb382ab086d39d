-- The C functions' answers: the paper's numbers and lengths, and what every lent buffer holds after.
use Rattle.std.specs.Prelude.{ℕ, ◌+◌, ◌*◌, ◌≡◌, Bool, List, [], ◌∷◌, length, Result, Ok, Err}
use Rattle.calculus.specs.Numbers.{choose}
use Rattle.calculus.specs.Answers.{Answer, out_after, work_after, Report}
use Rattle.calculus.specs.Answers.{Ran as Run}
use Rattle.host.specs.declared.PulleyrushAnswer.{PulleyrushAnswer}
use Rattle.host.specs.declared.PulleyrushReport.{PulleyrushReport}

pub record Numbered (number size : ℕ) (r : PulleyrushAnswer) : Type 0 where
  pub told : r.number ≡ number
  pub measured : r.length ≡ size

-- the number 0 with the length, or the number of the refusal with none
abbrev pub Told : {E : Type 0} → (E → ℕ) → Result ℕ E → PulleyrushAnswer → Type 0
Told number_is (Ok n) r = Numbered 0 n r
Told number_is (Err e) r = Numbered (number_is e) 0 r

pub record Answers (a : Answer) (r : PulleyrushAnswer) (out work out' work' : List ℕ) : Type 0 where
  pub answered : Numbered a.number (length a.written) r
  pub filled : out' ≡ out_after out a
  pub cleared : work' ≡ work_after work

pub record RunAnswers (a : Run) (r : PulleyrushAnswer) (state' answers' work' : List ℕ) : Type 0 where
  pub answered : Numbered a.number a.length r
  pub left : state' ≡ a.state
  pub told : answers' ≡ a.answers
  pub cleared : work' ≡ a.work

-- the number whose bits the marks are, from the lowest
unfoldable pub bits : List Bool → ℕ
bits [] = 0
bits (b ∷ bs) = choose b 1 0 + 2 * bits bs

pub record Reports (a : Report) (r : PulleyrushReport) : Type 0 where
  pub answered : r.number ≡ a.number
  pub counted : r.count ≡ a.count
  pub marked : r.marks ≡ bits a.marks
