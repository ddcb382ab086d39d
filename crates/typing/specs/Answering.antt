-- The steps of the check on the way to its answer: a type written out, and the answer itself.
use Rattle.std.specs.Prelude.{ℕ, List, ◌≡◌, length}
use Rattle.std.proofs.Math.Option.{some}
use Rattle.calculus.specs.Answers.{Answer, out_after, check_answer, typed_answer, long_type}
use Rattle.calculus.specs.Types.{ScriptType}
use Rattle.typing.specs.Checks.{Checked, number_of, length_of}
use Rattle.typing.specs.Held.{Means}

-- an answer and the out buffer after it are those of calculus
pub record Gives (a : Answer) (out : List ℕ) (r : Checked) (out' : List ℕ) : Type 0 where
  pub number : number_of r ≡ a.number
  pub size : length_of r ≡ length a.written
  pub written : out' ≡ out_after out a

pub record Answered (ws out work : List ℕ) (r : Checked) (out' : List ℕ) : Type 0 where
  pub gives : Gives (check_answer ws (length out) (length work)) out r out'

-- the type that is held at p: 14 where it is long, 9 where there is no room for it
pub record PutType (s t : List ℕ) (p : ℕ) (out : List ℕ) (r : Checked) (out' : List ℕ) : Type 0 where
  pub gives : (i j : ℕ) (A : ScriptType) → Means s t i j p A
      → Gives (typed_answer (length out) (long_type (some A)) (some A)) out r out'
