-- What a report tells C, by its promise alone: only the numbers 0 and 8, and with 8 no mark and the count 0.
use Prim.Native.Nat.{ℕ, ◌≤◌}
use mathlib.Core.List.{List, [], ◌∷◌}
use mathlib.Core.Option.{Option, none, some}
use mathlib.Core.Path.{◌≡◌, ◌∙◌}
use native.Mathlib.Omega.{arith}
use lib.Dec.{T}
use Rattle.calculus.specs.Formed.{member}
use Rattle.calculus.specs.States.{State}
use Rattle.calculus.specs.Images.{state_of}
use Rattle.calculus.specs.Answers.{report_from, report_answer}
use Rattle.host.specs.declared.PulleyrushReport.{PulleyrushReport}
use Rattle.host.specs.Host.{Reports}
use Rattle.host.proofs.Reporting.{bits_clear}

number_from : (s : Option State) (number : ℕ) → number ≡ (report_from s).number → T (member number (0 ∷ 8 ∷ []))
unfolding member
number_from none number e = rw e tt
number_from (some s) number e = rw e tt

pub told_numbers : (image : List ℕ) (r : PulleyrushReport) → Reports (report_answer image) r
    → T (member r.number (0 ∷ 8 ∷ []))
unfolding report_answer
told_numbers image r t = number_from (state_of image) r.number t.answered

clear_from : (s : Option State) (r : PulleyrushReport) → Reports (report_from s) r → 2 ≤ r.number
    → (r.marks ≡ 0) × (r.count ≡ 0)
clear_from none r t h = (t.marked ∙ bits_clear 64, t.counted)
clear_from (some s) r t h = let e = t.answered in absurd (omega arith)

pub told_refused : (image : List ℕ) (r : PulleyrushReport) → Reports (report_answer image) r → 2 ≤ r.number
    → (r.marks ≡ 0) × (r.count ≡ 0)
unfolding report_answer
told_refused image r t h = clear_from (state_of image) r t h
