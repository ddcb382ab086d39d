-- The report of an image is the paper's, and there is one.
use mathlib.Core.Bool.{Bool, true, false}
use mathlib.Core.List.{List}
use mathlib.Core.Option.{Option, none, some}
use mathlib.Core.Path.{◌≡◌, refl, sym, ap, ◌∙◌}
use Prim.Native.Nat.{ℕ}
use mathlib.Core.HLevel.{is_prop→PathP}
use native.Mathlib.Nat.{ℕ_set}
use native.Mathlib.Omega.{arith}
use Rattle.calculus.specs.States.{State}
use Rattle.calculus.specs.Images.{state_of}
use Rattle.calculus.specs.NewNumbers.{taken_revisions}
use Rattle.calculus.specs.Answers.{Report, marks_of, tally, report_from, report_answer}
use Rattle.calculus.proofs.Images.{read_is_image}
use Rattle.words.specs.declared.in_use.InUse.{InUse}
use Rattle.words.specs.Walks.{is_there}
use Rattle.std.specs.Prelude.{Result, Ok, Err}
use Rattle.image.specs.declared.report.NotValid.{NotValid}
use Rattle.image.specs.Marks.{ImageMarks}
use Rattle.image.specs.Reports.{report_of}

module _ (s : List ℕ) (b : Bool) (is : b ≡ is_there (state_of s)) where
  pub report_valid : (u : InUse) → b ≡ true → ImageMarks taken_revisions 64 s u.marks → report_of (Ok u) ≡ report_answer s
  unfolding report_answer
  report_valid u t g = go (state_of s) refl (sym is ∙ t)
    where
      go : (o : Option State) → state_of s ≡ o → is_there o ≡ true
          → report_of (Ok u) ≡ report_from (state_of s)
      go none p q = absurd cc
      go (some x) p q =
          let (e, v) = read_is_image s x p in
          let m : u.marks ≡ marks_of 64 0 (taken_revisions x) = g.marks x v (sym e) in
          let c : u.count ≡ tally (marks_of 64 0 (taken_revisions x)) = u.counted ∙ ap tally m in
          (λ j. record { number = 0; marks = m j; count = c j }) ∙ sym (ap report_from p)

  pub report_refused : b ≡ false → report_from none ≡ report_answer s
  unfolding report_answer
  report_refused t = go (state_of s) refl (sym is ∙ t)
    where
      go : (o : Option State) → state_of s ≡ o → is_there o ≡ false
          → report_from none ≡ report_from (state_of s)
      go none p q = sym (ap report_from p)
      go (some x) p q = absurd cc

-- the promise determines the report
pub report_one : (s : List ℕ) (a b : Result InUse NotValid) → report_of a ≡ report_answer s → report_of b ≡ report_answer s
    → a ≡ b
report_one s a b p q = same a b (p ∙ sym q)
  where
    same : (a b : Result InUse NotValid) → report_of a ≡ report_of b → a ≡ b
    same (Ok u) (Ok v) e = λ j.
        Ok
        (record {
          marks = (e j).marks;
          count = (e j).count;
          counted =
              is_prop→PathP (λ i. (e i).count ≡ tally (e i).marks) (λ i p q. ℕ_set _ _ p q) u.counted v.counted j;
        })
    same (Ok u) (Err y) e = absurd (let z : ◌≡◌ {A = ℕ} 0 8 = ap (λ (r : Report). r.number) e in omega arith)
    same (Err x) (Ok v) e = absurd (let z : ◌≡◌ {A = ℕ} 8 0 = ap (λ (r : Report). r.number) e in omega arith)
    same (Err x) (Err y) e = refl
