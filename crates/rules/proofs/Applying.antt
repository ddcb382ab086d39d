-- apply: where the lambda's type, its body and the value stand, and the body with the value put in.
use Prim.Native.Nat.{ℕ, ◌+◌}
use mathlib.Core.Path.{◌≡◌, refl, sym, ap, ◌∙◌}
use mathlib.Core.List.{List, ◌++◌}
use native.Mathlib.Omega.{arith}
use lib.ListN.{length, get_or, length-append}
use Rattle.calculus.specs.Expressions.{apply, Expression}
use Rattle.calculus.specs.Tags.{two_tag}
use Rattle.calculus.specs.Words.{type_words, words}
use Rattle.calculus.specs.Formed.{Formed}
use Rattle.calculus.specs.States.{Task, State}
use Rattle.calculus.specs.Substitution.{substituted}
use Rattle.calculus.specs.Reading.{type_end}
use Rattle.calculus.specs.Redexes.{Lambda, Redex, applying, expression_at}
use Rattle.calculus.specs.Places.{Context}
use Rattle.calculus.specs.Steps.{act}
use Rattle.words.specs.Walks.{walk_of}
use Rattle.calculus.proofs.Options.{none≢some, some_inj}
use Rattle.words.proofs.Ends.{end_type_words, type_stands}
use Rattle.words.proofs.Children.{walk_ends, walk_broken}
use Rattle.image.specs.Standing.{Stands, EndsAt}
use Rattle.image.proofs.Standing.{headed, stands_left, stands_right, stands_at}
use Rattle.write.specs.Cursor.{part}
use Rattle.write.proofs.Cursors.{part_stands}
use Rattle.substitute.specs.Substitutes.{Substitutes}
use Rattle.rules.specs.declared.site.Site.{Site}
use Rattle.std.specs.Prelude.{Option, Some, None, Ok}
use Rattle.std.specs.Option.{unwrap_or}
use Rattle.rules.specs.declared.site.Moved.TheVariants.{To}
use Rattle.rules.specs.Work.{Work, Acted, Acts}
use Rattle.rules.specs.Applying.{TypeEnds}
use denote.MutBor.{MutBor}
use Rattle.std.specs.Fn.{Once}
use Rattle.rules.specs.Splicing.{Writes, Spliced}
use Rattle.rules.proofs.Splicing.{writes_as}
use Rattle.rules.proofs.Chunks.{redex_stands}
use Rattle.rules.proofs.Redexes.{Is, is_applying, redex_is}
use Rattle.rules.proofs.Replacing.{redex_formed, replaced}

pub type_past : (s : List ℕ) (at : ℕ) (w : Option ℕ) (r : ℕ) → w ≡ walk_of (type_end s at)
    → r ≡ unwrap_or w (length s) → TypeEnds s at r
type_past s at (Some e) r q i =
    let j = walk_ends (type_end s at) e q in
    let t = type_stands s at e j in
    record { high = rw i t.high; ends = λ A h. i ∙ some_inj (sym j ∙ end_type_words A s h.rest at h.eq) }
type_past s at None r q i =
    record {
      high = omega arith;
      ends = λ A h. none≢some (sym (walk_broken (type_end s at) q) ∙ end_type_words A s h.rest at h.eq);
    }

-- where the parts of an application stand
record Applied (s : List ℕ) (p x body value end : ℕ) (f : Lambda) (v : Expression) : Type 0 where
  pub variable : x ≡ f.variable
  pub there : Stands s body (words f.body)
  pub formed : Formed f.body
  pub given : part s value end ≡ words v
  pub to : end ≡ p + length (words (expression_at (applying f v)))

applied : (s : List ℕ) (p x body value end : ℕ) (f : Lambda) (v : Expression) → Formed (expression_at (applying f v))
    → x ≡ get_or s (p + 2) 0
    → TypeEnds s (p + 3) body → EndsAt s body value → EndsAt s value end
    → Stands s p (words (expression_at (applying f v)))
    → Applied s p x body value end f v
unfolding words Formed
applied s p x body value end f v g xi t e₁ e₂ h =
    let h₁ = headed h in
    let h₂ = headed h₁.more in
    let h₃ = headed h₂.more in
    let T = type_words f.type in
    let B = words f.body in
    let Z = words v in
    let all : Stands s (p + 3) ((T ++ B) ++ Z) = stands_at (p + 3) (omega arith) h₃.more in
    let h_t = stands_left T B (stands_left (T ++ B) Z all) in
    let ib : body ≡ p + 3 + length T = t.ends f.type h_t in
    let h_b : Stands s body B = stands_at body (sym ib) (stands_right T B (stands_left (T ++ B) Z all)) in
    let iv : value ≡ body + length B = e₁.ends f.body g.0.1 h_b in
    let l = length-append T B in
    let h_v : Stands s value Z = stands_at value (omega arith) (stands_right (T ++ B) Z all) in
    let ie : end ≡ value + length Z = e₂.ends v g.1 h_v in
    let m = length-append (T ++ B) Z in
    record {
      variable = xi ∙ ap (λ i. get_or s i 0) (omega arith) ∙ h₃.is;
      there = h_b;
      formed = g.0.1;
      given = part_stands end h_v ie;
      to = omega arith;
    }

pub apply_done : {F : Type 0} (g : Once F (MutBor (List ℕ) × (ℕ × Unit {0})) (ℕ × (MutBor (List ℕ) × Unit {0}))) (f : F)
    (s : List ℕ) (site : Site) (x body value end : ℕ) → x ≡ get_or s (site.place + 2) 0
    → TypeEnds s (site.place + 3) body → EndsAt s body value → EndsAt s value end → (o : List ℕ) (r : ℕ) (o' : List ℕ)
    → Spliced g f s 0 (length s) site.place end o 0 r o'
    → ((o : MutBor (List ℕ)) (to r : ℕ) (o' : MutBor (List ℕ)) → g.post f (o, (to, tt)) (r, (o', tt))
    → Substitutes s body x value end o.now to r o'.now) → Acts 8 s site o (Ok (To r)) o'
apply_done g f s site x body value end xi t e₁ e₂ o r o' wr h =
    record { acts = λ st me E R w g. go st me E R w (redex_is R (two_tag apply) (redex_stands s site st me E R w) g) }
  where
    go : (st : State) (me : Task) (E : Context) (R : Redex) → Work s site st me E R → Is (two_tag apply) R
        → Acted (act site.revision st me E R) o (Ok (To r)) o'
    go st me E R w (is_applying d v) =
        let a = applied s site.place x body value end d v (redex_formed w) xi t e₁ e₂
        (redex_stands s site st me E (applying d v) w) in
        let k : Writes g f (words (substituted x v d.body)) =
        record { at = λ o to r o' p. (h o to r o' p).wrote d.body v a.formed a.there a.given } in (
          r,
          refl,
          replaced g f s site end o r o' wr st me E (applying d v) w (substituted d.variable v d.body) a.to
              (writes_as (ap (λ i. words (substituted i v d.body)) a.variable) k),
        )
