-- One node and its children, the loop of `replace` over expressions that stand one after the other, and the whole.
use Prim.Native.Nat.{ℕ, ◌+◌, ◌-◌, ◌<◌, ◌≤◌}
use mathlib.Core.Path.{◌≡◌, refl, sym, ap, ◌∙◌}
use mathlib.Core.List.{List, [], ◌∷◌, ◌++◌, append_assoc, append-nil}
use native.Mathlib.Omega.{arith}
use lib.ListN.{length, length-append, length-drop}
use Rattle.std.specs.Borrow.{Bor}
use Rattle.calculus.specs.Expressions.{Expression}
use Rattle.calculus.specs.Words.{words}
use Rattle.calculus.specs.Formed.{Formed}
use Rattle.calculus.specs.Substitution.{substituted}
use Rattle.words.specs.Names.{all_words, AllFormed}
use Rattle.words.proofs.Ends.{words_long}
use Rattle.image.specs.Standing.{Stands}
use Rattle.image.proofs.Standing.{stands_left, stands_right, stands_at, stands_as}
use Rattle.write.specs.Cursor.{part, Wrote}
use Rattle.write.proofs.Cursors.{wrote_nil, wrote_as, then}
use Rattle.substitute.specs.declared.Filling.{Filling}
use Rattle.substitute.specs.declared.Children.{Children}
use Rattle.substitute.specs.declared.Opened.{Opened}
use Rattle.substitute.specs.declared.Reached.{Reached}
use Rattle.substitute.specs.Substitutes.{all_substituted, WritesNode}
use Rattle.substitute.specs.Substitutes.{AllReplaced, Replaces, Substitutes}

-- a node that was written, and then the expressions inside it: the whole expression
record OneReplaced (at x : ℕ) (v e : Expression) (o : List ℕ) (to : ℕ) (r : Reached) (o' : List ℕ) : Type 0 where
  pub read : r.read ≡ at + length (words e)
  pub wrote : Wrote (words (substituted x v e)) o to r.to o'

one_replaced : (s : List ℕ) (at : ℕ) (f : Filling) (o : List ℕ) (to left : ℕ) (q : Opened) (o₁ : List ℕ) (r : Reached)
    (o₂ : List ℕ) → WritesNode s at f o to q o₁ → Replaces s q.children f o₁ q.to left r o₂
    → (e v : Expression) → Formed e → Stands s at (words e) → length (words e) ≤ left + 1 → f.value.now ≡ words v
    → OneReplaced at f.x v e o to r o₂
one_replaced s at f o to left q o₁ r o₂ n all e v g h l i =
    let w = n.node e v g h i in
    let c = w.cut in
    let here = stands_right c.passed (all_words c.inner) (stands_as c.whole h) in
    let size = ap length c.whole ∙ length-append c.passed (all_words c.inner) in
    let some = c.some in
    let next = c.next in
    let k = all.all c.inner v c.formed (stands_at q.children.at (sym next) here) c.count (omega arith) i in
    let read = k.read in
    record { read = omega arith; wrote = wrote_as (sym c.result) (then w.wrote k.wrote) }

-- the loop: of the expressions `done` are done, and the others stand where the reading is
pub record Rest (at x : ℕ) (v : Expression) (es : List Expression) (o : List ℕ) (to : ℕ) (r : Reached) (o' : List ℕ)
    (done : ℕ) (others : List Expression) : Type 0 where
  pub passed : List ℕ
  pub written : List ℕ
  pub whole : all_words es ≡ passed ++ all_words others
  pub result : all_words (all_substituted x v es) ≡ written ++ all_words (all_substituted x v others)
  pub formed : AllFormed others
  pub count : done + length others ≡ length es
  pub read : r.read ≡ at + length passed
  pub wrote : Wrote written o to r.to o'

pub record Turning (s : List ℕ) (n : Children) (f : Filling) (o : List ℕ) (to left : ℕ) (r : Reached) (o' : List ℕ)
    (done : ℕ) : Type 0 where
  pub high : r.to ≤ length o + 1
  pub same : length o' ≡ length o
  pub sees : (es : List Expression) (v : Expression) → AllFormed es → Stands s n.at (all_words es) → length es ≡ n.count
      → length (all_words es) ≤ left → f.value.now ≡ words v
      → (others : List Expression) × Rest n.at f.x v es o to r o' done others

module _ (s : List ℕ) (n : Children) (f : Filling) (o : List ℕ) (to left : ℕ) (r : Reached) (o' : List ℕ) (done : ℕ)
    (t : Turning s n f o to left r o' done) where
  pub turning_done : n.count ≤ done → Replaces s n f o to left r o'
  unfolding all_words all_substituted
  turning_done z =
      record {
        high = t.high;
        same = t.same;
        all = λ es v g st c l i. let (others, k) = t.sees es v g st c l i in ends es v c others k;
      }
    where
      ends : (es : List Expression) (v : Expression) → length es ≡ n.count → (others : List Expression)
          → Rest n.at f.x v es o to r o' done others → AllReplaced n.at f.x v es o to r o'
      ends es v c [] k =
          let size = ap length (k.whole ∙ append-nil k.passed) in
          let read = k.read in
          record {
            read = omega arith;
            wrote = wrote_as (sym (k.result ∙ append-nil k.written)) k.wrote;
          }
      ends es v c (e ∷ others) k = absurd (omega (arith, k.count))

  -- one expression more
  pub turning_again : done < n.count → (left ≡ 0 → ⊥) → (q : Opened) (o₁ : List ℕ) (r₁ : Reached) (o₂ : List ℕ)
      → WritesNode s r.read f o' r.to q o₁
      → Replaces s q.children f o₁ q.to (left - 1) r₁ o₂
      → Turning s n f o to left r₁ o₂ (done + 1)
  unfolding all_words AllFormed all_substituted
  turning_again z y q o₁ r₁ o₂ node all =
      let h₀ = t.same in
      let h₁ = node.same in
      let h₂ = all.high in
      record {
        high = omega arith;
        same = all.same ∙ node.same ∙ t.same;
        sees = λ es v g st c l i. let (others, k) = t.sees es v g st c l i in more es v st c l i others k;
      }
    where
      more : (es : List Expression) (v : Expression) → Stands s n.at (all_words es) → length es ≡ n.count
          → length (all_words es) ≤ left → f.value.now ≡ words v → (others : List Expression)
          → Rest n.at f.x v es o to r o' done others
          → (others : List Expression) × Rest n.at f.x v es o to r₁ o₂ (done + 1) others
      more es v st c l i [] k = absurd (omega (arith, k.count))
      more es v st c l i (e ∷ others) k =
          let after = stands_right k.passed (words e ++ all_words others) (stands_as k.whole st) in
          let there = stands_at r.read (sym k.read) after in
          let here = stands_left (words e) (all_words others) there in
          let size = ap length k.whole ∙ length-append k.passed (words e ++ all_words others) in
          let size₁ = length-append (words e) (all_words others) in
          let it : OneReplaced r.read f.x v e o' r.to r₁ o₂
          = one_replaced s r.read f o' r.to (left - 1) q o₁ r₁ o₂ node all e v k.formed.0 here
          (omega arith) i in
          let read = k.read in
          let read₁ = it.read in
          let size₂ = length-append k.passed (words e) in (
            others,
            record {
              passed = k.passed ++ words e;
              written = k.written ++ words (substituted f.x v e);
              whole = k.whole ∙ sym (append_assoc k.passed (words e) (all_words others));
              result = k.result ∙ sym (append_assoc k.written (words (substituted f.x v e)) _);
              formed = k.formed.1;
              count = omega (arith, k.count);
              read = omega arith;
              wrote = then k.wrote it.wrote;
            },
          )

-- no words are left, and no expression is so short
pub none_left : (s : List ℕ) (n : Children) (f : Filling) (o : List ℕ) (to left : ℕ) → left ≡ 0
    → to ≤ length o + 1 → Replaces s n f o to left (record { read = n.at; to = to }) o
unfolding all_words all_substituted
none_left s n f o to left z h =
    record { high = h; same = refl; all = λ es v g st c l i. none es v l }
  where
    none : (es : List Expression) (v : Expression) → length (all_words es) ≤ left
        → AllReplaced n.at f.x v es o to (record { read = n.at; to = to }) o
    none [] v l = record { read = omega arith; wrote = wrote_nil o to h }
    none (e ∷ es) v l = absurd (omega (arith, words_long e, length-append (words e) (all_words es)))

-- the whole: an expression is not longer than the words in which it stands
pub substitutes : (s : List ℕ) (at x a b : ℕ) (value : Bor (List ℕ)) → value.now ≡ part s a b → (o : List ℕ) (to : ℕ)
    (q : Opened) (o₁ : List ℕ) (r : Reached) (o₂ : List ℕ)
    → WritesNode s at (record { x = x; value = value }) o to q o₁
    → Replaces s q.children (record { x = x; value = value }) o₁ q.to (length s) r o₂
    → Substitutes s at x a b o to r.to o₂
substitutes s at x a b value same o to q o₁ r o₂ node all =
    let f : Filling = record { x = x; value = value } in
    let h₁ = node.same in
    let h₂ = all.high in
    record {
      high = omega arith;
      same = all.same ∙ node.same;
      wrote = λ e v g h i.
          let size = sym (length-drop at s) ∙ ap length h.eq ∙ length-append (words e) h.rest in
          (one_replaced s at f o to (length s) q o₁ r o₂ node all e v g h (omega arith) (same ∙ i)).wrote;
    }
