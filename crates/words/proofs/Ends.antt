-- Where a type and an expression end: at the end of the tree's words, and a tree stands where one ends.
use Prim.Native.Nat.{ℕ, ◌+◌, ◌≤◌}
use mathlib.Core.List.{List, ◌++◌}
use mathlib.Core.Option.{Option, none, some}
use mathlib.Core.Path.{◌≡◌, refl, sym, ap, ◌∙◌}
use native.Mathlib.Omega.{arith}
use lib.ListN.{length, drop, length-append, length-drop}
use lib.Seq.{drop-drop, drop-append_seam}
use Rattle.calculus.specs.Options.{◌▸◌}
use Rattle.calculus.specs.Types.{ScriptType, basic, reference, function}
use Rattle.calculus.specs.Expressions.{Expression, constant, leaf, lambda, one, two, if}
use Rattle.calculus.specs.Words.{words, type_words}
use Rattle.calculus.specs.Formed.{Formed}
use Rattle.calculus.specs.Reading.{Reader, read_type, read_expression, type_end, end_of}
use Rattle.calculus.proofs.Options.{none≢some, some_inj, ▸-some}
use Rattle.calculus.proofs.Reading.{Sound, read_type_words, read_words, type_words_read, words_read}

-- a tree's words w, the tree well formed, stand from `at` to `end`
pub record Stands {A : Type 0} (w : A → List ℕ) (ok : A → Type 0) (s : List ℕ) (at end : ℕ) : Type 0 where
  pub tree : A
  pub formed : ok tree
  pub here : drop at s ≡ w tree ++ drop end s
  pub to : end ≡ at + length (w tree)
  pub high : end ≤ length s

-- of the words w of trees that are well formed, and a reader r of them: for types and for expressions alike
module _ {A : Type 0} (w : A → List ℕ) (ok : A → Type 0) (r : ℕ → Reader A)
    (long : (a : A) → 1 ≤ length (w a))
    (written : (a : A) (rest : List ℕ) (n : ℕ) → ok a → length (w a) ≤ n → r n (w a ++ rest) ≡ some (a, rest))
    (sound : (n : ℕ) → Sound w ok (r n)) where
  -- the depth does not matter once it is as large as the number of words
  again : (n m : ℕ) (ws : List ℕ) (p : A × List ℕ) → length ws ≤ m → r n ws ≡ some p → r m ws ≡ some p
  again n m ws p h e =
      let g = sound n ws p e in
      let l = ap length g.0 ∙ length-append (w p.0) p.1 in
      ap (r m) g.0 ∙ written p.0 p.1 m g.1 (omega arith)

  fuel : (n m : ℕ) (ws : List ℕ) → length ws ≤ n → length ws ≤ m → r n ws ≡ r m ws
  fuel n m ws hn hm = go (r n ws) (r m ws) refl refl
    where
      go : (a b : Option (A × List ℕ)) → r n ws ≡ a → r m ws ≡ b → a ≡ b
      go none none e f = refl
      go none (some q) e f = none≢some (sym e ∙ again m n ws q hn f)
      go (some p) b e f = sym (again n m ws p hm e) ∙ f

  abbrev ended : List ℕ → ℕ → Option ℕ
  ended s at = r (length s) (drop at s) ▸ λ p. some (at + length (w p.0))

  ended_written : (a : A) (s rest : List ℕ) (at : ℕ) → ok a → drop at s ≡ w a ++ rest
      → ended s at ≡ some (at + length (w a))
  ended_written a s rest at f e =
      let l = ap length e ∙ length-append (w a) rest in
      rw (e, written a rest (length s) f (omega (arith, length-drop at s))) refl

  at_rest : (s : List ℕ) (at : ℕ) (a : A) (rest : List ℕ) → drop at s ≡ w a ++ rest → rest ≡ drop (at + length (w a)) s
  at_rest s at a rest e =
      sym (sym (drop-drop (length (w a)) at s) ∙ ap (drop (length (w a))) e ∙ drop-append_seam (w a) rest)

  ended_stands : (s : List ℕ) (at end : ℕ) → ended s at ≡ some end → Stands w ok s at end
  ended_stands s at end h =
      let (p, e, f) = ▸-some (r (length s) (drop at s)) (λ p. some (at + length (w p.0))) h in
      let g = sound (length s) (drop at s) p e in
      let to : at + length (w p.0) ≡ end = some_inj f in
      let l = ap length g.0 ∙ length-append (w p.0) p.1 in
      record {
        tree = p.0;
        formed = g.1;
        here = g.0 ∙ ap (λ x. w p.0 ++ x) (at_rest s at p.0 p.1 g.0 ∙ ap (λ k. drop k s) to);
        to = sym to;
        high = omega (arith, length-drop at s, long p.0);
      }

  -- a tree is read and then f is done with it and with the words after it, where g is done from its end on
  ended_then : {B : Type 0} (s : List ℕ) (n p : ℕ) (f : A × List ℕ → Option B) (g : ℕ → Option B) → length s ≤ p + n
      → ((a : A) → f (a, drop (p + length (w a)) s) ≡ g (p + length (w a))) → (r n (drop p s) ▸ f) ≡ (ended s p ▸ g)
  ended_then {B} s n p f g h same =
      let l = length-drop p s in
      rw (fuel n (length s) (drop p s) (omega arith) (omega arith)) (go (r (length s) (drop p s)) refl)
    where
      go : (o : Option (A × List ℕ)) → r (length s) (drop p s) ≡ o
          → (o ▸ f) ≡ (o ▸ (λ q. some (p + length (w q.0))) ▸ g)
      go none e = refl
      go (some q) e =
          let after = at_rest s p q.0 q.1 (sound (length s) (drop p s) q e).0 in
          ap (λ (x : List ℕ). f (q.0, x)) after ∙ same q.0

abbrev pub AnyType : ScriptType → Type 0
AnyType A = Unit {0}

pub type_words_long : (A : ScriptType) → 1 ≤ length (type_words A)
unfolding type_words
type_words_long (basic b) = omega arith
type_words_long (reference A) = omega arith
type_words_long (function A B) = omega arith

pub words_long : (e : Expression) → 1 ≤ length (words e)
unfolding words
words_long (constant c) = omega arith
words_long (leaf k n) = omega arith
words_long (lambda x A e) = omega arith
words_long (one o e) = omega arith
words_long (two o a b) = omega arith
words_long (if a b c) = omega arith

types_written : (A : ScriptType) (rest : List ℕ) (n : ℕ) → AnyType A → length (type_words A) ≤ n
    → read_type n (type_words A ++ rest) ≡ some (A, rest)
types_written A rest n f h = read_type_words A rest n h

pub end_type_words : (A : ScriptType) (s rest : List ℕ) (at : ℕ) → drop at s ≡ type_words A ++ rest
    → type_end s at ≡ some (at + length (type_words A))
unfolding type_end
end_type_words A s rest at e =
    ended_written type_words AnyType read_type type_words_long types_written type_words_read A s rest at tt e

pub end_words : (e : Expression) (s rest : List ℕ) (at : ℕ) → Formed e → drop at s ≡ words e ++ rest
    → end_of s at ≡ some (at + length (words e))
unfolding end_of
end_words e s rest at f h =
    ended_written words Formed read_expression words_long read_words words_read e s rest at f h

pub type_stands : (s : List ℕ) (at end : ℕ) → type_end s at ≡ some end → Stands type_words AnyType s at end
unfolding type_end
type_stands s at end e =
    ended_stands type_words AnyType read_type type_words_long types_written type_words_read s at end e

pub expression_stands : (s : List ℕ) (at end : ℕ) → end_of s at ≡ some end → Stands words Formed s at end
unfolding end_of
expression_stands s at end e =
    ended_stands words Formed read_expression words_long read_words words_read s at end e

pub type_then : {B : Type 0} (s : List ℕ) (n p : ℕ) (f : ScriptType × List ℕ → Option B) (g : ℕ → Option B)
    → length s ≤ p + n
    → ((A : ScriptType) → f (A, drop (p + length (type_words A)) s) ≡ g (p + length (type_words A)))
    → (read_type n (drop p s) ▸ f) ≡ (type_end s p ▸ g)
unfolding type_end
type_then s n p f g h same =
    ended_then type_words AnyType read_type type_words_long types_written type_words_read s n p f g h same

pub expression_then : {B : Type 0} (s : List ℕ) (n p : ℕ) (f : Expression × List ℕ → Option B) (g : ℕ → Option B)
    → length s ≤ p + n
    → ((e : Expression) → f (e, drop (p + length (words e)) s) ≡ g (p + length (words e)))
    → (read_expression n (drop p s) ▸ f) ≡ (end_of s p ▸ g)
unfolding end_of
expression_then s n p f g h same =
    ended_then words Formed read_expression words_long read_words words_read s n p f g h same
