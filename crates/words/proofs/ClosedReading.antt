-- The reader at a position of the words: its bound does not matter, and what is left is a later position's words.
use Prim.Native.Nat.{ℕ, zero, suc, ◌+◌, ◌<◌, ◌≤◌}
use mathlib.Core.List.{List, [], ◌++◌}
use mathlib.Core.Option.{Option, none, some}
use mathlib.Core.Path.{◌≡◌, refl, sym, ap, ◌∙◌}
use native.Mathlib.Omega.{arith}
use lib.ListN.{length, get_or, drop, length-append, length-drop, drop_of_length-le}
use lib.Seq.{drop-drop, drop-append_seam}
use borrow.Author.Tests.{le-leb, lt-leb}
use Rattle.calculus.specs.Options.{◌▸◌}
use Rattle.calculus.specs.Types.{ScriptType}
use Rattle.calculus.specs.Expressions.{Expression}
use Rattle.calculus.specs.Words.{words, type_words}
use Rattle.calculus.specs.Reading.{read_word, read_type, read_expression, read_parts, tag_of}
use Rattle.calculus.proofs.Reading.{read_words, words_read, type_words_read}
use Rattle.words.proofs.Nodes.{drop_next}

-- what is read under one bound is read under any that the words allow
read_again : (n m : ℕ) (ws : List ℕ) (p : Expression × List ℕ) → read_expression n ws ≡ some p → length ws ≤ m
    → read_expression m ws ≡ some p
read_again n m ws p e h =
    let g = words_read n ws p e in
    let l = ap length g.0 ∙ length-append (words p.0) p.1 in
    ap (read_expression m) g.0 ∙ read_words p.0 p.1 m g.1 (omega arith)

pub read_enough : (n m : ℕ) (ws : List ℕ) → length ws ≤ n → length ws ≤ m → read_expression n ws ≡ read_expression m ws
read_enough n m ws h k = go (read_expression n ws) (read_expression m ws) refl refl
  where
    go : (a b : Option (Expression × List ℕ)) → read_expression n ws ≡ a → read_expression m ws ≡ b
        → read_expression n ws ≡ read_expression m ws
    go none none p q = p ∙ sym q
    go (some x) b p q = p ∙ sym (read_again n m ws x p k)
    go none (some y) p q = read_again m n ws y q h ∙ sym q

read_nothing : (n : ℕ) → read_expression n [] ≡ none
unfolding read_expression
read_nothing zero = refl
read_nothing (suc n) = refl

pub read_past : (s : List ℕ) (at : ℕ) → length s ≤ at → read_expression (length s) (drop at s) ≡ none
read_past s at h = rw (drop_of_length-le s h) (read_nothing (length s))

pub read_node : (s : List ℕ) (at : ℕ) → at < length s
    → read_expression (length s) (drop at s)
    ≡ (tag_of (get_or s at 0)
    ▸ λ t. read_parts (λ v. read_type (length s) v) (λ v. read_expression (length s) v) t (drop (at + 1) s))
unfolding read_expression
read_node s at h =
    let l = length-drop at s in
    read_enough (length s) (suc (length s)) (drop at s) (omega arith) (omega arith)
    ∙ ap (read_expression (suc (length s))) (drop_next s at h)

-- what is left after an expression, a type stands where it ends
rest_drop : (s ws r : List ℕ) (at : ℕ) → drop at s ≡ ws ++ r → r ≡ drop (at + length ws) s
rest_drop s ws r at e = sym (sym (drop-drop (length ws) at s) ∙ ap (drop (length ws)) e ∙ drop-append_seam ws r)

pub read_rest : (s : List ℕ) (at : ℕ) (a : Expression) (r : List ℕ)
    → read_expression (length s) (drop at s) ≡ some (a, r) → r ≡ drop (at + length (words a)) s
read_rest s at a r e = rest_drop s (words a) r at (words_read (length s) (drop at s) (a, r) e).0

pub type_rest : (s : List ℕ) (at : ℕ) (A : ScriptType) (r : List ℕ)
    → read_type (length s) (drop at s) ≡ some (A, r) → r ≡ drop (at + length (type_words A)) s
type_rest s at A r e = rest_drop s (type_words A) r at (type_words_read (length s) (drop at s) (A, r) e).0

-- the own word
pub own_read : (s : List ℕ) (at b : ℕ) → at < length s → get_or s at 0 ≤ b
    → read_word b (drop at s) ≡ some (get_or s at 0, drop (at + 1) s)
own_read s at b h k = rw (drop_next s at h, le-leb (get_or s at 0) b k) refl

pub own_over : (s : List ℕ) (at b : ℕ) → at < length s → b < get_or s at 0 → read_word b (drop at s) ≡ none
own_over s at b h k = rw (drop_next s at h, lt-leb (get_or s at 0) b k) refl

pub own_past : (s : List ℕ) (at b : ℕ) → length s ≤ at → read_word b (drop at s) ≡ none
own_past s at b h = rw (drop_of_length-le s h) refl
