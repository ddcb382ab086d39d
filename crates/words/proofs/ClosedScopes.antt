-- The marks stand for the list of the variables in scope, and marking a marked variable changes nothing.
use Prim.Native.Nat.{ℕ, ◌+◌, ◌≤◌}
use mathlib.Core.Bool.{Bool, true, false, ◌&&◌, ◌||◌}
use mathlib.Core.List.{List, [], ◌∷◌}
use mathlib.Core.Option.{Option as Maybe, none, some}
use mathlib.Core.Path.{◌≡◌, refl, sym, ap, ap₂, ◌∙◌}
use native.Mathlib.Decide.{ℕ_discrete}
use native.Mathlib.Omega.{arith}
use lib.Dec.{eqb}
use lib.ListN.{length, get_or, set, drop, replicate, length-set, length-replicate, get_or-replicate}
use lib.Seq.{get_or-set_same, get_or-set_other, set-get_or}
use borrow.Author.Tests.{eq-eqb, ne_eqb}
use Rattle.std.specs.Prelude.{Option}
use Rattle.calculus.specs.Options.{◌▸◌, test}
use Rattle.calculus.specs.Expressions.{number, variable, location, revision}
use Rattle.calculus.specs.Expressions.{Expression, constant, leaf, lambda, one, two, if}
use Rattle.calculus.specs.Words.{words}
use Rattle.calculus.specs.Formed.{Formed, member, closed_in, closed}
use Rattle.calculus.specs.Reading.{read_expression}
use Rattle.calculus.proofs.Reading.{words_read}
use Rattle.words.specs.Walks.{walk_of, closed_end_of}
use Rattle.words.specs.Scopes.{closed_under, closed_end}

pub set_marked : (scope : List Bool) (x : ℕ) → get_or scope x false ≡ true → set scope x true ≡ scope
set_marked scope x e = ap (set scope x) (sym e) ∙ set-get_or scope x false

-- the marks of the variables 0..255 are those of the list
pub record Marks (scope : List Bool) (xs : List ℕ) : Type 0 where
  pub many : length scope ≡ 256
  pub each : (n : ℕ) → n ≤ 255 → get_or scope n false ≡ member n xs

marks_none : Marks (replicate 256 false) []
unfolding member
marks_none =
    record {
      many = length-replicate 256 false;
      each = λ n h. get_or-replicate 256 n false false (omega arith);
    }

marks_more : (scope : List Bool) (xs : List ℕ) (x : ℕ) → x ≤ 255 → Marks scope xs → Marks (set scope x true) (x ∷ xs)
unfolding member
marks_more scope xs x h m =
    record { many = length-set scope x true ∙ m.many; each = λ n k. at n k (ℕ_discrete n x) }
  where
    at : (n : ℕ) → n ≤ 255 → Dec (n ≡ x) → get_or (set scope x true) n false ≡ (eqb n x || member n xs)
    at n k (yes e) =
        let l = m.many in
        rw (eq-eqb n x e, e) (get_or-set_same scope x true false (omega arith))
    at n k (no d) = rw (ne_eqb n x d) (get_or-set_other scope x n true false d ∙ m.each n k)

under_in : (e : Expression) (scope : List Bool) (xs : List ℕ) → Formed e → Marks scope xs
    → closed_under scope e ≡ closed_in xs e
unfolding closed_under closed_in Formed
under_in (constant c) scope xs f m = refl
under_in (leaf number n) scope xs f m = refl
under_in (leaf variable n) scope xs f m = m.each n f
under_in (leaf location n) scope xs f m = refl
under_in (leaf revision n) scope xs f m = refl
under_in (lambda x A e) scope xs f m =
    under_in e (set scope x true) (x ∷ xs) f.1 (marks_more scope xs x f.0 m)
under_in (one o e) scope xs f m = under_in e scope xs f m
under_in (two o a b) scope xs f m = ap₂ ◌&&◌ (under_in a scope xs f.0 m) (under_in b scope xs f.1 m)
under_in (if a b c) scope xs f m =
    ap₂ ◌&&◌ (under_in a scope xs f.0 m)
    (ap₂ ◌&&◌ (under_in b scope xs f.1 m) (under_in c scope xs f.2 m))

-- nothing marked: closed
end_closed : (s : List ℕ) (at : ℕ) → closed_end s (replicate 256 false) at ≡ closed_end_of s at
unfolding closed_end closed_end_of
end_closed s at = go (read_expression (length s) (drop at s)) refl
  where
    go : (m : Maybe (Expression × List ℕ)) → read_expression (length s) (drop at s) ≡ m
        → (m ▸ λ p. test (closed_under (replicate 256 false) p.0) ▸ λ u. some (at + length (words p.0)))
        ≡ (m ▸ λ p. test (closed p.0) ▸ λ u. some (at + length (words p.0)))
    go none e = refl
    go (some p) e =
        rw (under_in p.0 (replicate 256 false) [] (words_read (length s) (drop at s) p e).1 marks_none) refl

pub whole : (s : List ℕ) (at : ℕ) (r : Option ℕ) → r ≡ walk_of (closed_end s (replicate 256 false) at)
    → r ≡ walk_of (closed_end_of s at)
whole s at r e = e ∙ ap walk_of (end_closed s at)
