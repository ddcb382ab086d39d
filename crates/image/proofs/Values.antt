-- A closed expression and a value end where their readers stop, and a value is known by its tag.
use Prim.Native.Nat.{ℕ, ◌+◌, ◌≤◌, ◌<◌}
use mathlib.Core.Bool.{Bool, true, false}
use mathlib.Core.List.{List, ◌++◌}
use mathlib.Core.Option.{Option as Maybe, none, some}
use mathlib.Core.Path.{◌≡◌, refl, sym, ap, ◌∙◌, subst}
use native.Mathlib.Nat.{add-zero}
use native.Mathlib.Omega.{arith}
use lib.Dec.{leb}
use lib.ListN.{length, get_or, drop, length-append, length-drop}
use lib.Seq.{drop-drop, drop-append_seam, get_or-drop}
use borrow.Author.Tests.{le-leb, lt-leb, true-leb, false-leb}
use Rattle.calculus.specs.Options.{◌▸◌, test}
use Rattle.calculus.specs.Expressions.{Expression, constant, unit, bool, leaf, number, variable, location, revision}
use Rattle.calculus.specs.Expressions.{lambda, one, ref, read, fork, join, two, apply, assign, arithmetic, add}
use Rattle.calculus.specs.Expressions.{subtract, less, if}
use Rattle.calculus.specs.Words.{words}
use Rattle.calculus.specs.Formed.{value, closed}
use Rattle.calculus.specs.Reading.{read_expression}
use Rattle.calculus.specs.Stores.{plain}
use Rattle.calculus.specs.Images.{read_closed, read_cell}
use Rattle.calculus.proofs.Options.{▸-some, some_inj}
use Rattle.calculus.proofs.Reading.{words_read}
use Rattle.words.specs.Walks.{walk_of, closed_end_of}
use Rattle.std.specs.Prelude.{Option, Some, None}
use Rattle.words.proofs.Ends.{words_long}
use Rattle.image.specs.Matches.{Matches, Matched}

-- a closed expression
pub closed_matched : (s : List ℕ) (at : ℕ) (w : Option ℕ) → w ≡ walk_of (closed_end_of s at) → Matched read_closed s at w
unfolding closed_end_of
closed_matched s at w q =
    record {
      matches
          = subst (Matches s (read_closed (length s) (drop at s))) (sym q)
          (go (read_expression (length s) (drop at s)) refl);
    }
  where
    go : (o : Maybe (Expression × List ℕ)) → read_expression (length s) (drop at s) ≡ o
        → Matches s (o ▸ λ p. test (closed p.0) ▸ λ u. some p)
        (walk_of (o ▸ λ p. test (closed p.0) ▸ λ u. some (at + length (words p.0))))
    go none e = tt
    go (some p) e = tested (closed p.0)
      where
        tested : (b : Bool) → Matches s (test b ▸ λ u. some p)
            (walk_of (test b ▸ λ u. some (at + length (words p.0))))
        tested false = tt
        tested true =
            let here = (words_read (length s) (drop at s) p e).0 in
            let l = ap length here ∙ length-append (words p.0) p.1 in (
              sym
                  (sym (drop-drop (length (words p.0)) at s)
                  ∙ ap (drop (length (words p.0))) here
                  ∙ drop-append_seam (words p.0) p.1),
              omega (arith, length-drop at s, words_long p.0),
            )

-- a value is known by its tag
value_tag : (e : Expression) (rest : List ℕ) → value e ≡ leb (get_or (words e ++ rest) 0 0) 7
unfolding words
value_tag (constant unit) rest = refl
value_tag (constant (bool false)) rest = refl
value_tag (constant (bool true)) rest = refl
value_tag (leaf number n) rest = refl
value_tag (leaf variable n) rest = refl
value_tag (leaf location n) rest = refl
value_tag (leaf revision n) rest = refl
value_tag (lambda x A e) rest = refl
value_tag (one ref e) rest = refl
value_tag (one read e) rest = refl
value_tag (one fork e) rest = refl
value_tag (one join e) rest = refl
value_tag (two apply a b) rest = refl
value_tag (two assign a b) rest = refl
value_tag (two (arithmetic add) a b) rest = refl
value_tag (two (arithmetic subtract) a b) rest = refl
value_tag (two (arithmetic less) a b) rest = refl
value_tag (if a b c) rest = refl

value_read : (s : List ℕ) (at : ℕ) (p : Expression × List ℕ) → read_closed (length s) (drop at s) ≡ some p
    → value p.0 ≡ leb (get_or s at 0) 7
value_read s at p h =
    let (a, e, i) = ▸-some (read_expression (length s) (drop at s)) (λ p. test (closed p.0) ▸ λ u. some p) h in
    let (u, t, j) = ▸-some (test (closed a.0)) (λ u. some a) i in
    let here = (words_read (length s) (drop at s) a e).0 in
    ap (λ (x : Expression × List ℕ). value x.0) (sym (some_inj j))
    ∙ value_tag a.0 a.1
    ∙ ap (λ (l : List ℕ). leb (get_or l 0 0) 7) (sym here)
    ∙ ap (λ (n : ℕ). leb n 7) (get_or-drop at s 0 0 ∙ ap (λ (i : ℕ). get_or s i 0) (add-zero at))

module _ (s : List ℕ) (at t : ℕ) (ti : t ≡ get_or s at 0) where
  pub cell_other : 7 < t → Matched read_cell s at None
  cell_other h = record { matches = go (read_closed (length s) (drop at s)) refl }
    where
      go : (o : Maybe (Expression × List ℕ)) → read_closed (length s) (drop at s) ≡ o
          → Matches s (o ▸ λ p. test (value p.0) ▸ λ u. some (plain p.0, p.1)) None
      go none e = tt
      go (some p) e = rw (value_read s at p e ∙ lt-leb (get_or s at 0) 7 (omega arith)) tt

  pub cell_value : t ≤ 7 → (w : Option ℕ) → w ≡ walk_of (closed_end_of s at) → Matched read_cell s at w
  cell_value h w q =
      record { matches = go (read_closed (length s) (drop at s)) refl w (closed_matched s at w q).matches }
    where
      go : (o : Maybe (Expression × List ℕ)) → read_closed (length s) (drop at s) ≡ o → (w : Option ℕ) → Matches s o w
          → Matches s (o ▸ λ p. test (value p.0) ▸ λ u. some (plain p.0, p.1)) w
      go none e None m = tt
      go none e (Some x) m = absurd m
      go (some p) e None m = absurd m
      go (some p) e (Some x) m = rw (value_read s at p e ∙ le-leb (get_or s at 0) 7 (omega arith)) m

  -- by the tag that the word is
  pub tag_none : 18 ≤ t → Matched read_cell s at None
  tag_none h = cell_other (omega arith)

  module _ (v : ℕ) (e : v ≡ t) where
    pub tag_other : false ≡ leb v 7 → Matched read_cell s at None
    tag_other h = cell_other (subst (λ n. 7 < n) e (false-leb v 7 h))

    pub tag_value : true ≡ leb v 7 → (w : Option ℕ) → w ≡ walk_of (closed_end_of s at) → Matched read_cell s at w
    tag_value h = cell_value (subst (λ n. n ≤ 7) e (true-leb v 7 h))
