-- All of the words as one expression: where one stands at the front and ends where the words end.
use Prim.Native.Nat.{ℕ, ◌+◌}
use mathlib.Core.List.{List, [], ◌∷◌}
use mathlib.Core.Option.{Option as Maybe, none, some}
use mathlib.Core.Path.{◌≡◌, refl, ap}
use native.Mathlib.Omega.{arith}
use lib.Dec.{eqb}
use lib.ListN.{length, length-append}
use borrow.Author.Tests.{eq-eqb, ne_eqb}
use Rattle.std.specs.Option.{option_eq}
use Rattle.std.specs.Prelude.{Some}
use Rattle.calculus.specs.Options.{◌▸◌}
use Rattle.calculus.specs.Expressions.{Expression}
use Rattle.calculus.specs.Words.{words}
use Rattle.calculus.specs.Reading.{read_expression, end_of, wholly, expression_of}
use Rattle.calculus.proofs.Options.{none≢some, some_inj}
use Rattle.calculus.proofs.Reading.{words_read}
use Rattle.words.specs.Walks.{walk_of, is_there}

abbrev end_if : Maybe (Expression × List ℕ) → Maybe ℕ
end_if o = o ▸ λ p. some (0 + length (words p.0))

module _ (s : List ℕ) where
  -- where an expression ends at e, and where none does
  ended : (o : Maybe (Expression × List ℕ)) → read_expression (length s) s ≡ o → (e : ℕ) → end_if o ≡ some e
      → eqb e (length s) ≡ is_there (wholly o)
  ended none q e f = none≢some f
  ended (some (a, [])) q e f =
      let g = ap length (words_read (length s) s (a, []) q).0 in
      let to : 0 + length (words a) ≡ e = some_inj f in
      eq-eqb e (length s) (omega (arith, length-append (words a) []))
  ended (some (a, x ∷ r)) q e f =
      let g = ap length (words_read (length s) s (a, x ∷ r) q).0 in
      let to : 0 + length (words a) ≡ e = some_inj f in
      ne_eqb e (length s) (λ i. omega (arith, length-append (words a) (x ∷ r)))

  -- the code's test of a walk's answer
  pub whole : option_eq eqb (walk_of (end_of s 0)) (Some (length s)) ≡ is_there (expression_of s)
  unfolding end_of expression_of
  whole = go (read_expression (length s) s) refl
    where
      go : (o : Maybe (Expression × List ℕ)) → read_expression (length s) s ≡ o
          → option_eq eqb (walk_of (end_if o)) (Some (length s)) ≡ is_there (wholly o)
      go none q = refl
      go (some p) q = ended (some p) q (0 + length (words p.0)) refl
