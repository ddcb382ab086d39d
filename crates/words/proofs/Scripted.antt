-- Words that are a script, and words that are none: one law for each way through `check_script`.
use Prim.Native.Nat.{ℕ, ◌≤◌, ◌+◌, ◌<◌}
use mathlib.Core.Bool.{Bool, false, true}
use mathlib.Core.List.{List, [], ◌∷◌, append-nil}
use mathlib.Core.Option.{Option as Maybe, none, some}
use mathlib.Core.Path.{◌≡◌, ap, ◌∙◌, refl, sym}
use lib.ListN.{length}
use borrow.Author.Tests.{lt-leb, le-leb}
use Rattle.std.specs.Prelude.{Option, is_some}
use Rattle.calculus.specs.Answers.{script, script_of, script_if, no_script}
use Rattle.calculus.specs.Expressions.{Expression}
use Rattle.calculus.specs.Formed.{Formed, closed, holds_handle}
use Rattle.calculus.specs.Numbers.{choose}
use Rattle.calculus.specs.Options.{test, ◌▸◌}
use Rattle.calculus.specs.Reading.{expression_of, read_expression, wholly}
use Rattle.calculus.specs.Words.{words}
use Rattle.calculus.proofs.Options.{none≢some, some_inj}
use Rattle.calculus.proofs.Reading.{words_read}
use Rattle.words.specs.Names.{HandleTold}
use Rattle.words.specs.Walks.{closed_end_of, is_there, walk_of}

read_whole : (ws : List ℕ) (e : Expression) → expression_of ws ≡ some e → read_expression (length ws) ws ≡ some (e, [])
unfolding expression_of
read_whole ws e h = go (read_expression (length ws) ws) h
  where
    go : (o : Maybe (Expression × List ℕ)) → wholly o ≡ some e → o ≡ some (e, [])
    go none q = none≢some q
    go (some (a, [])) q = ap (λ (x : Expression). some (x, [])) (some_inj q)
    go (some (a, w ∷ r)) q = none≢some q

-- the words that are read as one tree are its words
pub words_of : (ws : List ℕ) (e : Expression) → expression_of ws ≡ some e → (ws ≡ words e) × Formed e
words_of ws e h =
    let g = words_read (length ws) ws (e, []) (read_whole ws e h) in
    (g.0 ∙ append-nil (words e), g.1)

closed_whole : (ws : List ℕ) (e : Expression) → expression_of ws ≡ some e
    → closed_end_of ws 0 ≡ (test (closed e) ▸ λ u. some (0 + length (words e)))
unfolding closed_end_of
closed_whole ws e h = rw (read_whole ws e h) refl

module _ (ws : List ℕ) where
  pub too_long : 2048 < length ws → script_of ws ≡ no_script 10
  unfolding script_of
  too_long h = rw (lt-leb (length ws) 2048 h) refl

  module _ (h : length ws ≤ 2048) where
    pub few : script_of ws ≡ script_if (expression_of ws)
    unfolding script_of
    few = rw (le-leb (length ws) 2048 h) refl

    pub not_formed : false ≡ is_there (expression_of ws) → script_of ws ≡ no_script 10
    not_formed q = go (expression_of ws) q few
      where
        go : (o : Maybe Expression) → false ≡ is_there o → script_of ws ≡ script_if o → script_of ws ≡ no_script 10
        go none i e = e
        go (some x) i e = cc

    module _ (q : true ≡ is_there (expression_of ws)) where
      tree : (e : Expression) × (expression_of ws ≡ some e)
      tree = go (expression_of ws) q
        where
          go : (o : Maybe Expression) → true ≡ is_there o → (e : Expression) × (o ≡ some e)
          go none i = cc
          go (some e) i = (e, refl)

      handle_is : (c : Bool) → HandleTold ws c → (e : Expression) → expression_of ws ≡ some e → holds_handle e ≡ c
      handle_is c k e g = let (u, v) = words_of ws e g in sym (k.told e u v)

      pub with_handle : HandleTold ws true → script_of ws ≡ no_script 11
      with_handle k = let (e, g) = tree in rw (few, g, handle_is true k e g) refl

      module _ (k : HandleTold ws false) (w : Option ℕ) (p : w ≡ walk_of (closed_end_of ws 0)) where
        with_none : (e : Expression) → expression_of ws ≡ some e
            → script_of ws ≡ choose (closed e) (script e) (no_script 12)
        with_none e g = few ∙ rw (g, handle_is false k e g) refl

        closed_is : (e : Expression) → expression_of ws ≡ some e → is_some w ≡ closed e
        closed_is e g = ap is_some (p ∙ ap walk_of (closed_whole ws e g)) ∙ go (closed e)
          where
            go : (t : Bool) → is_some (walk_of (test t ▸ λ u. some (0 + length (words e)))) ≡ t
            go true = refl
            go false = refl

        pub not_closed : is_some w ≡ false → script_of ws ≡ no_script 12
        not_closed r =
            let (e, g) = tree in
            with_none e g ∙ ap (λ (t : Bool). choose t (script e) (no_script 12)) (sym (closed_is e g) ∙ r)

        pub is_script : is_some w ≡ true → (e : Expression) × (script_of ws ≡ script e)
        is_script r =
            let (e, g) = tree in
            (e, with_none e g ∙ ap (λ (t : Bool). choose t (script e) (no_script 12)) (sym (closed_is e g) ∙ r))
