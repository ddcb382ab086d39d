-- A look at a node of words: the tags that stand there are the tree's, the child that decides, and a law for each way
-- through `look`.
use Prim.Native.Nat.{ℕ, ◌+◌, ◌<◌}
use mathlib.Core.Path.{subst as along, ◌≡◌, refl, sym, ap, ◌∙◌}
use mathlib.Core.Logic.{inl, inr}
use lib.Dec.{leb}
use mathlib.Core.Bool.{Bool, true, false}
use mathlib.Core.List.{List, []}
use native.Mathlib.Omega.{arith}
use native.Mathlib.Nat.{add-zero}
use lib.ListN.{length, get_or, get_or-append, length-drop, length-append}
use lib.Seq.{get_or-drop}
use Rattle.words.proofs.Ends.{words_long}
use Rattle.calculus.specs.Expressions.{Expression, constant, leaf, lambda, one, two, if, One, Two}
use Rattle.calculus.specs.Words.{words}
use Rattle.calculus.specs.Formed.{Formed, value}
use Rattle.calculus.specs.Redexes.{redex}
use Rattle.calculus.specs.Places.{second_of, stuck_at, place}
use Rattle.image.specs.Standing.{Stands, EndsAt}
use Rattle.image.proofs.Standing.{headed, stands_left, stands_right, stands_at}
use Rattle.std.specs.Prelude.{Some, None}
use Rattle.words.specs.declared.tags.Tag.{Tag}
use Rattle.words.specs.Tags.{word_of}
use Rattle.place.specs.declared.Move.TheVariants.{Enter, IsValue, IsRedex, IsStuck}
use Rattle.place.specs.Search.{top_tag, asks_second, FirstTag, SecondTag, is_some, TagAt, RedexBy, ChildAt}
use Rattle.place.specs.Search.{Decides, Enters, Looks}
use Rattle.place.proofs.Tags.{told_value, told_known}
use Rattle.place.proofs.Nodes.{place_value, place_redex, stuck_first, enter_first, stuck_second, enter_second}

-- the tags that stand there
pub inside : (s : List ℕ) (p : ℕ) (e : Expression) → Stands s p (words e) → p < length s
inside s p e h = omega (arith, words_long e, simp (length-drop, length-append) at (ap length h.eq))

top_at : (s : List ℕ) (p : ℕ) (e : Expression) → Stands s p (words e) → get_or s p 0 ≡ top_tag e
unfolding top_tag
top_at s p e h =
    ap (λ i. get_or s i 0) (sym (add-zero p))
    ∙ sym (get_or-drop p s 0 0)
    ∙ ap (λ l. get_or l 0 0) h.eq
    ∙ get_or-append (words e) h.rest 0 0 (words_long e)

module _ (s : List ℕ) (p : ℕ) where
  one_first : (o : One) (a : Expression) → Stands s p (words (one o a)) → Stands s (p + 1) (words a)
  unfolding words
  one_first o a h = (headed h).more

  two_first : (o : Two) (a b : Expression) → Stands s p (words (two o a b)) → Stands s (p + 1) (words a)
  unfolding words
  two_first o a b h = stands_left (words a) (words b) (headed h).more

  two_second : (o : Two) (a b : Expression) → Stands s p (words (two o a b))
      → Stands s (p + 1 + length (words a)) (words b)
  unfolding words
  two_second o a b h = stands_right (words a) (words b) (headed h).more

  if_first : (a b c : Expression) → Stands s p (words (if a b c)) → Stands s (p + 1) (words a)
  unfolding words
  if_first a b c h = stands_left (words a) _ (headed h).more

  first_at : (t : ℕ) → t ≡ get_or s (p + 1) 0 → (e : Expression) → Stands s p (words e) → FirstTag e t
  first_at t is (constant c) h = tt
  first_at t is (leaf k n) h = tt
  first_at t is (lambda x A e) h = tt
  first_at t is (one o a) h = is ∙ top_at s (p + 1) a (one_first o a h)
  first_at t is (two o a b) h = is ∙ top_at s (p + 1) a (two_first o a b h)
  first_at t is (if a b c) h = is ∙ top_at s (p + 1) a (if_first a b c h)

-- where an expression stands, its tag does
tagged : (s : List ℕ) (p : ℕ) (e : Expression) → Stands s p (words e) → TagAt s p None → ⊥
tagged s p e h (inl l) = let i = inside s p e h in omega arith
tagged s p e h (inr l) = let k = told_known e (top_at s p e h) in omega arith

first_tagged : (s : List ℕ) (p : ℕ) (e : Expression) → value e ≡ false → Stands s p (words e)
    → TagAt s (p + 1) None → ⊥
first_tagged s p (constant c) i h n = cc
first_tagged s p (leaf k m) i h n = cc
first_tagged s p (lambda x A e) i h n = cc
first_tagged s p (one o a) i h n = tagged s (p + 1) a (one_first s p o a h) n
first_tagged s p (two o a b) i h n = tagged s (p + 1) a (two_first s p o a b h) n
first_tagged s p (if a b c) i h n = tagged s (p + 1) a (if_first s p a b c h) n

-- the child that stands at q decides what there is to do at e, if it is no redex
record Deciding (s : List ℕ) (p : ℕ) (e : Expression) (q : ℕ) : Type 0 where
  child : Expression
  stands : Stands s q (words child)
  second : SecondTag e (top_tag child)
  stuck : false ≡ is_some (redex e) → value child ≡ true → place e ≡ stuck_at [] e
  enter : false ≡ is_some (redex e) → value child ≡ false → Enters p e q

module _ (s : List ℕ) (p q : ℕ) where
  first_decides : (e : Expression) → value e ≡ false → false ≡ asks_second e → q ≡ p + 1 → Stands s p (words e)
      → Deciding s p e q
  first_decides (constant c) i a is h = cc
  first_decides (leaf k m) i a is h = cc
  first_decides (lambda x A e) i a is h = cc
  first_decides (one o b) i a is h =
      record {
        child = b;
        stands = stands_at q (sym is) (one_first s p o b h);
        second = tt;
        stuck = λ n. stuck_first (one o b) i n a;
        enter = λ n v. along (Enters p (one o b)) (sym is) (enter_first p (one o b) i n v);
      }
  first_decides (two o b c) i a is h =
      record {
        child = b;
        stands = stands_at q (sym is) (two_first s p o b c h);
        second = λ t. absurd (rw (sym a) at t);
        stuck = λ n. stuck_first (two o b c) i n a;
        enter = λ n v. along (Enters p (two o b c)) (sym is) (enter_first p (two o b c) i n v);
      }
  first_decides (if b c d) i a is h =
      record {
        child = b;
        stands = stands_at q (sym is) (if_first s p b c d h);
        second = tt;
        stuck = λ n. stuck_first (if b c d) i n a;
        enter = λ n v. along (Enters p (if b c d)) (sym is) (enter_first p (if b c d) i n v);
      }

  second_decides : (e : Expression) → true ≡ asks_second e → EndsAt s (p + 1) q → Formed e → Stands s p (words e)
      → Deciding s p e q
  unfolding Formed
  second_decides (constant c) a ends f h = cc
  second_decides (leaf k m) a ends f h = cc
  second_decides (lambda x A e) a ends f h = cc
  second_decides (one o b) a ends f h = cc
  second_decides (two o b c) a ends f h =
      let is = ends.ends b f.0 (two_first s p o b c h) in
      record {
        child = c;
        stands = stands_at q (sym is) (two_second s p o b c h);
        second = λ t. refl;
        stuck = stuck_second o b c a;
        enter = λ n v. record {
          frame = second_of o b;
          child = c;
          whole = refl;
          same = enter_second o b c a n v;
          at = omega arith;
        };
      }
  second_decides (if b c d) a ends f h = cc

  decides : (x : Bool) → ChildAt s (p + 1) x q → (e : Expression) → x ≡ asks_second e → value e ≡ false → Formed e
      → Stands s p (words e) → Deciding s p e q
  decides true is e a i f h = second_decides e a is f h
  decides false is e a i f h = first_decides e i a is h

module _ (s : List ℕ) (p : ℕ) where
  pub look_none : TagAt s p None → Looks s p IsValue
  look_none n = record { forward = tt; finds = λ e f h. absurd (tagged s p e h n) }

  -- a node that stands there, by its tag
  module _ (node : Tag) (at : TagAt s p (Some node)) (v : Bool) (is : v ≡ leb (word_of node) 7) where
    told : (e : Expression) → Stands s p (words e) → word_of node ≡ top_tag e
    told e h = at.1 ∙ top_at s p e h

    valued : (e : Expression) → Stands s p (words e) → v ≡ value e
    valued e h = is ∙ told_value e (told e h)

    pub look_value : v ≡ true → Looks s p IsValue
    look_value t = record { forward = tt; finds = λ e f h. place_value e (sym (valued e h) ∙ t) }

    module _ (big : v ≡ false) where
      inner : (e : Expression) → Stands s p (words e) → value e ≡ false
      inner e h = sym (valued e h) ∙ big

      pub look_short : TagAt s (p + 1) None → Looks s p IsStuck
      look_short n = record { forward = tt; finds = λ e f h. absurd (first_tagged s p e (inner e h) h n) }

      -- and by the tag of the child that decides
      module _
          (first : Tag) (next : TagAt s (p + 1) (Some first)) (q : ℕ)
          (d : Decides s (word_of node) (word_of first) (p + 1) q)
        where
          deciding : (e : Expression) → Formed e → Stands s p (words e) → Deciding s p e q
          deciding e f h =
              let a = d.told.answer e (told e h) (first_at s p (word_of first) next.1 e h) in
              decides s p q d.asks d.child e a (inner e h) f h

          pub look_lost : TagAt s q None → Looks s p IsStuck
          look_lost n =
              record {
                forward = tt;
                finds = λ e f h. let k = deciding e f h in absurd (tagged s q k.child k.stands n);
              }

          module _
              (last : Tag) (there : TagAt s q (Some last)) (y : Bool)
              (by : RedexBy (word_of node) (word_of first) (word_of last) y)
            where
              judged : (e : Expression) → Formed e → Stands s p (words e) → y ≡ is_some (redex e)
              judged e f h =
                  let k = deciding e f h in
                  let is = there.1 ∙ top_at s q k.child k.stands in
                  by.answer e (told e h) (first_at s p (word_of first) next.1 e h)
                  (along (SecondTag e) (sym is) k.second)

              pub look_redex : y ≡ true → Looks s p IsRedex
              look_redex r = record { forward = tt; finds = λ e f h. place_redex e (sym r ∙ judged e f h) }

              module _ (r : y ≡ false) (w : Bool) (test : w ≡ leb (word_of last) 7) where
                child_value : (c : Expression) → Stands s q (words c) → w ≡ value c
                child_value c h = test ∙ told_value c (there.1 ∙ top_at s q c h)

                pub look_stuck : w ≡ true → Looks s p IsStuck
                look_stuck t =
                    record {
                      forward = tt;
                      finds = λ e f h.
                          let k = deciding e f h in
                          k.stuck (sym r ∙ judged e f h) (sym (child_value k.child k.stands) ∙ t);
                    }

                pub look_enter : w ≡ false → Looks s p (Enter q)
                look_enter t =
                    record {
                      forward = (at.0, further d.asks d.child);
                      finds = λ e f h.
                          let k = deciding e f h in
                          k.enter (sym r ∙ judged e f h) (sym (child_value k.child k.stands) ∙ t);
                    }
                  where
                    further : (x : Bool) → ChildAt s (p + 1) x q → p < q
                    further true ends = let l = ends.low next.0 in omega arith
                    further false is = omega arith
