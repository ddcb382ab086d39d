-- The scan for a leaf, node by node, and what the scans for all leaves of a kind come to.
use Prim.Native.Nat.{ℕ, suc, ◌+◌, ◌≤◌}
use mathlib.Core.Path.{subst as along, ◌≡◌, refl, sym, ap, ◌∙◌}
use mathlib.Core.Bool.{Bool, true, false, ◌||◌}
use mathlib.Core.List.{List, [], ◌∷◌, ◌++◌, append-nil}
use mathlib.Core.Option.{some}
use native.Mathlib.Omega.{arith}
use denote.Enum.Declared.{tag_of}
use lib.ListN.{get_or, set}
use Rattle.std.specs.Prelude.{Option, Some, None, is_some}
use Rattle.calculus.specs.Expressions.{Leaf, number, variable, location, revision}
use Rattle.calculus.specs.Expressions.{Expression, constant, leaf, lambda, one, two, if}
use Rattle.calculus.specs.Tags.{leaf_tag, tag_word, largest}
use Rattle.calculus.specs.Words.{words}
use Rattle.calculus.specs.Formed.{Formed, holds_handle}
use Rattle.calculus.specs.NewNumbers.{named}
use Rattle.calculus.proofs.Options.{none≢some, some_inj}
use Rattle.words.specs.declared.table.Row.{Row}
use Rattle.words.specs.declared.table.Kind.TheVariants.{Expression as ExpressionKind}
use Rattle.words.specs.declared.walk.Front.{Front}
use Rattle.words.specs.contracts.names.Leaf.{the_type}
use Rattle.words.specs.declared.names.Leaf.{Leaf as LeafKind}
use Rattle.words.specs.declared.names.Leaf.TheVariants.{Number, Variable, Location, Revision}
use Rattle.words.specs.Rows.{row_of, tag_row}
use Rattle.words.specs.Walks.{walk_of, front, front_of, types_end}
use Rattle.words.specs.Names.{all_words, AllFormed, all_named, TreesAt, FirstAt, First, NextLeaf, HandleTold}
use Rattle.words.specs.Names.{leaf_of}
use Rattle.words.specs.Marks.{mark_all}
use Rattle.words.proofs.Fronts.{Fronted, front_within}
use Rattle.words.proofs.Children.{walk_ends, walk_broken, types_low, Deeper}
use Rattle.words.proofs.Standing.{row_of_tag, own_inside, node, no_node, leaf_node, below}
use Rattle.words.proofs.Standing.{below_named, leaf_tagged, leaf_named}

-- what is left of the trees at p names all that they name
pub record Left (s : List ℕ) (k : Leaf) (es : List Expression) (p : ℕ) : Type 0 where
  pub after : List Expression
  pub stands : TreesAt s p after
  pub names : all_named k es ≡ all_named k after

-- no leaf of the kind stands between `at` and p
pub record Passed (s : List ℕ) (at : ℕ) (k : LeafKind) (p : ℕ) : Type 0 where
  pub low : at ≤ p
  pub left : (es : List Expression) → TreesAt s at es → Left s (leaf_of k) es p

pub passed_none : (s : List ℕ) (at : ℕ) (k : LeafKind) → Passed s at k at
passed_none s at k = record { low = omega arith; left = λ es h. record { after = es; stands = h; names = refl } }

-- the tag of a leaf, as the code has it
pub leaf_word : (k : LeafKind) → tag_of the_type k + 3 ≡ tag_word (leaf_tag (leaf_of k))
leaf_word Number = refl
leaf_word Variable = refl
leaf_word Location = refl
leaf_word Revision = refl

-- the limit of a leaf's own word
leaf_limit : (k : Leaf) (n : Row) (w : ℕ) → Some n ≡ row_of w → w ≡ tag_word (leaf_tag k)
    → n.limit ≡ Some (suc (largest k))
leaf_limit k n w r e =
    let q : Some n ≡ Some (tag_row (leaf_tag k)) = r ∙ ap row_of e ∙ row_of_tag (leaf_tag k) in
    let same : n ≡ tag_row (leaf_tag k) = cc in
    ap (λ (m : Row). m.limit) same

module _ (s : List ℕ) (at : ℕ) (kind : LeafKind) (p : ℕ) (passed : Passed s at kind p) where
  abbrev k : Leaf
  k = leaf_of kind

  -- the words end, or are broken
  pub no_front : None ≡ front_of s ExpressionKind p → NextLeaf s at kind None
  unfolding all_named
  no_front q =
      record { within = tt; first = λ es h. let l = passed.left es h in l.names ∙ go l.after l.stands }
    where
      go : (es : List Expression) → TreesAt s p es → all_named k es ≡ []
      go [] h = refl
      go (e ∷ es) h =
          let n = node s p e es h in
          let r : None ≡ Some (front n.row n.next) = q ∙ n.front in
          cc

  module _ (f : Front) (q : Some f ≡ front_of s ExpressionKind p) where
    -- a tree stands where a front does
    no_tree : {C : Type 0} → TreesAt s p [] → C
    no_tree st =
        let r : None ≡ Some f = sym (no_node s p st) ∙ sym q in
        cc

    -- the leaf stands at p
    pub leaf_here : get_or s p 0 ≡ tag_word (leaf_tag k) → NextLeaf s at kind (Some p)
    leaf_here e =
        record {
          within = (passed.low, own_inside s p f (suc (largest k)) q limited);
          first = λ es st. let l = passed.left es st in here es l.after l.names l.stands;
        }
      where
        limited : f.row.limit ≡ Some (suc (largest k))
        limited = leaf_limit k f.row (get_or s p 0) (front_within s ExpressionKind p f q).row e

        here : (before es : List Expression) → all_named k before ≡ all_named k es → TreesAt s p es
            → FirstAt s k before p
        here before [] eq st = no_tree st
        here before (x ∷ es) eq st =
            let (n, y) = leaf_tagged k x (sym (node s p x es st).tag ∙ e) in
            let st' : TreesAt s p (leaf k n ∷ es) = along (λ (x : Expression). TreesAt s p (x ∷ es)) y st in
            let same : all_named k before ≡ all_named k (leaf k n ∷ es)
            = eq ∙ ap (λ (x : Expression). all_named k (x ∷ es)) y in
            let eq' : all_named k before ≡ n ∷ all_named k es = same ∙ leaf_named k n es in
            let (w, o) = leaf_node s p k n es st' in
            record { after = es; stands = o; names = eq' ∙ ap (λ (m : ℕ). m ∷ all_named k es) (sym w) }

    -- a tree that stands at p is passed by its front and its types
    seen : (e : Expression) (es : List Expression) (h : TreesAt s p (e ∷ es))
        → types_end s f.row.types f.next ≡ some (node s p e es h).body
    seen e es h =
        let n = node s p e es h in
        let r : Some f ≡ Some (front n.row n.next) = q ∙ n.front in
        let x : f ≡ front n.row n.next = cc in
        ap (λ (f : Front). types_end s f.row.types f.next) x ∙ n.types

    -- so its types are never broken
    pub no_types : None ≡ walk_of (types_end s f.row.types f.next) → NextLeaf s at kind None
    unfolding all_named
    no_types b =
        record { within = tt; first = λ es h. let l = passed.left es h in l.names ∙ go l.after l.stands }
      where
        go : (es : List Expression) → TreesAt s p es → all_named k es ≡ []
        go [] h = refl
        go (e ∷ es) h = none≢some (sym (walk_broken (types_end s f.row.types f.next) b) ∙ seen e es h)

    module _ (body : ℕ) (b : Some body ≡ walk_of (types_end s f.row.types f.next)) where
      ends : types_end s f.row.types f.next ≡ some body
      ends = walk_ends (types_end s f.row.types f.next) body b

      -- the next node stands further on
      pub body_on : Deeper s p body
      body_on =
          let x : Fronted s ExpressionKind p f.row f.next = front_within s ExpressionKind p f q in
          let y = types_low s f.row.types f.next body ends in
          record { within = x.within; low = omega arith }

      -- another node
      pub leaf_passed : (get_or s p 0 ≡ tag_word (leaf_tag k) → ⊥) → Passed s at kind body
      leaf_passed other =
          let x = body_on in
          record {
            low = omega (arith, passed.low);
            left = λ es h. let l = passed.left es h in go es l.after l.names l.stands;
          }
        where
          go : (before es : List Expression) → all_named k before ≡ all_named k es → TreesAt s p es
              → Left s k before body
          go before [] eq st = no_tree st
          go before (e ∷ es) eq st =
              let n = node s p e es st in
              let y : n.body ≡ body = some_inj (sym (seen e es st) ∙ ends) in
              record {
                after = below e es;
                stands = along (λ (j : ℕ). TreesAt s j (below e es)) y n.stands;
                names = eq ∙ below_named k e es (λ z. other (n.tag ∙ z));
              }

-- the words of one tree are that tree alone
whole : (s : List ℕ) (e : Expression) → s ≡ words e → Formed e → TreesAt s 0 (e ∷ [])
unfolding all_words AllFormed
whole s e w f = record { written = w ∙ sym (append-nil (words e)); formed = (f, tt) }

whole_named : (k : Leaf) (e : Expression) → all_named k (e ∷ []) ≡ named k e
unfolding all_named
whole_named k e = append-nil (named k e)

-- handles are the names of locations and of revisions
abbrev pub filled : List ℕ → Bool
filled [] = false
filled (n ∷ ns) = true

filled_append : (ns ks : List ℕ) → filled (ns ++ ks) ≡ (filled ns || filled ks)
filled_append [] ks = refl
filled_append (n ∷ ns) ks = refl

or_cross : (a b c d : Bool) → ((a || b) || (c || d)) ≡ ((a || c) || (b || d))
or_cross true b c d = refl
or_cross false true true d = refl
or_cross false true false d = refl
or_cross false false true d = refl
or_cross false false false d = refl

-- a test that says whether either list has something
abbrev pub Told : Bool → List ℕ → List ℕ → Type 0
Told b ls rs = b ≡ (filled ls || filled rs)

either : (x y : Bool) (ns ks ls ms : List ℕ) → Told x ns ks → Told y ls ms → Told (x || y) (ns ++ ls) (ks ++ ms)
either x y ns ks ls ms p q =
    rw (p, q, filled_append ns ls, filled_append ks ms) (or_cross (filled ns) (filled ks) (filled ls) (filled ms))

pub handle_named : (e : Expression) → Told (holds_handle e) (named location e) (named revision e)
unfolding holds_handle named
handle_named (constant c) = refl
handle_named (leaf number n) = refl
handle_named (leaf variable n) = refl
handle_named (leaf location n) = refl
handle_named (leaf revision n) = refl
handle_named (lambda x A e) = handle_named e
handle_named (one o e) = handle_named e
handle_named (two o a b) =
    either (holds_handle a) (holds_handle b) (named location a) (named revision a) (named location b) (named revision b)
    (handle_named a) (handle_named b)
handle_named (if a b c) =
    either (holds_handle a) (holds_handle b || holds_handle c) (named location a) (named revision a)
    (named location b ++ named location c) (named revision b ++ named revision c)
    (handle_named a)
    (either (holds_handle b) (holds_handle c) (named location b) (named revision b) (named location c) (named revision c)
    (handle_named b) (handle_named c))

module _ (s : List ℕ) where
  -- a location is found
  pub handle_first : (f : Option ℕ) → NextLeaf s 0 Location f → true ≡ is_some f → (b : Bool) → b ≡ true → HandleTold s b
  handle_first None h y b i = cc
  handle_first (Some q) h y b i = record { told = λ e w o. i ∙ go e (h.first (e ∷ []) (whole s e w o)) }
    where
      go : (e : Expression) → FirstAt s location (e ∷ []) q → true ≡ holds_handle e
      go e x = sym (handle_named e ∙ rw (sym (whole_named location e) ∙ x.names) refl)

  -- none is, and a revision is found, or none
  pub handle_second : (f g : Option ℕ) → NextLeaf s 0 Location f → false ≡ is_some f → NextLeaf s 0 Revision g
      → (b : Bool) → b ≡ is_some g → HandleTold s b
  handle_second (Some q) g h n i b j = cc
  handle_second None g h n i b j =
      record {
        told = λ e w o. j ∙ go e g (h.first (e ∷ []) (whole s e w o)) (i.first (e ∷ []) (whole s e w o));
      }
    where
      go : (e : Expression) (g : Option ℕ) → all_named location (e ∷ []) ≡ [] → First s revision (e ∷ []) g
          → is_some g ≡ holds_handle e
      go e (Some q) n x =
          sym (handle_named e ∙ rw (sym (whole_named location e) ∙ n, sym (whole_named revision e) ∙ x.names) refl)
      go e None n x =
          sym (handle_named e ∙ rw (sym (whole_named location e) ∙ n, sym (whole_named revision e) ∙ x) refl)

-- of the one tree that the words are: what is left at p is still to be marked
pub record ToMark (s : List ℕ) (k : Leaf) (e : Expression) (m₀ m : List Bool) (p : ℕ) : Type 0 where
  pub after : List Expression
  pub stands : TreesAt s p after
  pub marks : mark_all (named k e) m₀ ≡ mark_all (all_named k after) m

pub record Marking (s : List ℕ) (k : Leaf) (m₀ m : List Bool) (p : ℕ) : Type 0 where
  pub left : (e : Expression) → s ≡ words e → Formed e → ToMark s k e m₀ m p

pub marking_none : (s : List ℕ) (k : Leaf) (m : List Bool) → Marking s k m m 0
marking_none s k m =
    record {
      left = λ e w f.
          record {
            after = e ∷ [];
            stands = whole s e w f;
            marks = ap (λ (ns : List ℕ). mark_all ns m) (sym (whole_named k e));
          };
    }

module _ (s : List ℕ) (k : LeafKind) (m₀ m : List Bool) (p : ℕ) (marking : Marking s (leaf_of k) m₀ m p) where
  pub marked_all : NextLeaf s p k None → (e : Expression) → s ≡ words e → Formed e → m ≡ mark_all (named (leaf_of k) e) m₀
  unfolding mark_all
  marked_all h e w o =
      let l = marking.left e w o in
      sym (l.marks ∙ ap (λ (ns : List ℕ). mark_all ns m) (h.first l.after l.stands))

  pub marking_on : (q : ℕ) → NextLeaf s p k (Some q) → (n : List Bool) → n ≡ set m (get_or s (q + 1) 0) true
      → Marking s (leaf_of k) m₀ n (q + 2)
  unfolding mark_all
  marking_on q h n i =
      record {
        left = λ e w o.
            let l = marking.left e w o in
            let x = h.first l.after l.stands in
            record {
              after = x.after;
              stands = x.stands;
              marks =
                  l.marks
                  ∙ ap (λ (ns : List ℕ). mark_all ns m) x.names
                  ∙ ap (λ (n : List Bool). mark_all (all_named (leaf_of k) x.after) n) (sym i);
            };
      }
