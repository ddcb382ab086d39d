-- Trees that stand in words: the front and the types of the first, and the trees that stand where its next node does.
use Prim.Native.Nat.{ℕ, suc, ◌+◌, ◌<◌}
use mathlib.Core.Path.{◌≡◌, refl, sym, ap, ◌∙◌}
use mathlib.Core.Bool.{true, false}
use mathlib.Core.List.{List, [], ◌∷◌, ◌++◌, append_assoc}
use mathlib.Core.Option.{some}
use Rattle.std.specs.Prelude.{Some, None}
use native.Mathlib.Nat.{add-zero}
use native.Mathlib.Decide.{dec_lt}
use native.Mathlib.Omega.{arith}
use lib.ListN.{length, get_or, drop, length-drop, length-append}
use lib.Seq.{get_or-drop, drop-drop, drop_at}
use Rattle.calculus.specs.Types.{ScriptType}
use Rattle.calculus.specs.Expressions.{Leaf, number, variable, location, revision}
use Rattle.calculus.specs.Expressions.{Expression, constant, leaf, lambda, one, two, if}
use Rattle.calculus.specs.Tags.{Tag, constant_tag, leaf_tag, lambda_tag, one_tag, two_tag, if_tag, tag_word, largest}
use Rattle.calculus.specs.Words.{words, type_words}
use Rattle.calculus.specs.Formed.{Formed}
use Rattle.calculus.specs.Reading.{tag_of, type_end}
use Rattle.calculus.specs.Redexes.{same_leaf}
use Rattle.calculus.specs.NewNumbers.{named}
use Rattle.calculus.proofs.Options.{some_inj}
use Rattle.calculus.proofs.Reading.{tag_of_tag_word, read_type_words}
use Rattle.words.specs.declared.table.Row.{Row}
use Rattle.words.specs.declared.table.Kind.TheVariants.{Expression as ExpressionKind}
use Rattle.words.specs.declared.walk.Front.{Front}
use Rattle.words.specs.Rows.{row_of, tag_row}
use Rattle.words.specs.Walks.{front as front_with, front_of, types_end}
use Rattle.words.specs.Names.{all_words, AllFormed, all_named, TreesAt}
use Rattle.words.proofs.Fronts.{front_out, front_short, front_within}
use Rattle.words.proofs.TagFronts.{bare_front, fine_front}

-- the word at p, and the words after it
record WordAt (s : List ℕ) (p w : ℕ) (ws : List ℕ) : Type 0 where
  pub inside : p < length s
  pub word : get_or s p 0 ≡ w
  pub after : drop (p + 1) s ≡ ws

word_at : (s : List ℕ) (p w : ℕ) (ws : List ℕ) → drop p s ≡ w ∷ ws → WordAt s p w ws
word_at s p w ws e =
    record {
      inside = omega (arith, length-drop p s, ap length e);
      word =
          ap (λ (k : ℕ). get_or s k 0) (sym (add-zero p)) ∙ sym (get_or-drop p s 0 0) ∙ ap (λ (l : List ℕ). get_or l 0 0) e;
      after = sym (drop-drop 1 p s) ∙ ap (drop 1) e;
    }

-- the row of a tag
pub row_of_tag : (t : Tag) → row_of (tag_word t) ≡ Some (tag_row t)
unfolding row_of
row_of_tag t = rw (tag_of_tag_word t) refl

-- the front of a tag without and with an own word
tag_there : (s : List ℕ) (p : ℕ) (t : Tag) → get_or s p 0 ≡ tag_word t → tag_of (get_or s p 0) ≡ some t
tag_there s p t e = ap tag_of e ∙ tag_of_tag_word t

bare_tag : (s : List ℕ) (p : ℕ) (t : Tag) (ws : List ℕ) → drop p s ≡ tag_word t ∷ ws → (tag_row t).limit ≡ None
    → front_of s ExpressionKind p ≡ Some (front_with (tag_row t) (p + 1))
bare_tag s p t ws e l =
    let r = word_at s p (tag_word t) ws e in
    bare_front s p r.inside t (tag_there s p t r.word) l

own_tag : (s : List ℕ) (p : ℕ) (t : Tag) (n b : ℕ) (ws : List ℕ) → drop p s ≡ tag_word t ∷ n ∷ ws
    → (tag_row t).limit ≡ Some b → n < b → front_of s ExpressionKind p ≡ Some (front_with (tag_row t) (p + 1 + 1))
own_tag s p t n b ws e l h =
    let r = word_at s p (tag_word t) (n ∷ ws) e in
    let q = word_at s (p + 1) n ws r.after in
    fine_front s p r.inside t (tag_there s p t r.word) b l q.inside (omega (arith, q.word))

-- an own word that a right front has is there
pub own_inside : (s : List ℕ) (p : ℕ) (f : Front) (b : ℕ) → Some f ≡ front_of s ExpressionKind p
    → f.row.limit ≡ Some b → p + 1 < length s
own_inside s p f b q z = go (dec_lt (p + 1) (length s))
  where
    go : Dec (p + 1 < length s) → p + 1 < length s
    go (yes h) = h
    go (no h) =
        let g = front_within s ExpressionKind p f q in
        let short = front_short s ExpressionKind p g.within (get_or s p 0) refl f.row g.row g.kind b z (omega arith) in
        let w : None ≡ Some f = short ∙ sym q in
        cc

-- a type that stands in the words ends after its words
type_passed : (s : List ℕ) (p : ℕ) (A : ScriptType) (ws : List ℕ) → drop p s ≡ type_words A ++ ws
    → (types_end s 1 p ≡ some (p + length (type_words A))) × (drop (p + length (type_words A)) s ≡ ws)
unfolding types_end type_end
type_passed s p A ws e =
    let l = length-drop p s in
    let m = ap length e ∙ length-append (type_words A) ws in (
      rw (e, read_type_words A ws (length s) (omega arith)) refl,
      sym (drop-drop (length (type_words A)) p s) ∙ ap (drop (length (type_words A))) e ∙ drop_at (type_words A) ws _ refl,
    )

-- a tree's tag, and the trees that stand where its next node stands, before others
abbrev pub head_tag : Expression → Tag
head_tag (constant c) = constant_tag c
head_tag (leaf k n) = leaf_tag k
head_tag (lambda x A e) = lambda_tag
head_tag (one o e) = one_tag o
head_tag (two o a b) = two_tag o
head_tag (if a b c) = if_tag

abbrev pub below : Expression → List Expression → List Expression
below (constant c) es = es
below (leaf k n) es = es
below (lambda x A e) es = e ∷ es
below (one o e) es = e ∷ es
below (two o a b) es = a ∷ b ∷ es
below (if a b c) es = a ∷ b ∷ c ∷ es

pub record Node (s : List ℕ) (p : ℕ) (e : Expression) (es : List Expression) : Type 0 where
  pub row : Row
  pub next : ℕ
  pub body : ℕ
  pub front : front_of s ExpressionKind p ≡ Some (front_with row next)
  pub tag : get_or s p 0 ≡ tag_word (head_tag e)
  pub types : types_end s row.types next ≡ some body
  pub stands : TreesAt s body (below e es)

pub node : (s : List ℕ) (p : ℕ) (e : Expression) (es : List Expression) → TreesAt s p (e ∷ es) → Node s p e es
unfolding all_words AllFormed words Formed types_end
node s p (constant c) es h =
    let t = constant_tag c in
    let r = word_at s p (tag_word t) (all_words es) h.written in
    record {
      row = tag_row t;
      next = p + 1;
      body = p + 1;
      front = bare_tag s p t (all_words es) h.written refl;
      tag = r.word;
      types = refl;
      stands = record { written = r.after; formed = h.formed.1 };
    }
node s p (leaf k n) es h =
    let t = leaf_tag k in
    let r = word_at s p (tag_word t) (n ∷ all_words es) h.written in
    let q = word_at s (p + 1) n (all_words es) r.after in
    record {
      row = tag_row t;
      next = p + 1 + 1;
      body = p + 1 + 1;
      front = own_tag s p t n (suc (largest k)) (all_words es) h.written refl (omega (arith, h.formed.0));
      tag = r.word;
      types = refl;
      stands = record { written = q.after; formed = h.formed.1 };
    }
node s p (lambda x A e) es h =
    let ws = type_words A ++ (words e ++ all_words es) in
    let a = append_assoc (type_words A) (words e) (all_words es) in
    let d : drop p s ≡ tag_word lambda_tag ∷ x ∷ ws = h.written ∙ ap (λ (l : List ℕ). tag_word lambda_tag ∷ x ∷ l) a in
    let r = word_at s p (tag_word lambda_tag) (x ∷ ws) d in
    let q = word_at s (p + 1) x ws r.after in
    let y = type_passed s (p + 1 + 1) A (words e ++ all_words es) q.after in
    record {
      row = tag_row lambda_tag;
      next = p + 1 + 1;
      body = p + 1 + 1 + length (type_words A);
      front = own_tag s p lambda_tag x 256 ws d refl (omega (arith, h.formed.0.0));
      tag = r.word;
      types = y.0;
      stands = record { written = y.1; formed = (h.formed.0.1, h.formed.1) };
    }
node s p (one o e) es h =
    let t = one_tag o in
    let r = word_at s p (tag_word t) (words e ++ all_words es) h.written in
    record {
      row = tag_row t;
      next = p + 1;
      body = p + 1;
      front = bare_tag s p t (words e ++ all_words es) h.written refl;
      tag = r.word;
      types = refl;
      stands = record { written = r.after; formed = h.formed };
    }
node s p (two o a b) es h =
    let t = two_tag o in
    let ws = (words a ++ words b) ++ all_words es in
    let r = word_at s p (tag_word t) ws h.written in
    record {
      row = tag_row t;
      next = p + 1;
      body = p + 1;
      front = bare_tag s p t ws h.written refl;
      tag = r.word;
      types = refl;
      stands =
          record {
            written = r.after ∙ append_assoc (words a) (words b) (all_words es);
            formed = (h.formed.0.0, (h.formed.0.1, h.formed.1));
          };
    }
node s p (if a b c) es h =
    let ws = (words a ++ (words b ++ words c)) ++ all_words es in
    let r = word_at s p (tag_word if_tag) ws h.written in
    record {
      row = tag_row if_tag;
      next = p + 1;
      body = p + 1;
      front = bare_tag s p if_tag ws h.written refl;
      tag = r.word;
      types = refl;
      stands =
          record {
            written = r.after ∙ simp append_assoc;
            formed = (h.formed.0.0, (h.formed.0.1, (h.formed.0.2, h.formed.1)));
          };
    }

-- where no tree stands there is no front
pub no_node : (s : List ℕ) (p : ℕ) → TreesAt s p [] → front_of s ExpressionKind p ≡ None
unfolding all_words
no_node s p h =
    let l = length-drop p s in
    let m = ap length h.written in
    sym (front_out s ExpressionKind p (omega arith))

-- a leaf's own word, and that the others stand after it
pub leaf_node : (s : List ℕ) (p : ℕ) (k : Leaf) (n : ℕ) (es : List Expression) → TreesAt s p (leaf k n ∷ es)
    → (get_or s (p + 1) 0 ≡ n) × TreesAt s (p + 2) es
unfolding all_words AllFormed words
leaf_node s p k n es h =
    let r = word_at s p (tag_word (leaf_tag k)) (n ∷ all_words es) h.written in
    let q = word_at s (p + 1) n (all_words es) r.after in
    let e : p + 1 + 1 ≡ p + 2 = omega arith in
    (q.word, record { written = ap (λ (j : ℕ). drop j s) (sym e) ∙ q.after; formed = h.formed.1 })

-- a tree that is no leaf of the kind names what the trees of its next node name
other_leaf : (k j : Leaf) → (tag_word (leaf_tag j) ≡ tag_word (leaf_tag k) → ⊥) → same_leaf k j ≡ false
other_leaf number number h = absurd (h refl)
other_leaf number variable h = refl
other_leaf number location h = refl
other_leaf number revision h = refl
other_leaf variable number h = refl
other_leaf variable variable h = absurd (h refl)
other_leaf variable location h = refl
other_leaf variable revision h = refl
other_leaf location number h = refl
other_leaf location variable h = refl
other_leaf location location h = absurd (h refl)
other_leaf location revision h = refl
other_leaf revision number h = refl
other_leaf revision variable h = refl
other_leaf revision location h = refl
other_leaf revision revision h = absurd (h refl)

pub below_named : (k : Leaf) (e : Expression) (es : List Expression) → (tag_word (head_tag e) ≡ tag_word (leaf_tag k) → ⊥)
    → all_named k (e ∷ es) ≡ all_named k (below e es)
unfolding all_named named
below_named k (constant c) es h = refl
below_named k (leaf j n) es h = rw (other_leaf k j h) refl
below_named k (lambda x A e) es h = refl
below_named k (one o e) es h = refl
below_named k (two o a b) es h = append_assoc (named k a) (named k b) (all_named k es)
below_named k (if a b c) es h = simp append_assoc

-- a tree with the tag of a leaf is that leaf
same_leaf_lem : (k : Leaf) → same_leaf k k ≡ true
same_leaf_lem number = refl
same_leaf_lem variable = refl
same_leaf_lem location = refl
same_leaf_lem revision = refl

tag_same : (t u : Tag) → tag_word t ≡ tag_word u → t ≡ u
tag_same t u e = some_inj (sym (tag_of_tag_word t) ∙ ap tag_of e ∙ tag_of_tag_word u)

pub leaf_tagged : (k : Leaf) (e : Expression) → tag_word (head_tag e) ≡ tag_word (leaf_tag k) → (n : ℕ) × (e ≡ leaf k n)
leaf_tagged k (constant c) h =
    let t = tag_same (constant_tag c) (leaf_tag k) h in cc
leaf_tagged k (leaf j n) h =
    let t = tag_same (leaf_tag j) (leaf_tag k) h in let q : j ≡ k = cc in (n, ap (λ (i : Leaf). leaf i n) q)
leaf_tagged k (lambda x A e) h =
    let t = tag_same lambda_tag (leaf_tag k) h in cc
leaf_tagged k (one o e) h =
    let t = tag_same (one_tag o) (leaf_tag k) h in cc
leaf_tagged k (two o a b) h =
    let t = tag_same (two_tag o) (leaf_tag k) h in cc
leaf_tagged k (if a b c) h =
    let t = tag_same if_tag (leaf_tag k) h in cc

pub leaf_named : (k : Leaf) (n : ℕ) (es : List Expression) → all_named k (leaf k n ∷ es) ≡ n ∷ all_named k es
unfolding all_named named
leaf_named k n es = rw (same_leaf_lem k) refl
