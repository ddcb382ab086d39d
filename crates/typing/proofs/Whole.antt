-- The check's rules, one for each way that the code goes.
use Prim.Native.Nat.{◌-◌, ℕ, ◌+◌, ◌≤◌, suc, ◌<◌}
use mathlib.Core.Bool.{Bool, cond, true, false}
use mathlib.Core.List.{List, [], ◌∷◌, ◌++◌}
use mathlib.Core.Logic.{◌⊎◌, inl, inr}
use mathlib.Core.Option.{Option as Maybe, none, some}
use mathlib.Core.Path.{◌≡◌, refl, ap, ◌∙◌, subst, sym}
use native.Mathlib.Omega.{arith}
use lib.Dec.{eqb}
use lib.ListN.{get_or, length, set, length-set}
use Rattle.std.specs.Prelude.{Option, Some, None, Err}
use Rattle.std.proofs.lemmas.Option.{none-some, same_Some}
use Rattle.words.specs.Names.{all_words}
use Rattle.typing.specs.declared.CheckError.{CheckError}
use Rattle.typing.specs.declared.CheckError.TheVariants.{NoType, NotFormed}
use Rattle.words.specs.declared.table.Row.{Row}
use Rattle.words.specs.declared.tags.Tag.{Tag}
use Rattle.words.specs.declared.tags.Tag.TheVariants.{If as IfTag}
use Rattle.words.specs.Tags.{word_of}
use Rattle.typing.proofs.TagWords.{same_tag}
use Rattle.calculus.specs.Expressions.{one, Expression, constant, leaf, lambda, two, if, Two, apply, assign}
use Rattle.calculus.specs.Expressions.{arithmetic, add, subtract, less, unit, bool, number, variable, location, revision}
use Rattle.calculus.specs.Expressions.{ref, read, fork, join}
use Rattle.calculus.specs.Formed.{Formed}
use Rattle.calculus.specs.Tags.{tag_word, constant_tag, Tag as NodeTag, leaf_tag, lambda_tag, one_tag, two_tag, if_tag, largest}
use Rattle.calculus.specs.Types.{ScriptType}
use Rattle.calculus.specs.Typing.{Assignment, type_of, no_world, leaf_type, bind}
use Rattle.calculus.specs.Words.{type_words, words}
use Rattle.words.specs.Rows.{row_of, tag_row}
use Rattle.typing.specs.Inferring.{Stands, Infers, Keeps, Kept, Settled, First, Goes}
use Rattle.typing.specs.Rulings.{Inferred, typed, Answers, Leafs, note_at, ended, Enters, RuleOne, RuleTwo, RuleThree}
use Rattle.calculus.proofs.Reading.{tag_of_tag_word}
use Rattle.typing.proofs.Children.{next, child_refused, next_stands, Next}
use Rattle.typing.proofs.Firsts.{Branch, other_stands, lambda_stands, branch_one, branch_two, branch_if}
use Rattle.typing.proofs.Firsts.{other_first, lambda_first, lambda_at, Entered, entered_at, annotation_at, one_tag_lem}
use Rattle.typing.proofs.Firsts.{two_tag_lem}
use Rattle.typing.proofs.Fronts.{front, Front}

-- an expression by its tag
tag_of_e : Expression → ℕ
tag_of_e (constant c) = tag_word (constant_tag c)
tag_of_e (leaf k n) = tag_word (leaf_tag k)
tag_of_e (lambda x A e) = tag_word lambda_tag
tag_of_e (one o e) = tag_word (one_tag o)
tag_of_e (two o a b) = tag_word (two_tag o)
tag_of_e (if a b c) = tag_word if_tag

tail_of : Expression → List ℕ
tail_of (constant c) = []
tail_of (leaf k n) = n ∷ []
tail_of (lambda x A e) = x ∷ (type_words A ++ words e)
tail_of (one o e) = words e
tail_of (two o a b) = words a ++ words b
tail_of (if a b c) = words a ++ (words b ++ words c)

split : (e : Expression) → words e ≡ tag_of_e e ∷ tail_of e
unfolding words tag_of_e tail_of
split (constant c) = refl
split (leaf k n) = refl
split (lambda x A e) = refl
split (one o e) = refl
split (two o a b) = refl
split (if a b c) = refl

abbrev child_count : Expression → ℕ
child_count (constant c) = 0
child_count (leaf k n) = 0
child_count (lambda x A e) = 1
child_count (one o e) = 1
child_count (two o a b) = 2
child_count (if a b c) = 3

row_of_tag : (g : NodeTag) → row_of (tag_word g) ≡ Some (tag_row g)
unfolding row_of
row_of_tag g = rw (tag_of_tag_word g) refl

children_is : (e : Expression) (n : Row) → Some n ≡ row_of (tag_of_e e) → n.children ≡ child_count e
unfolding tag_of_e
children_is (constant c) n q = ap (λ (r : Row). r.children) (same_Some _ _ (q ∙ row_of_tag (constant_tag c)))
children_is (leaf k m) n q = ap (λ (r : Row). r.children) (same_Some _ _ (q ∙ row_of_tag (leaf_tag k)))
children_is (lambda x A e) n q = ap (λ (r : Row). r.children) (same_Some _ _ (q ∙ row_of_tag lambda_tag))
children_is (one o e) n q = ap (λ (r : Row). r.children) (same_Some _ _ (q ∙ row_of_tag (one_tag o)))
children_is (two o a b) n q = ap (λ (r : Row). r.children) (same_Some _ _ (q ∙ row_of_tag (two_tag o)))
children_is (if a b c) n q = ap (λ (r : Row). r.children) (same_Some _ _ (q ∙ row_of_tag if_tag))

front_of_lem : (s t : List ℕ) (at left : ℕ) (e : Expression) (Γ : Assignment) (d : Stands s t at left e Γ)
    → Front s at (tag_of_e e) (tail_of e ++ d.rest)
front_of_lem s t at left e Γ d = front s at _ _ (d.is ∙ ap (λ (l : List ℕ). l ++ d.rest) (split e))

stands_children : (s t : List ℕ) (at left : ℕ) (n : Row) (e : Expression) (Γ : Assignment)
    → Some n ≡ row_of (get_or s at 0) → Stands s t at left e Γ → n.children ≡ child_count e
stands_children s t at left n e Γ q d = children_is e n (q ∙ ap row_of (front_of_lem s t at left e Γ d).tag)

-- nothing stands there
infer_past : (s t : List ℕ) (at left : ℕ) → length s ≤ at → Infers s at left t (Err NotFormed) t
infer_past s t at left h = record {
  room = refl;
  settles = λ e Γ d. absurd (omega (arith, (front_of_lem s t at left e Γ d).size));
}

infer_spent : (s t : List ℕ) (at left : ℕ) → left ≡ 0 → Infers s at left t (Err NotFormed) t
infer_spent s t at left h = record {
  room = refl;
  settles = λ e Γ d.
      let z : length (words e) ≡ suc (length (tail_of e)) = ap length (split e) in
      absurd (omega (arith, d.few));
}

pub infer_nothing : (s t : List ℕ) (at left : ℕ) → (length s ≤ at) ⊎ ((at < length s) × (left ≡ 0))
    → Infers s at left t (Err NotFormed) t
infer_nothing s t at left (inl h) = infer_past s t at left h
infer_nothing s t at left (inr h) = infer_spent s t at left h.1

tag_low : (e : Expression) → tag_of_e e < 18
unfolding tag_of_e
tag_low (constant unit) = omega arith
tag_low (constant (bool false)) = omega arith
tag_low (constant (bool true)) = omega arith
tag_low (leaf number n) = omega arith
tag_low (leaf variable n) = omega arith
tag_low (leaf location n) = omega arith
tag_low (leaf revision n) = omega arith
tag_low (lambda x A e) = omega arith
tag_low (one ref e) = omega arith
tag_low (one read e) = omega arith
tag_low (one fork e) = omega arith
tag_low (one join e) = omega arith
tag_low (two apply a b) = omega arith
tag_low (two assign a b) = omega arith
tag_low (two (arithmetic add) a b) = omega arith
tag_low (two (arithmetic subtract) a b) = omega arith
tag_low (two (arithmetic less) a b) = omega arith
tag_low (if a b c) = omega arith

row_there : (e : Expression) → None ≡ row_of (tag_of_e e) → ⊥
unfolding tag_of_e
row_there (constant c) q = none-some _ (q ∙ row_of_tag (constant_tag c))
row_there (leaf k m) q = none-some _ (q ∙ row_of_tag (leaf_tag k))
row_there (lambda x A e) q = none-some _ (q ∙ row_of_tag lambda_tag)
row_there (one o e) q = none-some _ (q ∙ row_of_tag (one_tag o))
row_there (two o a b) q = none-some _ (q ∙ row_of_tag (two_tag o))
row_there (if a b c) q = none-some _ (q ∙ row_of_tag if_tag)

-- a word that is no tag
pub infer_rowless : (s t : List ℕ) (at left : ℕ) → None ≡ row_of (get_or s at 0) → Infers s at left t (Err NotFormed) t
infer_rowless s t at left h = record {
  room = refl;
  settles = λ e Γ d. absurd (row_there e (h ∙ ap row_of (front_of_lem s t at left e Γ d).tag));
}

pub infer_untagged : (s t : List ℕ) (at left : ℕ) → 18 ≤ get_or s at 0 → Infers s at left t (Err NotFormed) t
infer_untagged s t at left h = record {
  room = refl;
  settles = λ e Γ d. absurd (let l = tag_low e in omega (arith, (front_of_lem s t at left e Γ d).tag));
}

kept_any : (i j : ℕ) (t t' : List ℕ) (o : Maybe ScriptType) → Keeps i j t t' → Kept i j t t' o
kept_any i j t t' none k = tt
kept_any i j t t' (some A) k = k

module _ (s : List ℕ) (at : ℕ) (e : Expression) (Γ : Assignment) (t : List ℕ) (r : Inferred) (t' : List ℕ) where
  -- a refusal, and an answer
  refuse : (type_of no_world Γ e ≡ none) × (r ≡ Err NoType) → Settled s at e Γ t r t'
  unfolding Answers
  refuse (a, b) = record { is = rw a b; kept = rw a tt }

  settle : (f : ℕ) → f ≡ at + length (words e) → Keeps at f t t' → Answers s t' at f r (type_of no_world Γ e)
      → Settled s at e Γ t r t'
  settle f q u v = record {
    is = subst (λ (g : ℕ). Answers s t' at g r (type_of no_world Γ e)) q v;
    kept =
        kept_any at (at + length (words e)) t t' (type_of no_world Γ e)
        (subst (λ (g : ℕ). Keeps at g t t') q u);
  }

pub infer_leaf : (s t t' : List ℕ) (at left : ℕ) (n : Row) (r : Inferred) → Some n ≡ row_of (get_or s at 0) → n.children ≡ 0
    → Leafs s at t r t' → Infers s at left t r t'
unfolding words Formed type_of tag_of_e tail_of
infer_leaf s t t' at left n r q z l = record {
  room = l.room;
  settles = λ e Γ d. record {
    is = go e Γ d (stands_children s t at left n e Γ q d) (front_of_lem s t at left e Γ d);
    kept =
        kept_any at (at + length (words e)) t t' (type_of no_world Γ e)
        (keep (at + length (words e)) (let z : length (words e) ≡ suc (length (tail_of e)) = ap length (split e) in
        omega arith));
  };
}
  where
    keep : (j : ℕ) → at < j → Keeps at j t t'
    keep j h k (inl o) = l.keeps k (λ z. omega arith)
    keep j h k (inr o) = l.keeps k (λ z. omega arith)

    go : (e : Expression) (Γ : Assignment) (d : Stands s t at left e Γ) → n.children ≡ child_count e
        → Front s at (tag_of_e e) (tail_of e ++ d.rest) → Answers s t' at (at + length (words e)) r (type_of no_world Γ e)
    go (constant c) Γ d k g = l.constants c g.tag
    go (leaf k m) Γ d u g =
        let v : get_or s (at + 1) 0 ≡ m = (front s (at + 1) m _ g.next).tag in
        subst (λ (w : ℕ). w ≤ largest k → Answers s t' at (at + 2) r (leaf_type no_world Γ k w)) v
        (λ f. l.leaves Γ k g.tag f d.room d.scope)
        d.formed
    go (lambda x A e) Γ d k g = absurd (omega arith)
    go (one o e) Γ d k g = absurd (omega arith)
    go (two o a b) Γ d k g = absurd (omega arith)
    go (if a b c) Γ d k g = absurd (omega arith)

length_ended : (s t : List ℕ) (at a : ℕ) → length (ended s at a t) ≡ length t
unfolding ended
length_ended s t at a = go (eqb (get_or s at 0) 7)
  where
    go : (b : Bool) → length (cond b (set (set t at a) (note_at s at) (get_or t (at + 1) 0)) (set t at a)) ≡ length t
    go true = simp length-set
    go false = simp length-set

-- no lambda's annotation stands there
pub infer_bodiless : (s t t₁ : List ℕ) (at left : ℕ) (n : Row) (o : Option ℕ) → Some n ≡ row_of (get_or s at 0)
    → (n.children ≡ 0 → ⊥) → Enters s at t o t₁ → o ≡ None → Infers s at left t (Err NotFormed) t₁
unfolding tag_of_e
infer_bodiless s t t₁ at left n o q z b i = record {
  room = b.room;
  settles = λ e Γ d.
      absurd (go e Γ d (stands_children s t at left n e Γ q d) (front_of_lem s t at left e Γ d).tag);
}
  where
    never : {p : ℕ} → o ≡ Some p → ⊥
    never e = none-some _ (sym i ∙ e)

    go : (e : Expression) (Γ : Assignment) → Stands s t at left e Γ → n.children ≡ child_count e → get_or s at 0 ≡ tag_of_e e → ⊥
    go (constant k) Γ d u g = z u
    go (leaf k v) Γ d u g = z u
    go (lambda v A e) Γ d u g = let (k, w) = annotation_at s t at left v A e Γ d in never (b.body A k (record { rest = words e ++ d.rest; is = w }))
    go (one o e) Γ d u g = never (b.first (λ k. one_tag_lem o (sym g ∙ k)))
    go (two o e f) Γ d u g = never (b.first (λ k. two_tag_lem o (sym g ∙ k)))
    go (if e f h) Γ d u g = never (b.first (λ k. omega arith))

-- the first child
module _ (s t t₁ t₂ : List ℕ) (at p left : ℕ) (n : Row) (x : Inferred) (h : length s ≤ 2048)
    (q : Some n ≡ row_of (get_or s at 0)) (z : n.children ≡ 0 → ⊥) (o : Option ℕ)
    (b : Enters s at t o t₁) (i : o ≡ Some p) (c : Infers s p (left - 1) t₁ x t₂) where
  en : Entered s at t p t₁
  en = entered_at s t t₁ at p o b i

  long₂ : length t₂ ≡ length t
  long₂ = c.room ∙ b.room

  pub infer_no : (m : CheckError) → x ≡ Err m → Infers s at left t x t₂
  unfolding type_of
  infer_no m w = record {
    room = long₂;
    settles = λ e Γ d. refuse s at e Γ t x t₂ (go e Γ d (stands_children s t at left n e Γ q d));
  }
    where
      other : (e : Expression) (Γ : Assignment) (w' : ℕ) (a : Expression) (es : List Expression) → Branch e w' a es
          → Stands s t at left e Γ → (type_of no_world Γ a ≡ none) × (x ≡ Err NoType)
      other e Γ w' a es b d =
          child_refused s t₁ t₂ p (left - 1) x a Γ c (other_stands s t t₁ at p left h en e w' a es Γ b d) m w

      go : (e : Expression) (Γ : Assignment) → Stands s t at left e Γ → n.children ≡ child_count e
          → (type_of no_world Γ e ≡ none) × (x ≡ Err NoType)
      go (constant k) Γ d i = absurd (z i)
      go (leaf k v) Γ d i = absurd (z i)
      go (lambda v A e) Γ d i =
          let (a, b) =
          child_refused s t₁ t₂ p (left - 1) x e (bind v A Γ) c (lambda_stands s t t₁ at p left h en v A e Γ d) m w
          in (rw a, b)
      go (one o e) Γ d i = let (a, b) = other (one o e) Γ _ e [] (branch_one o e) d in (rw a, b)
      go (two o e f) Γ d i = let (a, b) = other (two o e f) Γ _ e (f ∷ []) (branch_two o e f) d in (rw a, b)
      go (if e f g) Γ d i = let (a, b) = other (if e f g) Γ _ e (f ∷ g ∷ []) (branch_if e f g) d in (rw a, b)

  module _ (a f : ℕ) (t₃ : List ℕ) (w : x ≡ typed a f) (en₃ : t₃ ≡ ended s at a t₂) where
    long₃ : length t₃ ≡ length t
    long₃ = ap length en₃ ∙ length_ended s t₂ at a ∙ long₂

    other : (e : Expression) (Γ : Assignment) (w' : ℕ) (d : Expression) (es : List Expression) → Branch e w' d es
        → Stands s t at left e Γ → First s t at f (left - 1) t₃ e Γ d Γ es a
    other e Γ w' d es b k = other_first s t t₁ at p left h en e w' d es Γ b k t₂ t₃ x a f w c en₃

    pub infer_one : (r : Inferred) → n.children ≡ 1 → RuleOne s t₃ at a f r → Infers s at left t r t₃
    unfolding type_of tag_of_e all_words
    infer_one r k u = record {
      room = long₃;
      settles = λ e Γ d. go e Γ d (stands_children s t at left n e Γ q d) (front_of_lem s t at left e Γ d).tag;
    }
      where
        go : (e : Expression) (Γ : Assignment) → Stands s t at left e Γ → n.children ≡ child_count e → get_or s at 0 ≡ tag_of_e e
            → Settled s at e Γ t r t₃
        go (constant k) Γ d i g = absurd (z i)
        go (leaf k v) Γ d i g = absurd (z i)
        go (lambda v A e) Γ d i g =
            let F = lambda_first s t t₁ at p left h en v A e Γ d t₂ t₃ x a f w c en₃ in
            settle s at (lambda v A e) Γ t r t₃ f (omega (arith, F.pass.size)) F.pass.keeps
            (rw F.typed
            (u.lambda at A F.type g (omega arith) F.pass.low F.link
            (lambda_at s t t₁ at p left h en v A e Γ d).annotation
            F.means))
        go (one o e) Γ d i g =
            let F = other (one o e) Γ _ e [] (branch_one o e) d in
            settle s at (one o e) Γ t r t₃ f (omega (arith, F.pass.size)) F.pass.keeps
            (rw F.typed (u.one at o F.type g (omega arith) F.pass.low F.link F.means))
        go (two o e f) Γ d i g = absurd (omega arith)
        go (if e f g) Γ d i j = absurd (omega arith)

    pub infer_more : (r : Inferred) (t₄ : List ℕ) → (n.children ≡ 1 → ⊥) → Goes s at (left - 1) t₃ f r t₄
        → Infers s at left t r t₄
    unfolding tag_of_e
    infer_more r t₄ z₁ u = record {
      room = u.room ∙ long₃;
      settles = λ e Γ d. go e Γ d (stands_children s t at left n e Γ q d) (front_of_lem s t at left e Γ d).tag;
    }
      where
        go : (e : Expression) (Γ : Assignment) → Stands s t at left e Γ → n.children ≡ child_count e → get_or s at 0 ≡ tag_of_e e
            → Settled s at e Γ t r t₄
        go (constant k) Γ d i g = absurd (z i)
        go (leaf k v) Γ d i g = absurd (z i)
        go (lambda v A e) Γ d i g = absurd (z₁ i)
        go (one o e) Γ d i g = absurd (z₁ i)
        go (two o e d) Γ k i g = u.two o e d Γ t a g (other (two o e d) Γ _ e (d ∷ []) (branch_two o e d) k)
        go (if e d l) Γ k i g = u.three e d l Γ t a g (other (if e d l) Γ _ e (d ∷ l ∷ []) (branch_if e d l) k)

-- the others
module _ (s t₃ t₄ : List ℕ) (at f left : ℕ) (y : Inferred) (h : length s ≤ 2048) (c : Infers s f left t₃ y t₄) where
  pub others_no : (m : CheckError) → y ≡ Err m → Goes s at left t₃ f y t₄
  unfolding type_of
  others_no m w = record { room = c.room; two = two_no; three = three_no }
    where
      two_no : (o : Two) (a b : Expression) (Γ : Assignment) (t : List ℕ) (p : ℕ) → get_or s at 0 ≡ tag_word (two_tag o)
          → First s t at f left t₃ (two o a b) Γ a Γ (b ∷ []) p → Settled s at (two o a b) Γ t y t₄
      two_no o a b Γ t p g F =
          let d = next_stands s t t₃ at f left (at + length (words (two o a b))) Γ b [] h F.pass in
          let (j, k) = child_refused s t₃ t₄ f left y b Γ c d m w in
          refuse s at (two o a b) Γ t y t₄ (rw (F.typed, j), k)

      three_no : (a b d : Expression) (Γ : Assignment) (t : List ℕ) (p : ℕ) → get_or s at 0 ≡ tag_word if_tag
          → First s t at f left t₃ (if a b d) Γ a Γ (b ∷ d ∷ []) p → Settled s at (if a b d) Γ t y t₄
      three_no a b d Γ t p g F =
          let k = next_stands s t t₃ at f left (at + length (words (if a b d))) Γ b (d ∷ []) h F.pass in
          let (j, l) = child_refused s t₃ t₄ f left y b Γ c k m w in
          refuse s at (if a b d) Γ t y t₄ (rw (F.typed, j), l)

  module _ (b g : ℕ) (w : y ≡ typed b g) (v : Tag) (i : word_of v ≡ get_or s at 0) where
    second : (e d : Expression) (es : List Expression) (Γ : Assignment) (t : List ℕ) (a : Expression) (p : ℕ)
        → First s t at f left t₃ e Γ a Γ (d ∷ es) p
        → Next s t at f g left t₃ t₄ Γ d es b (at + length (words e))
    second e d es Γ t a p F =
        next s t t₃ t₄ at f g left b (at + length (words e)) Γ d es y h w c F.pass

    not_if : (o : Two) → tag_word (two_tag o) ≡ 9 → ⊥
    not_if apply z = omega arith
    not_if assign z = omega arith
    not_if (arithmetic add) z = omega arith
    not_if (arithmetic subtract) z = omega arith
    not_if (arithmetic less) z = omega arith

    pub others_two : (r : Inferred) → (v ≡ IfTag → ⊥) → RuleTwo s t₄ at b g r → Goes s at left t₃ f r t₄
    unfolding type_of all_words
    others_two r z u = record { room = c.room; two = go; three = λ a d l Γ t p k F. absurd (z (same_tag v IfTag (i ∙ k))) }
      where
        go : (o : Two) (a d : Expression) (Γ : Assignment) (t : List ℕ) (p : ℕ) → get_or s at 0 ≡ tag_word (two_tag o)
            → First s t at f left t₃ (two o a d) Γ a Γ (d ∷ []) p → Settled s at (two o a d) Γ t r t₄
        go o a d Γ t p k F =
            let N = second (two o a d) d [] Γ t a p F in
            settle s at (two o a d) Γ t r t₄ g (omega (arith, N.pass.size)) N.pass.keeps
            (rw (F.typed, N.typed)
            (u.two at o F.type N.type k F.small
            (rw (N.link ∙ F.link) (N.old p F.type F.means))
            N.means))

    module _ (t₅ : List ℕ) (x : Inferred) (z : v ≡ IfTag) (c₃ : Infers s g left t₄ x t₅) where
      room₅ : length t₅ ≡ length t₃
      room₅ = c₃.room ∙ c.room

      no_two : {A : Type 0} (o : Two) → get_or s at 0 ≡ tag_word (two_tag o) → A
      no_two o k = absurd (not_if o (sym k ∙ sym i ∙ ap word_of z))

      pub others_no_three : (m : CheckError) → x ≡ Err m → Goes s at left t₃ f x t₅
      unfolding type_of
      others_no_three m q = record { room = room₅; two = λ o a d Γ t p k F. no_two o k; three = go }
        where
          go : (a d l : Expression) (Γ : Assignment) (t : List ℕ) (p : ℕ) → get_or s at 0 ≡ tag_word if_tag
              → First s t at f left t₃ (if a d l) Γ a Γ (d ∷ l ∷ []) p → Settled s at (if a d l) Γ t x t₅
          go a d l Γ t p k F =
              let N = second (if a d l) d (l ∷ []) Γ t a p F in
              let e = next_stands s t t₄ at g left (at + length (words (if a d l))) Γ l [] h N.pass in
              let (j, n) = child_refused s t₄ t₅ g left x l Γ c₃ e m q in
              refuse s at (if a d l) Γ t x t₅ (rw (F.typed, N.typed, j), n)

      pub others_three : (n e : ℕ) (r : Inferred) → x ≡ typed n e → RuleThree s t₅ at b n e r → Goes s at left t₃ f r t₅
      unfolding type_of all_words
      others_three n e r q u = record { room = room₅; two = λ o a d Γ t p k F. no_two o k; three = go }
        where
          go : (a d l : Expression) (Γ : Assignment) (t : List ℕ) (p : ℕ) → get_or s at 0 ≡ tag_word if_tag
              → First s t at f left t₃ (if a d l) Γ a Γ (d ∷ l ∷ []) p → Settled s at (if a d l) Γ t r t₅
          go a d l Γ t p k F =
              let N = second (if a d l) d (l ∷ []) Γ t a p F in
              let O = next s t t₄ t₅ at g e left n (at + length (words (if a d l))) Γ l [] x h q c₃ N.pass in
              settle s at (if a d l) Γ t r t₅ e (omega (arith, O.pass.size)) O.pass.keeps
              (rw (F.typed, N.typed, O.typed)
              (u.three at F.type N.type O.type N.small
              (rw (O.link ∙ N.link ∙ F.link) (O.old p F.type (N.old p F.type F.means)))
              (O.old b N.type N.means)
              O.means))
