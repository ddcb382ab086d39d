-- The first child: what a node does around it, seen as a whole.
use Prim.Native.Nat.{◌-◌, ℕ, ◌+◌, ◌≤◌, suc, ◌<◌}
use mathlib.Core.Bool.{Bool, cond, true, false}
use mathlib.Core.List.{List, ◌∷◌, ◌++◌, [], append-nil, append_assoc}
use mathlib.Core.Logic.{◌≢◌, inl, inr, ◌⊎◌}
use mathlib.Core.Option.{some}
use mathlib.Core.Path.{◌≡◌, ap, ◌∙◌, sym, subst, refl}
use native.Mathlib.Omega.{arith}
use lib.Dec.{eqb}
use lib.ListN.{set, get_or, length, length-append, length-set, drop}
use lib.Seq.{get_or-set_other, get_or-set_same}
use borrow.Author.Tests.{ne_eqb, eq-eqb, eqb-true, eqb-false}
use Rattle.calculus.specs.Expressions.{lambda, Expression, one, One, ref, read, fork, join, two, Two, apply, assign}
use Rattle.calculus.specs.Expressions.{arithmetic, add, subtract, less, if}
use Rattle.calculus.specs.Formed.{Formed}
use Rattle.calculus.specs.Tags.{tag_word, one_tag, two_tag}
use Rattle.calculus.specs.Types.{ScriptType}
use Rattle.calculus.specs.Typing.{Assignment, bind}
use Rattle.calculus.specs.Words.{words, type_words}
use Rattle.std.specs.Prelude.{Option, Some}
use Rattle.std.proofs.lemmas.Option.{same_Some}
use Rattle.typing.specs.Held.{Written}
use Rattle.words.specs.Names.{all_words, AllFormed}
use Rattle.typing.specs.Inferring.{Stands, Infers, First, Keeps}
use Rattle.typing.specs.Rulings.{Inferred, typed, Enters, entered, ended, Noted}
use Rattle.typing.proofs.Children.{child}
use Rattle.typing.proofs.Ends.{written_in}
use Rattle.typing.proofs.Fronts.{front, Front, past}
use Rattle.typing.proofs.Meaning.{frame}

-- a node that is no lambda: its tag, its first child, and the others
pub record Branch (e : Expression) (w : ℕ) (a : Expression) (es : List Expression) : Type 0 where
  pub is : words e ≡ w ∷ (words a ++ all_words es)
  pub other : w ≡ 7 → ⊥
  pub first : Formed e → Formed a
  pub others : Formed e → AllFormed es

pub one_tag_lem : (o : One) → tag_word (one_tag o) ≡ 7 → ⊥
one_tag_lem ref z = omega arith
one_tag_lem read z = omega arith
one_tag_lem fork z = omega arith
one_tag_lem join z = omega arith

pub two_tag_lem : (o : Two) → tag_word (two_tag o) ≡ 7 → ⊥
two_tag_lem apply z = omega arith
two_tag_lem assign z = omega arith
two_tag_lem (arithmetic add) z = omega arith
two_tag_lem (arithmetic subtract) z = omega arith
two_tag_lem (arithmetic less) z = omega arith

pub branch_one : (o : One) (e : Expression) → Branch (one o e) (tag_word (one_tag o)) e []
unfolding words Formed all_words AllFormed
branch_one o e =
    record { is = rw (append-nil (words e)); other = one_tag_lem o; first = λ f. f; others = λ f. tt }

pub branch_two : (o : Two) (a b : Expression) → Branch (two o a b) (tag_word (two_tag o)) a (b ∷ [])
unfolding words Formed all_words AllFormed
branch_two o a b =
    record { is = rw (append-nil (words b)); other = two_tag_lem o; first = λ f. f.0; others = λ f. (f.1, tt) }

pub branch_if : (a b c : Expression) → Branch (if a b c) 9 a (b ∷ c ∷ [])
unfolding words Formed all_words AllFormed
branch_if a b c =
    record {
      is = rw (append-nil (words c));
      other = λ z. omega arith;
      first = λ f. f.0;
      others = λ f. (f.1, (f.2, tt));
    }

-- what stood at one place of a table before another was written
still : (t t' : List ℕ) (i v k : ℕ) → t' ≡ set t i v → k ≢ i → get_or t' k 0 ≡ get_or t k 0
still t t' i v k e h = ap (λ (l : List ℕ). get_or l k 0) e ∙ get_or-set_other t i k v 0 h

-- a node that is entered: its first child starts at p
pub record Entered (s : List ℕ) (at : ℕ) (t : List ℕ) (p : ℕ) (t' : List ℕ) : Type 0 where
  pub first : (get_or s at 0 ≡ 7 → ⊥) → p ≡ at + 1
  pub body : (A : ScriptType) → get_or s at 0 ≡ 7 → Written s (at + 2) A → p ≡ at + 2 + length (type_words A)
  pub table : t' ≡ entered s at t

pub entered_at : (s t t' : List ℕ) (at p : ℕ) (r : Option ℕ) → Enters s at t r t' → r ≡ Some p → Entered s at t p t'
entered_at s t t' at p r n e = record {
  first = λ z. same_Some _ _ (sym e ∙ n.first z);
  body = λ A z w. same_Some _ _ (sym e ∙ n.body A z w);
  table = n.table p e;
}

-- the annotation of a lambda
pub annotation_at : (s t : List ℕ) (at left x : ℕ) (A : ScriptType) (e : Expression) (Γ : Assignment)
    (d : Stands s t at left (lambda x A e) Γ)
    → (get_or s at 0 ≡ 7) × (drop (at + 2) s ≡ type_words A ++ (words e ++ d.rest))
unfolding words
annotation_at s t at left x A e Γ d =
    let f = front s at 7 _ d.is in
    let g = front s (at + 1) x _ f.next in
    let two : at + 1 + 1 ≡ at + 2 = omega arith in
    let w : drop (at + 2) s ≡ type_words A ++ (words e ++ d.rest) =
    subst (λ (k : ℕ). drop k s ≡ (type_words A ++ words e) ++ d.rest) two g.next
    ∙ append_assoc (type_words A) (words e) d.rest
    in (f.tag, w)

module _ (s t t₁ : List ℕ) (at p left : ℕ) (h : length s ≤ 2048) (n : Entered s at t p t₁) where
  -- no lambda
  module _ (e : Expression) (w : ℕ) (a : Expression) (es : List Expression) (Γ : Assignment) (b : Branch e w a es)
      (d : Stands s t at left e Γ) where
    front_of_lem : Front s at w ((words a ++ all_words es) ++ d.rest)
    front_of_lem = front s at w _ (d.is ∙ ap (λ (l : List ℕ). l ++ d.rest) b.is)

    not_lambda : get_or s at 0 ≡ 7 → ⊥
    not_lambda z = b.other (sym front_of_lem.tag ∙ z)

    untouched : t₁ ≡ t
    unfolding entered
    untouched = n.table ∙ rw (ne_eqb (get_or s at 0) 7 not_lambda)

    long : length (words e) ≡ suc (length (words a) + length (all_words es))
    long = ap length b.is ∙ ap suc (length-append (words a) (all_words es))

    pub other_stands : Stands s t₁ p (left - 1) a Γ
    other_stands = record {
      rest = all_words es ++ d.rest;
      is = rw (n.first not_lambda) (front_of_lem.next ∙ append_assoc (words a) (all_words es) d.rest);
      few = let l = long in omega (arith, d.few);
      formed = b.first d.formed;
      room = ap length untouched ∙ d.room;
      scope = rw untouched d.scope;
    }

    pub other_first : (t₂ t₃ : List ℕ) (x : Inferred) (i f : ℕ) → x ≡ typed i f → Infers s p (left - 1) t₁ x t₂
        → t₃ ≡ ended s at i t₂ → First s t at f (left - 1) t₃ e Γ a Γ es i
    unfolding ended other_stands
    other_first t₂ t₃ x i f q c z =
        let u : p ≡ at + 1 = n.first not_lambda in
        let v : at < length s = omega (arith, front_of_lem.size) in
        let k = child s t₁ t₂ p (left - 1) x a Γ c other_stands i f h (omega arith) q in
        let y : t₃ ≡ set t₂ at i = z ∙ rw (ne_eqb (get_or s at 0) 7 not_lambda) in
        let r : length t₂ ≡ 8192 = c.room ∙ ap length untouched ∙ d.room in
        let m = long in
        record {
          pass = record {
            rest = d.rest;
            is = rw k.end (past s p (words a) (all_words es ++ d.rest) other_stands.is);
            few = omega (arith, d.few);
            formed = b.others d.formed;
            room = ap length y ∙ length-set t₂ at i ∙ r;
            scope = d.scope;
            keeps = keep u y k.end k.keeps;
            low = omega (arith, k.end);
            high = k.high;
            size = omega (arith, k.end);
          };
          type = k.type;
          typed = k.typed;
          means =
              frame s t₂ t₃ p f at f (omega arith) (omega arith) (λ j g o. still t₂ t₃ at i j y (λ e. omega arith)) i
              k.type k.means;
          small = k.small;
          link = ap (λ (l : List ℕ). get_or l at 0) y ∙ get_or-set_same t₂ at i 0 (omega arith);
        }
      where
        keep : p ≡ at + 1 → t₃ ≡ set t₂ at i → f ≡ p + length (words a) → Keeps p f t₁ t₂ → Keeps at f t t₃
        keep u y g k j (inl o) =
            still t₂ t₃ at i j y (λ e. omega arith) ∙ k j (inl (omega arith))
            ∙ ap (λ (l : List ℕ). get_or l j 0) untouched
        keep u y g k j (inr o) =
            still t₂ t₃ at i j y (λ e. omega arith) ∙ k j (inr o) ∙ ap (λ (l : List ℕ). get_or l j 0) untouched

  -- a lambda
  module _ (x : ℕ) (A : ScriptType) (e : Expression) (Γ : Assignment) (d : Stands s t at left (lambda x A e) Γ) where
    abbrev note : ℕ
    note = 2048 + x

    pub record Lambda : Type 0 where
      pub tag : get_or s at 0 ≡ 7
      pub name : get_or s (at + 1) 0 ≡ x
      pub annotation : Written s (at + 2) A
      pub body : drop p s ≡ words e ++ d.rest
      pub start : p ≡ at + 2 + length (type_words A)
      pub few : x ≤ 255
      pub inside : p ≤ length s

    pub lambda_at : Lambda
    unfolding words Formed
    lambda_at =
        let f = front s at 7 _ d.is in
        let g = front s (at + 1) x _ f.next in
        let w = (annotation_at s t at left x A e Γ d).1 in
        let v : Written s (at + 2) A = record { rest = words e ++ d.rest; is = w } in
        let q = n.body A f.tag v in
        let l = written_in s (at + 2) A v in
        record {
          tag = f.tag;
          name = g.tag;
          annotation = v;
          body = rw q (past s (at + 2) (type_words A) (words e ++ d.rest) w);
          start = q;
          few = d.formed.0;
          inside = omega arith;
        }

    table₁ : t₁ ≡ set (set t (at + 1) (get_or t note 0)) note (at + 2)
    unfolding entered
    table₁ = n.table ∙ rw (eq-eqb (get_or s at 0) 7 lambda_at.tag, lambda_at.name)

    room₁ : length t₁ ≡ 8192
    room₁ =
        ap length table₁ ∙ length-set (set t (at + 1) (get_or t note 0)) note (at + 2)
        ∙ length-set t (at + 1) (get_or t note 0)
        ∙ d.room

    at_1 : (k : ℕ) → k ≢ note → k ≢ at + 1 → get_or t₁ k 0 ≡ get_or t k 0
    at_1 k u v =
        still (set t (at + 1) (get_or t note 0)) t₁ note (at + 2) k table₁ u
        ∙ get_or-set_other t (at + 1) k (get_or t note 0) 0 v

    noted_1 : get_or t₁ note 0 ≡ at + 2
    noted_1 =
        ap (λ (l : List ℕ). get_or l note 0) table₁
        ∙ get_or-set_same (set t (at + 1) (get_or t note 0)) note (at + 2) 0
        (let l = lambda_at.few in omega (arith, length-set t (at + 1) (get_or t note 0), d.room))

    old_1 : get_or t₁ (at + 1) 0 ≡ get_or t note 0
    old_1 =
        let l = lambda_at in
        still (set t (at + 1) (get_or t note 0)) t₁ note (at + 2) (at + 1) table₁
        (λ z. omega (arith, l.inside, l.start))
        ∙ get_or-set_same t (at + 1) (get_or t note 0) 0 (omega (arith, l.inside, l.start, d.room))

    pub lambda_stands : Stands s t₁ p (left - 1) e (bind x A Γ)
    unfolding words Formed Noted
    lambda_stands =
        let l = length-append (type_words A) (words e) in
        record {
          rest = d.rest;
          is = lambda_at.body;
          few = omega (arith, d.few);
          formed = d.formed.1;
          room = room₁;
          scope = λ y u. go y u (eqb y x) refl;
        }
      where
        go : (y : ℕ) → y < 256 → (b : Bool) → eqb y x ≡ b
            → Noted s (get_or t₁ (2048 + y) 0) (cond b (some A) (Γ y))
        go y u true q =
            let z : 2048 + y ≡ note = let k = eqb-true y x q in omega arith in
            rw (z, noted_1) (λ k. omega arith, lambda_at.annotation)
        go y u false q =
            let l = lambda_at in
            rw
            (at_1 (2048 + y) (λ z. eqb-false y x q (omega arith)) (λ z. omega (arith, l.inside, l.start)))
            (d.scope y u)

    pub lambda_first : (t₂ t₃ : List ℕ) (z : Inferred) (i f : ℕ) → z ≡ typed i f → Infers s p (left - 1) t₁ z t₂
        → t₃ ≡ ended s at i t₂ → First s t at f (left - 1) t₃ (lambda x A e) Γ e (bind x A Γ) [] i
    unfolding ended words all_words AllFormed
    lambda_first t₂ t₃ z i f q c g =
        let l = lambda_at in
        let st = l.start in
        let k = child s t₁ t₂ p (left - 1) z e (bind x A Γ) c lambda_stands i f h l.inside q in
        let y : t₃ ≡ set (set t₂ at i) note (get_or t₂ (at + 1) 0) =
        g ∙ rw (eq-eqb (get_or s at 0) 7 l.tag, l.name)
        in
        let r : length t₂ ≡ 8192 = c.room ∙ room₁ in
        record {
          pass = record {
            rest = d.rest;
            is = rw k.end (past s p (words e) d.rest l.body);
            few = omega arith;
            formed = tt;
            room =
                ap length y ∙ length-set (set t₂ at i) note (get_or t₂ (at + 1) 0) ∙ length-set t₂ at i ∙ r;
            scope = d.scope;
            keeps = keep st l.inside y r k.end k.high k.keeps;
            low = omega (arith, k.end);
            high = k.high;
            size = omega (arith, k.end, length-append (type_words A) (words e));
          };
          type = k.type;
          typed = k.typed;
          means =
              frame s t₂ t₃ p f at f (omega arith) (omega arith)
              (λ j a b.
              still (set t₂ at i) t₃ note (get_or t₂ (at + 1) 0) j y (λ e. omega (arith, k.high))
              ∙ get_or-set_other t₂ at j i 0 (λ e. omega arith))
              i k.type k.means;
          small = k.small;
          link =
              still (set t₂ at i) t₃ note (get_or t₂ (at + 1) 0) at y (λ e. omega (arith, l.inside))
              ∙ get_or-set_same t₂ at i 0 (omega (arith, l.inside));
        }
      where
        keep : p ≡ at + 2 + length (type_words A) → p ≤ length s
            → t₃ ≡ set (set t₂ at i) note (get_or t₂ (at + 1) 0) → length t₂ ≡ 8192
            → f ≡ p + length (words e) → f ≤ length s → Keeps p f t₁ t₂ → Keeps at f t t₃
        keep st u y r m v k j o = cases (eqb j note) refl o
          where
            here : j ≡ note → get_or t₃ j 0 ≡ get_or t j 0
            here z =
                rw z
                (ap (λ (l : List ℕ). get_or l note 0) y
                ∙ get_or-set_same (set t₂ at i) note (get_or t₂ (at + 1) 0) 0
                (let l = lambda_at.few in omega (arith, length-set t₂ at i))
                ∙ k (at + 1) (inl (omega arith))
                ∙ old_1)

            there : j ≢ note → j ≢ at → j ≢ at + 1 → (j < p) ⊎ (f ≤ j) → get_or t₃ j 0 ≡ get_or t j 0
            there a b c o =
                still (set t₂ at i) t₃ note (get_or t₂ (at + 1) 0) j y a
                ∙ get_or-set_other t₂ at j i 0 b
                ∙ k j o
                ∙ at_1 j a c

            cases : (b : Bool) → eqb j note ≡ b → (j < at) ⊎ (f ≤ j) → get_or t₃ j 0 ≡ get_or t j 0
            cases true q o = here (eqb-true j note q)
            cases false q (inl o) =
                there (eqb-false j note q) (λ z. omega arith) (λ z. omega arith) (inl (omega arith))
            cases false q (inr o) = there (eqb-false j note q) (λ z. omega arith) (λ z. omega arith) (inr o)
