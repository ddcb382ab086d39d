-- Equal types: equal words, head by head.
use Prim.Native.Nat.{ℕ, ◌≤◌, ◌<◌, ◌+◌}
use mathlib.Core.Bool.{false, true, cond, Bool}
use mathlib.Core.List.{List, ◌++◌, append_assoc, []}
use mathlib.Core.Path.{◌≡◌, refl, ap, sym, ◌∙◌, ap₂, subst}
use native.Mathlib.Omega.{arith}
use lib.Dec.{eqb}
use lib.ListN.{length, get_or, drop, length-append}
use Rattle.std.specs.Prelude.{Option, Some, None}
use Rattle.std.specs.Bool.{Decides}
use Rattle.std.specs.Cmp.Lexicographic.{pointwise}
use Rattle.std.proofs.Common.{rules}
use denote.Enum.Bare.{sameb, same_true, true_same}
use Rattle.words.specs.contracts.tags.TypeTag.{the_type}
use Rattle.words.specs.declared.tags.TypeTag.TheVariants.{Unit as UnitTag, Bool as BoolTag, Number as NumberTag}
use Rattle.words.specs.declared.tags.TypeTag.TheVariants.{Rev as RevTag, Reference as ReferenceTag}
use Rattle.words.specs.declared.tags.TypeTag.TheVariants.{Function as FunctionTag}
use Rattle.std.proofs.lemmas.Slice.Eq.{slice_eq-Decides}
use Rattle.std.proofs.lemmas.Bool.Decides.{Decides-eqb}
use Rattle.std.proofs.lemmas.Option.{none-some, same_Some}
use Rattle.typing.specs.declared.types.Head.{Head}
use Rattle.typing.specs.declared.types.Head.TheVariants.{Unit as UnitHead, Bool as BoolHead, Number, Rev, Reference}
use Rattle.typing.specs.declared.types.Head.TheVariants.{Function}
use Rattle.words.specs.declared.tags.TypeTag.{TypeTag}
use Rattle.words.specs.Tags.{type_word_of}
use Rattle.calculus.specs.Tags.{type_tag_word, basic_tag}
use Rattle.calculus.specs.Types.{basic, Basic, unit_type, bool_type, num_type, rev_type, ScriptType, reference, function}
use Rattle.calculus.specs.Words.{type_words}
use Rattle.typing.specs.Held.{HeadIs, Alike, SameHeads, Named, Means, SameTypes, Headed, basic_head, head_tag, head_rest}
use Rattle.words.proofs.Ends.{type_words_long}
use Rattle.typing.proofs.Ends.{basic_36}

pub no_way : {C : Type 0} → false ≡ true → C
no_way e = absurd (let z : ◌≡◌ {A = ℕ} 0 1 = cc in omega arith)

pub never : {P : Type 0} → (P → ⊥) → Decides false P
never h = (λ e. no_way e, λ p. absurd (h p))

pub always : {P : Type 0} → P → Decides true P
always p = (λ e. p, λ q. refl)

-- a type is known by its words, whatever follows them
basic_of_word : ℕ → Basic
basic_of_word w = cond (eqb w 32) unit_type (cond (eqb w 33) bool_type (cond (eqb w 34) num_type rev_type))

basic_of_word_tag : (b : Basic) → basic_of_word (type_tag_word (basic_tag b)) ≡ b
unfolding basic_of_word
basic_of_word_tag unit_type = refl
basic_of_word_tag bool_type = refl
basic_of_word_tag num_type = refl
basic_of_word_tag rev_type = refl

pub basic_inj : (a b : Basic) → type_tag_word (basic_tag a) ≡ type_tag_word (basic_tag b) → a ≡ b
basic_inj a b e = sym (basic_of_word_tag a) ∙ ap basic_of_word e ∙ basic_of_word_tag b

abbrev pub first : ScriptType → ℕ
first (basic b) = type_tag_word (basic_tag b)
first (reference A) = 36
first (function A B) = 37

pub unique : (A B : ScriptType) (r s : List ℕ) → type_words A ++ r ≡ type_words B ++ s → (A ≡ B) × (r ≡ s)
unfolding type_words
unique (basic a) (basic b) r s e = (ap basic (basic_inj a b (ap (λ (l : List ℕ). get_or l 0 0) e)), ap (drop 1) e)
unique (basic a) (reference B) r s e = absurd (let k = basic_36 a in omega (arith, ap (λ (l : List ℕ). get_or l 0 0) e))
unique (basic a) (function B D) r s e = absurd (let k = basic_36 a in omega (arith, ap (λ (l : List ℕ). get_or l 0 0) e))
unique (reference A) (basic b) r s e = absurd (let k = basic_36 b in omega (arith, ap (λ (l : List ℕ). get_or l 0 0) e))
unique (reference A) (reference B) r s e = let q = unique A B r s (ap (drop 1) e) in (ap reference q.0, q.1)
unique (reference A) (function B D) r s e = absurd (omega (arith, ap (λ (l : List ℕ). get_or l 0 0) e))
unique (function A C) (basic b) r s e = absurd (let k = basic_36 b in omega (arith, ap (λ (l : List ℕ). get_or l 0 0) e))
unique (function A C) (reference B) r s e = absurd (omega (arith, ap (λ (l : List ℕ). get_or l 0 0) e))
unique (function A C) (function B D) r s e =
    let q = unique A B (type_words C ++ r) (type_words D ++ s) (sym (append_assoc (type_words A) (type_words C) r)
    ∙ ap (drop 1) e ∙ append_assoc (type_words B) (type_words D) s) in
    let z = unique C D r s q.1 in
    (ap₂ function q.0 z.0, z.1)

pub words_inj : (A B : ScriptType) → type_words A ≡ type_words B → A ≡ B
words_inj A B e = (unique A B [] [] (ap (λ (l : List ℕ). l ++ []) e)).0

-- heads
abbrev pub head_word : Head → ℕ
head_word h = type_word_of (head_tag h)

pub basic_head_word : (b : Basic) → head_word (basic_head b) ≡ type_tag_word (basic_tag b)
basic_head_word unit_type = refl
basic_head_word bool_type = refl
basic_head_word num_type = refl
basic_head_word rev_type = refl

pub head_first : (s t : List ℕ) (i j : ℕ) (A : ScriptType) (r : Head) → HeadIs s t i j A (Some r) → head_word r ≡ first A
unfolding HeadIs
head_first s t i j (basic b) r h = ap head_word (same_Some _ _ h) ∙ basic_head_word b
head_first s t i j (reference A) r h = ap head_word (same_Some _ _ h.1)
head_first s t i j (function A B) r h = ap head_word (same_Some _ _ h.2)

alike_first : (A B : ScriptType) → Alike A B → first A ≡ first B
unfolding Alike
alike_first (basic a) (basic b) h = ap (λ (x : Basic). type_tag_word (basic_tag x)) h
alike_first (basic a) (reference B) h = absurd h
alike_first (basic a) (function B C) h = absurd h
alike_first (reference A) (basic b) h = absurd h
alike_first (reference A) (reference B) h = refl
alike_first (reference A) (function B C) h = absurd h
alike_first (function A D) (basic b) h = absurd h
alike_first (function A D) (reference B) h = absurd h
alike_first (function A D) (function B C) h = refl

first_alike : (A B : ScriptType) → first A ≡ first B → (first A ≡ 37 → ⊥) → Alike A B
unfolding Alike
first_alike (basic a) (basic b) e h = basic_inj a b e
first_alike (basic a) (reference B) e h = let k = basic_36 a in omega arith
first_alike (basic a) (function B C) e h = let k = basic_36 a in omega arith
first_alike (reference A) (basic b) e h = let k = basic_36 b in omega arith
first_alike (reference A) (reference B) e h = tt
first_alike (reference A) (function B C) e h = omega arith
first_alike (function A D) (basic b) e h = let k = basic_36 b in omega arith
first_alike (function A D) (reference B) e h = omega arith
first_alike (function A D) (function B C) e h = absurd (h refl)

pub no_function : (h : Head) → ((m n : ℕ) → h ≡ Function m n → ⊥) → head_word h ≡ 37 → ⊥
no_function UnitHead n e = omega arith
no_function BoolHead n e = omega arith
no_function Number n e = omega arith
no_function Rev n e = omega arith
no_function (Reference k) n e = omega arith
no_function (Function k l) n e = n k l refl

-- the derived `==` of tags
word_tag : ℕ → TypeTag
word_tag w =
    cond (eqb w 32) UnitTag
    (cond (eqb w 33) BoolTag (cond (eqb w 34) NumberTag (cond (eqb w 35) RevTag (cond (eqb w 36) ReferenceTag FunctionTag))))

word_tag_is : (g : TypeTag) → word_tag (type_word_of g) ≡ g
unfolding word_tag
word_tag_is UnitTag = refl
word_tag_is BoolTag = refl
word_tag_is NumberTag = refl
word_tag_is RevTag = refl
word_tag_is ReferenceTag = refl
word_tag_is FunctionTag = refl

same_type_tag : (g h : TypeTag) → type_word_of g ≡ type_word_of h → g ≡ h
same_type_tag g h e = sym (word_tag_is g) ∙ ap word_tag e ∙ word_tag_is h

-- the first is no function's
pub heads_plain : (s : List ℕ) (a b : Head) (g h : TypeTag) (r : Bool) → g ≡ head_tag a → h ≡ head_tag b
    → ((m n : ℕ) → a ≡ Function m n → ⊥) → r ≡ sameb the_type g h → SameHeads s a b r
heads_plain s a b g h r u v n d = record {
  is = λ t i j A B x y.
      let p = head_first s t i j A a x in
      let q = head_first s t i j B b y in (
        λ e.
            let w : g ≡ h = same_true the_type (search rules) g h (sym d ∙ e) in
            let z : head_word a ≡ head_word b = ap type_word_of (sym u ∙ w ∙ v) in
            first_alike A B (sym p ∙ z ∙ q) (λ l. no_function a n (p ∙ l)),
        λ k.
            let w : head_tag a ≡ head_tag b = same_type_tag (head_tag a) (head_tag b) (p ∙ alike_first A B k ∙ sym q) in
            d ∙ true_same the_type g h (u ∙ w ∙ sym v),
      );
}

-- the first is a function's and the second is not
pub heads_unlike : (s : List ℕ) (a b : Head) (p m : ℕ) → a ≡ Function p m → ((k n : ℕ) → b ≡ Function k n → ⊥)
    → SameHeads s a b false
heads_unlike s a b p m e n = record {
  is = λ t i j A B x y.
      never (λ k. no_function b n
      (head_first s t i j B b y ∙ sym (alike_first A B k) ∙ sym (head_first s t i j A a x) ∙ ap head_word e));
}

pub function_argument : {m n k l : ℕ} → Function m n ≡ Function k l → m ≡ k
function_argument e = cc

heads_function_case : (s t : List ℕ) (i j : ℕ) (A B : ScriptType) (p m q n : ℕ) (u v : List ℕ) (r : Bool)
    → Named s p u → Named s q v → Decides r (u ≡ v)
    → HeadIs s t i j A (Some (Function p m)) → HeadIs s t i j B (Some (Function q n)) → Decides r (Alike A B)
unfolding HeadIs Alike
heads_function_case s t i j (basic x) B p m q n u v r e f d h k =
    absurd (let z = basic_36 x in let y = head_first s t i j (basic x) (Function p m) h in omega arith)
heads_function_case s t i j (reference A) B p m q n u v r e f d h k =
    absurd (let y = head_first s t i j (reference A) (Function p m) h in omega arith)
heads_function_case s t i j (function A C) (basic x) p m q n u v r e f d h k =
    absurd (let z = basic_36 x in let y = head_first s t i j (basic x) (Function q n) k in omega arith)
heads_function_case s t i j (function A C) (reference B) p m q n u v r e f d h k =
    absurd (let y = head_first s t i j (reference B) (Function q n) k in omega arith)
heads_function_case s t i j (function A C) (function B D) p m q n u v r e f d h k =
    let x : u ≡ type_words A = e.is A (rw (function_argument (same_Some _ _ h.2)) h.3) in
    let y : v ≡ type_words B = f.is B (rw (function_argument (same_Some _ _ k.2)) k.3) in (
      λ z. words_inj A B (sym x ∙ d.0 z ∙ y),
      λ z. d.1 (x ∙ ap type_words z ∙ sym y),
    )

pub heads_function : (s : List ℕ) (a b : Head) (p m q n : ℕ) (u v : List ℕ) (r : Bool) → a ≡ Function p m
    → b ≡ Function q n → Named s p u → Named s q v → r ≡ pointwise eqb u v → SameHeads s a b r
heads_function s a b p m q n u v r x y e f d = record {
  is = λ t i j A B h k.
      heads_function_case s t i j A B p m q n u v r e f (slice_eq-Decides Decides-eqb u v r d)
      (subst (λ (z : Head). HeadIs s t i j A (Some z)) x h)
      (subst (λ (z : Head). HeadIs s t i j B (Some z)) y k);
}

-- what is left to compare
pub record Left (s t : List ℕ) (i j : ℕ) (A B : ScriptType) (p q done : ℕ) : Type 0 where
  pub one : ScriptType
  pub two : ScriptType
  pub at_one : Means s t i j p one
  pub at_two : Means s t i j q two
  pub small : length (type_words one) + done ≤ 4096
  pub down : A ≡ B → one ≡ two
  pub up : one ≡ two → A ≡ B

-- after so many heads
pub record SameSo (s t : List ℕ) (p₀ q₀ p q done : ℕ) : Type 0 where
  pub is : (i j : ℕ) (A B : ScriptType) → Means s t i j p₀ A → Means s t i j q₀ B → length (type_words A) ≤ 4096
      → Left s t i j A B p q done

alike_refl : (A : ScriptType) → Alike A A
unfolding Alike
alike_refl (basic b) = refl
alike_refl (reference A) = tt
alike_refl (function A B) = refl

alike_eq : (A B : ScriptType) → A ≡ B → Alike A B
alike_eq A B e = subst (λ (X : ScriptType). Alike A X) e (alike_refl A)

alike_basic : (A B : ScriptType) → first A < 36 → Alike A B → A ≡ B
unfolding Alike
alike_basic (basic a) (basic b) h k = ap basic k
alike_basic (basic a) (reference B) h k = absurd k
alike_basic (basic a) (function B C) h k = absurd k
alike_basic (reference A) B h k = absurd (omega arith)
alike_basic (function A D) B h k = absurd (omega arith)

reference_inj : {A B : ScriptType} → reference A ≡ reference B → A ≡ B
reference_inj e = cc

function_inj : {A B C D : ScriptType} → function A C ≡ function B D → C ≡ D
function_inj e = cc

pub no_rest : (b : Basic) {n : ℕ} → head_rest (basic_head b) ≡ Some n → ⊥
no_rest unit_type e = cc
no_rest bool_type e = cc
no_rest num_type e = cc
no_rest rev_type e = cc

left_turn : (s t : List ℕ) (i j : ℕ) (A B C D : ScriptType) (a b : Head) (p q n : ℕ) → head_rest a ≡ Some p
    → head_rest b ≡ Some q → HeadIs s t i j C (Some a) → HeadIs s t i j D (Some b) → Alike C D
    → length (type_words C) + n ≤ 4096 → (A ≡ B → C ≡ D) → (C ≡ D → A ≡ B) → Left s t i j A B p q (n + 1)
unfolding HeadIs Alike type_words
left_turn s t i j A B (basic x) D a b p q n v w h k l z d u = absurd (no_rest x (sym (ap head_rest (same_Some _ _ h)) ∙ v))
left_turn s t i j A B (reference C) (basic y) a b p q n v w h k l z d u = absurd l
left_turn s t i j A B (reference C) (reference D) a b p q n v w h k l z d u = record {
  one = C;
  two = D;
  at_one = rw (same_Some _ _ (sym v ∙ ap head_rest (same_Some _ _ h.1))) h.2;
  at_two = rw (same_Some _ _ (sym w ∙ ap head_rest (same_Some _ _ k.1))) k.2;
  small = omega arith;
  down = λ e. reference_inj (d e);
  up = λ e. u (ap reference e);
}
left_turn s t i j A B (reference C) (function D F) a b p q n v w h k l z d u = absurd l
left_turn s t i j A B (function C E) (basic y) a b p q n v w h k l z d u = absurd l
left_turn s t i j A B (function C E) (reference D) a b p q n v w h k l z d u = absurd l
left_turn s t i j A B (function C E) (function D F) a b p q n v w h k l z d u = record {
  one = E;
  two = F;
  at_one = rw (same_Some _ _ (sym v ∙ ap head_rest (same_Some _ _ h.2))) h.4;
  at_two = rw (same_Some _ _ (sym w ∙ ap head_rest (same_Some _ _ k.2))) k.4;
  small = omega (arith, length-append (type_words C) (type_words E));
  down = λ e. function_inj (d e);
  up = λ e. u (ap₂ function l e);
}

-- a position that stands for a type has a head
pub is_head : (s t : List ℕ) (i j : ℕ) (A : ScriptType) (h : Option Head) → HeadIs s t i j A h → h ≡ None → ⊥
unfolding HeadIs
is_head s t i j (basic b) h k e = none-some _ (sym e ∙ k)
is_head s t i j (reference A) h k e = none-some _ (sym e ∙ k.1)
is_head s t i j (function A B) h k e = none-some _ (sym e ∙ k.2)

-- a head with no rest is a basic type's
last_head : (s t : List ℕ) (i j : ℕ) (A : ScriptType) (a : Head) → HeadIs s t i j A (Some a) → head_rest a ≡ None
    → first A < 36
unfolding HeadIs
last_head s t i j (basic b) a k e = basic_36 b
last_head s t i j (reference A) a k e = absurd (none-some _ (sym e ∙ ap head_rest (same_Some _ _ k.1)))
last_head s t i j (function A B) a k e = absurd (none-some _ (sym e ∙ ap head_rest (same_Some _ _ k.2)))

module _ (s t : List ℕ) (p₀ q₀ p q n : ℕ) (c : SameSo s t p₀ q₀ p q n) where
  pub same_none : 4096 ≤ n → SameTypes s t p₀ q₀ false
  same_none z = record {
    is = λ i j A B m k h. let l = c.is i j A B m k h in
        absurd (omega (arith, type_words_long l.one, l.small));
  }

  -- a position that stands for no type
  pub same_nowhere : (x : Option Head) → Headed s t p x → x ≡ None → SameTypes s t p₀ q₀ false
  same_nowhere x u z = record {
    is = λ i j A B m k h.
        let l = c.is i j A B m k h in
        absurd (is_head s t i j l.one x (u.is i j l.one l.at_one) z);
  }

  pub nowhere_same : (x : Option Head) → Headed s t q x → x ≡ None → SameTypes s t p₀ q₀ false
  nowhere_same x u z = record {
    is = λ i j A B m k h.
        let l = c.is i j A B m k h in
        absurd (is_head s t i j l.two x (u.is i j l.two l.at_two) z);
  }

  module _ (x y : Option Head) (u : Headed s t p x) (v : Headed s t q y) (a b : Head) (r : Bool) (f : x ≡ Some a)
      (g : y ≡ Some b) (d : SameHeads s a b r) where
    head_one : (i j : ℕ) (A : ScriptType) → Means s t i j p A → HeadIs s t i j A (Some a)
    head_one i j A m = subst (λ (z : Option Head). HeadIs s t i j A z) f (u.is i j A m)

    head_two : (i j : ℕ) (A : ScriptType) → Means s t i j q A → HeadIs s t i j A (Some b)
    head_two i j A m = subst (λ (z : Option Head). HeadIs s t i j A z) g (v.is i j A m)

    like : (i j : ℕ) (A B : ScriptType) (l : Left s t i j A B p q n) → Decides r (Alike l.one l.two)
    like i j A B l = d.is t i j l.one l.two (head_one i j l.one l.at_one) (head_two i j l.two l.at_two)

    pub same_unlike : r ≡ false → SameTypes s t p₀ q₀ false
    same_unlike z = record {
      is = λ i j A B m k h.
          let l = c.is i j A B m k h in
          never (λ e. no_way (sym z ∙ (like i j A B l).1 (alike_eq l.one l.two (l.down e))));
    }

    -- a head with no rest: the last
    pub same_done : r ≡ true → None ≡ head_rest a → SameTypes s t p₀ q₀ true
    same_done z w = record {
      is = λ i j A B m k h.
          let l = c.is i j A B m k h in
          let o = (like i j A B l).0 z in
          always (l.up (alike_basic l.one l.two (last_head s t i j l.one a (head_one i j l.one l.at_one) (sym w)) o));
    }

    pub done_same : r ≡ true → None ≡ head_rest b → SameTypes s t p₀ q₀ true
    done_same z w = record {
      is = λ i j A B m k h.
          let l = c.is i j A B m k h in
          let o = (like i j A B l).0 z in
          let e = last_head s t i j l.two b (head_two i j l.two l.at_two) (sym w) in
          always (l.up (alike_basic l.one l.two (rw (alike_first l.one l.two o) e) o));
    }

    pub same_turn : (p' q' : ℕ) → r ≡ true → Some p' ≡ head_rest a → Some q' ≡ head_rest b
        → SameSo s t p₀ q₀ p' q' (n + 1)
    same_turn p' q' z w o = record {
      is = λ i j A B m k h.
          let l = c.is i j A B m k h in
          left_turn s t i j A B l.one l.two a b p' q' n (sym w) (sym o) (head_one i j l.one l.at_one)
          (head_two i j l.two l.at_two) ((like i j A B l).0 z) l.small l.down l.up;
    }
