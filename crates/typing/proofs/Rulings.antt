-- The rules on held types are the rules on types.
use Prim.Native.Nat.{ℕ, ◌≤◌, ◌<◌, ◌+◌}
use mathlib.Core.Bool.{Bool, true, false}
use mathlib.Core.List.{List}
use mathlib.Core.Logic.{inr}
use mathlib.Core.Option.{some, Option as Maybe, none}
use mathlib.Core.Path.{◌≡◌, subst, sym, refl, ap, ◌∙◌}
use native.Mathlib.Omega.{arith}
use lib.ListN.{get_or, length, length-append}
use Rattle.typing.specs.declared.rules.Ask.{Ask}
use Rattle.std.specs.Prelude.{Option, Some, None, Result, Ok, Err}
use Rattle.std.specs.Option.{ok_or}
use Rattle.std.proofs.lemmas.Option.{none-some, same_Some}
use Rattle.typing.specs.declared.CheckError.{CheckError}
use Rattle.typing.specs.declared.CheckError.TheVariants.{NoType}
use Rattle.words.specs.declared.tags.Tag.{Tag}
use Rattle.words.specs.declared.tags.Tag.TheVariants.{Lambda, Apply, Read, Assign, Fork, Join}
use Rattle.words.specs.Tags.{word_of}
use Rattle.typing.specs.declared.types.Head.{Head}
use Rattle.typing.specs.declared.types.Head.TheVariants.{Bool as BoolHead, Number, Rev, Reference, Function}
use Rattle.typing.specs.declared.types.Head.{Head}
use Rattle.calculus.specs.Expressions.{ref, read, One, fork, join, Two, apply, assign, arithmetic, add, subtract}
use Rattle.calculus.specs.Expressions.{less, Arithmetic}
use Rattle.calculus.specs.Options.{◌▸◌}
use Rattle.calculus.specs.Tags.{tag_word, lambda_tag, one_tag, two_tag}
use Rattle.calculus.specs.Types.{ScriptType, basic, Basic, ScriptType-discrete, Basic-discrete, reference, function}
use Rattle.calculus.specs.Types.{unit_type, rev_type, num_type, bool_type}
use Rattle.calculus.specs.Typing.{equal, whether, as_reference, as_function, one_type, two_type, arithmetic_type}
use Rattle.calculus.specs.Words.{type_words}
use Rattle.typing.specs.Held.{Means, basic_of, basic_head, HeadIs, Written, Headed, SameTypes}
use Rattle.typing.specs.Rulings.{Answers, Inferred, typed, RuleOne, opens, Opens, Asks, RuleTwo, RuleThree}
use Rattle.calculus.proofs.TypingRules.{equal_same}
use Rattle.typing.proofs.Equality.{basic_inj, is_head, function_argument, no_way, head_word, basic_head_word}
use Rattle.typing.proofs.Meaning.{written}
use Rattle.typing.proofs.TagWords.{same_tag}

module _ (s t : List ℕ) (i e : ℕ) where
  pub ans_some : (h : ℕ) (A : ScriptType) (o : Maybe ScriptType) → o ≡ some A → Means s t i e h A
      → Answers s t i e (typed h e) o
  unfolding Answers
  ans_some h A o q m = subst (λ (o : Maybe ScriptType). Answers s t i e (typed h e) o) (sym q) (h, refl, m)

  pub ans_none : (o : Maybe ScriptType) → o ≡ none → Answers s t i e (Err NoType) o
  unfolding Answers
  ans_none o q = subst (λ (o : Maybe ScriptType). Answers s t i e (Err NoType) o) (sym q) refl

  pub ans_basic : (p : ℕ) (b : Basic) (o : Maybe ScriptType) → o ≡ some (basic b)
      → basic_of (get_or s p 0) ≡ some b → Answers s t i e (typed p e) o
  unfolding Means
  ans_basic p b o q m = ans_some p (basic b) o q (inr m)

equal_none : (A B : ScriptType) → (A ≡ B → ⊥) → equal A B ≡ none
unfolding equal
equal_none A B h = go (ScriptType-discrete Basic-discrete A B)
  where
    go : (d : Dec (A ≡ B)) → whether d ≡ none
    go (yes p) = absurd (h p)
    go (no k) = refl

equal_some : (A B : ScriptType) → A ≡ B → equal A B ≡ some tt
equal_some A B e = ap (equal A) (sym e) ∙ equal_same A

-- a type by its head
unlike : {m n k : ℕ} → Function m n ≡ Reference k → ⊥
unlike e = cc

unlike_basic : (b : Basic) {h : Head} {n : ℕ} → h ≡ basic_head b → h ≡ Reference n → ⊥
unlike_basic unit_type d e = cc
unlike_basic bool_type d e = cc
unlike_basic num_type d e = cc
unlike_basic rev_type d e = cc

basic_function : (b : Basic) {h : Head} {m n : ℕ} → h ≡ basic_head b → h ≡ Function m n → ⊥
basic_function unit_type d e = cc
basic_function bool_type d e = cc
basic_function num_type d e = cc
basic_function rev_type d e = cc

reference_place : {m n : ℕ} → Reference m ≡ Reference n → m ≡ n
reference_place e = cc

function_place : {m n k l : ℕ} → Function m n ≡ Function k l → n ≡ l
function_place e = cc

basic_head_inj : (b c : Basic) → basic_head b ≡ basic_head c → b ≡ c
basic_head_inj b c e = basic_inj b c (sym (basic_head_word b) ∙ ap head_word e ∙ basic_head_word c)

module _ (s t : List ℕ) (i j : ℕ) (h : Head) where
  head_reference_yes : (n : ℕ) (A : ScriptType) → HeadIs s t i j A (Some h) → h ≡ Reference n
      → (B : ScriptType) × (A ≡ reference B) × Means s t i j n B
  unfolding HeadIs
  head_reference_yes n (basic b) k e = absurd (unlike_basic b (same_Some _ _ k) e)
  head_reference_yes n (reference A) k e = (A, refl, rw (reference_place (sym e ∙ same_Some _ _ k.1)) k.2)
  head_reference_yes n (function A B) k e = absurd (unlike (sym (same_Some _ _ k.2) ∙ e))

  head_reference_no : (A : ScriptType) → HeadIs s t i j A (Some h) → ((n : ℕ) → h ≡ Reference n → ⊥)
      → as_reference A ≡ none
  unfolding HeadIs
  head_reference_no (basic b) k e = refl
  head_reference_no (reference A) k e = absurd (e k.0 (same_Some _ _ k.1))
  head_reference_no (function A B) k e = refl

  head_function_yes : (m n : ℕ) (A : ScriptType) → HeadIs s t i j A (Some h) → h ≡ Function m n
      → (B C : ScriptType) × (A ≡ function B C) × Written s m B × Means s t i j n C
  unfolding HeadIs
  head_function_yes m n (basic b) k e = absurd (basic_function b (same_Some _ _ k) e)
  head_function_yes m n (reference A) k e = absurd (unlike (sym e ∙ same_Some _ _ k.1))
  head_function_yes m n (function A B) k e =
      let d = sym e ∙ same_Some _ _ k.2 in (A, B, refl, rw (function_argument d) k.3, rw (function_place d) k.4)

  head_function_no : (A : ScriptType) → HeadIs s t i j A (Some h) → ((m n : ℕ) → h ≡ Function m n → ⊥)
      → as_function A ≡ none
  unfolding HeadIs
  head_function_no (basic b) k e = refl
  head_function_no (reference A) k e = refl
  head_function_no (function A B) k e = absurd (e k.0 k.1 (same_Some _ _ k.2))

  head_basic_yes : (b : Basic) (A : ScriptType) → HeadIs s t i j A (Some h) → h ≡ basic_head b → A ≡ basic b
  unfolding HeadIs
  head_basic_yes b (basic c) k e = ap basic (basic_head_inj c b (sym (same_Some _ _ k) ∙ e))
  head_basic_yes b (reference A) k e = absurd (unlike_basic b e (same_Some _ _ k.1))
  head_basic_yes b (function A B) k e = absurd (basic_function b e (same_Some _ _ k.2))

  head_basic_no : (b : Basic) (A : ScriptType) → HeadIs s t i j A (Some h) → (h ≡ basic_head b → ⊥)
      → equal A (basic b) ≡ none
  unfolding HeadIs
  head_basic_no b A k e =
      equal_none A (basic b) (λ q. e (same_Some _ _ (subst (λ (X : ScriptType). HeadIs s t i j X (Some h)) q k)))

-- where a head was asked for, and `?` went on or gave up
pub head_some : (o : Option Head) (x : Result Head CheckError) (h : Head) → x ≡ ok_or o NoType → x ≡ Ok h → o ≡ Some h
head_some (Some k) x h p q = cc
head_some None x h p q = absurd cc

pub head_none : (o : Option Head) (x : Result Head CheckError) (n : CheckError) → x ≡ ok_or o NoType → x ≡ Err n → o ≡ None
head_none (Some k) x n p q = absurd cc
head_none None x n p q = refl

-- one child
module _ (s t : List ℕ) (at a e : ℕ) (g : Tag) (q : word_of g ≡ get_or s at 0) where
  not_lambda : (r : Inferred) → (g ≡ Lambda → ⊥)
      → (i : ℕ) (A B : ScriptType) → get_or s at 0 ≡ tag_word lambda_tag → i ≤ at → at < e → get_or t at 0 ≡ a
      → Written s (at + 2) A → Means s t i e a B → Answers s t i e r (some (function A B))
  not_lambda r n i A B k = absurd (n (same_tag g Lambda (q ∙ k)))

  pub itself : (g ≡ Read → ⊥) → (g ≡ Join → ⊥) → RuleOne s t at a e (typed at e)
  unfolding basic_of Means Answers
  itself u z = record { one = go; lambda = λ i A B k b c d v m. (at, refl, inr (k, b, c, v, rw d m)) }
    where
      go : (i : ℕ) (o : One) (A : ScriptType) → get_or s at 0 ≡ tag_word (one_tag o) → i ≤ at → at < e
          → get_or t at 0 ≡ a → Means s t i e a A → Answers s t i e (typed at e) (one_type o A)
      go i ref A k b c d m = (at, refl, inr (k, b, c, rw d m))
      go i read A k b c d m = absurd (u (same_tag g Read (q ∙ k)))
      go i fork A k b c d m = (at, refl, inr (rw k))
      go i join A k b c d m = absurd (z (same_tag g Join (q ∙ k)))

  pub of_lambda : g ≡ Lambda → RuleOne s t at a e (typed at e)
  of_lambda k = itself (λ z. absurd (omega (arith, ap word_of (sym k ∙ z)))) (λ z. absurd (omega (arith, ap word_of (sym k ∙ z))))

  pub of_fork : g ≡ Fork → RuleOne s t at a e (typed at e)
  of_fork k = itself (λ z. absurd (omega (arith, ap word_of (sym k ∙ z)))) (λ z. absurd (omega (arith, ap word_of (sym k ∙ z))))

module _ (s t : List ℕ) (at a e : ℕ) (o : Option Head) (y : Headed s t a o) where
  -- a position that stands for no type
  pub one_nowhere : (r : Inferred) → o ≡ None → RuleOne s t at a e r
  one_nowhere r z = record {
    one = λ i o A g b c d m. absurd (is_head s t i e A _ (y.is i e A m) z);
    lambda = λ i A B g b c d v m. absurd (is_head s t i e B _ (y.is i e B m) z);
  }

module _ (s t : List ℕ) (at a e : ℕ) (o : Option Head) (y : Headed s t a o) (h : Head) (f : o ≡ Some h) (g : Tag)
    (q : word_of g ≡ get_or s at 0) where
  headed_one : (i : ℕ) (A : ScriptType) → Means s t i e a A → HeadIs s t i e A (Some h)
  headed_one i A m = subst (λ (z : Option Head). HeadIs s t i e A z) f (y.is i e A m)

  pub read_yes : (n : ℕ) → g ≡ Read → h ≡ Reference n → RuleOne s t at a e (typed n e)
  read_yes n z k = record { one = go; lambda = not_lambda s t at a e g q (typed n e) (λ u. absurd (omega (arith, ap word_of (sym u ∙ z)))) }
    where
      go : (i : ℕ) (o : One) (A : ScriptType) → get_or s at 0 ≡ tag_word (one_tag o) → i ≤ at → at < e
          → get_or t at 0 ≡ a → Means s t i e a A → Answers s t i e (typed n e) (one_type o A)
      go i ref A l b c d m = absurd (omega (arith, ap word_of z))
      go i read A l b c d m =
          let (B, p, v) = head_reference_yes s t i e h n A (headed_one i A m) k in
          ans_some s t i e n B (as_reference A) (ap as_reference p) v
      go i fork A l b c d m = absurd (omega (arith, ap word_of z))
      go i join A l b c d m = absurd (omega (arith, ap word_of z))

  pub read_no : g ≡ Read → ((n : ℕ) → h ≡ Reference n → ⊥) → RuleOne s t at a e (Err NoType)
  read_no z k = record { one = go; lambda = not_lambda s t at a e g q (Err NoType) (λ u. absurd (omega (arith, ap word_of (sym u ∙ z)))) }
    where
      go : (i : ℕ) (o : One) (A : ScriptType) → get_or s at 0 ≡ tag_word (one_tag o) → i ≤ at → at < e
          → get_or t at 0 ≡ a → Means s t i e a A → Answers s t i e (Err NoType) (one_type o A)
      go i ref A l b c d m = absurd (omega (arith, ap word_of z))
      go i read A l b c d m = ans_none s t i e (as_reference A) (head_reference_no s t i e h A (headed_one i A m) k)
      go i fork A l b c d m = absurd (omega (arith, ap word_of z))
      go i join A l b c d m = absurd (omega (arith, ap word_of z))

  pub join_yes : g ≡ Join → h ≡ Rev → RuleOne s t at a e (typed at e)
  unfolding basic_of
  join_yes z k = record { one = go; lambda = not_lambda s t at a e g q (typed at e) (λ u. absurd (omega (arith, ap word_of (sym u ∙ z)))) }
    where
      go : (i : ℕ) (o : One) (A : ScriptType) → get_or s at 0 ≡ tag_word (one_tag o) → i ≤ at → at < e
          → get_or t at 0 ≡ a → Means s t i e a A → Answers s t i e (typed at e) (one_type o A)
      go i ref A l b c d m = absurd (omega (arith, ap word_of z))
      go i read A l b c d m = absurd (omega (arith, ap word_of z))
      go i fork A l b c d m = absurd (omega (arith, ap word_of z))
      go i join A l b c d m =
          ans_basic s t i e at unit_type _ (rw (equal_some A (basic rev_type) (head_basic_yes s t i e h rev_type A
          (headed_one i A m) k))) (rw l)

  pub join_no : g ≡ Join → (h ≡ Rev → ⊥) → RuleOne s t at a e (Err NoType)
  join_no z k = record { one = go; lambda = not_lambda s t at a e g q (Err NoType) (λ u. absurd (omega (arith, ap word_of (sym u ∙ z)))) }
    where
      go : (i : ℕ) (o : One) (A : ScriptType) → get_or s at 0 ≡ tag_word (one_tag o) → i ≤ at → at < e
          → get_or t at 0 ≡ a → Means s t i e a A → Answers s t i e (Err NoType) (one_type o A)
      go i ref A l b c d m = absurd (omega (arith, ap word_of z))
      go i read A l b c d m = absurd (omega (arith, ap word_of z))
      go i fork A l b c d m = absurd (omega (arith, ap word_of z))
      go i join A l b c d m = ans_none s t i e _ (rw (head_basic_no s t i e h rev_type A (headed_one i A m) k))

-- two children
equal_sym : (A B : ScriptType) → equal A B ≡ equal B A
equal_sym A B = go (ScriptType-discrete Basic-discrete A B)
  where
    go : Dec (A ≡ B) → equal A B ≡ equal B A
    go (yes p) = equal_some A B p ∙ sym (equal_some B A (sym p))
    go (no k) = equal_none A B k ∙ sym (equal_none B A (λ p. k (sym p)))

opens_is : (o : Two) (A B : ScriptType) → two_type o A B ≡ (opens o A ▸ λ p. equal p.0 B ▸ λ u. some p.1)
opens_is apply A B = refl
opens_is assign (basic b) B = refl
opens_is assign (reference A) B = refl
opens_is assign (function A C) B = refl
opens_is (arithmetic o) A B = go (equal A (basic num_type))
  where
    go : (m : Maybe (Unit {0}))
        → (m ▸ λ u. equal B (basic num_type) ▸ λ v. some (arithmetic_type o)) ≡ (◌▸◌ {A = ScriptType × ScriptType}
        (m ▸ λ u. some (basic num_type, arithmetic_type o)) (λ p. equal p.0 B ▸ λ u. some p.1))
    go none = refl
    go (some u) = rw (equal_sym B (basic num_type)) refl

-- what a node asks for
abbrev Opening : List ℕ → ℕ → ℕ → Head → Option Ask → Type 0
Opening s at a h k = (t : List ℕ) (i e : ℕ) (o : Two) (A : ScriptType) → get_or s at 0 ≡ tag_word (two_tag o)
    → HeadIs s t i e A (Some h) → Means s t i e a A → Opens s t i e o A k

module _ (s : List ℕ) (at a : ℕ) (h : Head) (w : Tag) (q : word_of w ≡ get_or s at 0) where
  -- it gives what is asked for, or nothing where the first child's type has another head
  gives : (t : List ℕ) (i e : ℕ) (o : Two) (A C D : ScriptType) (k : Ask) → opens o A ≡ some (C, D)
      → Means s t i e k.want C → Means s t i e k.gives D → length (type_words C) ≤ length (type_words A)
      → Opens s t i e o A (Some k)
  gives t i e o A C D k p u v l = record {
    yes = λ b q. (C, D, p, rw (ap (λ (x : Ask). x.want) (same_Some _ _ q)) at u, rw (ap (λ (x : Ask). x.gives) (same_Some _ _ q)) at v, l);
    no = λ q. absurd (none-some _ (sym q));
  }

  gives_none : (t : List ℕ) (i e : ℕ) (o : Two) (A : ScriptType) → opens o A ≡ none → Opens s t i e o A None
  gives_none t i e o A p = record { yes = λ b q. absurd (none-some _ q); no = λ q. p }

  pub ask_apply : (m n : ℕ) → w ≡ Apply → h ≡ Function m n
      → Asks s at a h (Some (record { want = m; gives = n }))
  unfolding type_words
  ask_apply m n z f = record { is = go }
    where
      go : Opening s at a h (Some (record { want = m; gives = n }))
      go t i e apply A g x y =
          let (C, D, p, v, l) = head_function_yes s t i e h m n A x f in
          let z : length (type_words A) ≡ length (type_words (function C D)) =
          ap (λ (X : ScriptType). length (type_words X)) p in
          gives t i e apply A C D (record { want = m; gives = n }) (ap as_function p) (written s t i e m C v) l
          (omega (arith, length-append (type_words C) (type_words D)))
      go t i e assign A g x y = absurd (omega (arith, ap word_of z))
      go t i e (arithmetic add) A g x y = absurd (omega (arith, ap word_of z))
      go t i e (arithmetic subtract) A g x y = absurd (omega (arith, ap word_of z))
      go t i e (arithmetic less) A g x y = absurd (omega (arith, ap word_of z))

  pub ask_no_function : w ≡ Apply → ((m n : ℕ) → h ≡ Function m n → ⊥) → Asks s at a h None
  ask_no_function z f = record { is = go }
    where
      go : Opening s at a h None
      go t i e apply A g x y = gives_none t i e apply A (head_function_no s t i e h A x f)
      go t i e assign A g x y = absurd (omega (arith, ap word_of z))
      go t i e (arithmetic add) A g x y = absurd (omega (arith, ap word_of z))
      go t i e (arithmetic subtract) A g x y = absurd (omega (arith, ap word_of z))
      go t i e (arithmetic less) A g x y = absurd (omega (arith, ap word_of z))

  pub ask_assign : (n : ℕ) → w ≡ Assign → h ≡ Reference n
      → Asks s at a h (Some (record { want = n; gives = at }))
  unfolding type_words Means basic_of
  ask_assign n z f = record { is = go }
    where
      go : Opening s at a h (Some (record { want = n; gives = at }))
      go t i e apply A g x y = absurd (omega (arith, ap word_of z))
      go t i e assign A g x y =
          let (C, p, l) = head_reference_yes s t i e h n A x f in
          let z : length (type_words A) ≡ length (type_words (reference C)) =
          ap (λ (X : ScriptType). length (type_words X)) p in
          gives t i e assign A C (basic unit_type) (record { want = n; gives = at })
          (ap (λ (X : ScriptType). opens assign X) p) l (inr (rw g refl)) (omega arith)
      go t i e (arithmetic add) A g x y = absurd (omega (arith, ap word_of z))
      go t i e (arithmetic subtract) A g x y = absurd (omega (arith, ap word_of z))
      go t i e (arithmetic less) A g x y = absurd (omega (arith, ap word_of z))

  pub ask_no_reference : w ≡ Assign → ((n : ℕ) → h ≡ Reference n → ⊥) → Asks s at a h None
  ask_no_reference z f = record { is = go }
    where
      go : Opening s at a h None
      go t i e apply A g x y = absurd (omega (arith, ap word_of z))
      go t i e assign A g x y = gives_none t i e assign A (rw (head_reference_no s t i e h A x f) refl)
      go t i e (arithmetic add) A g x y = absurd (omega (arith, ap word_of z))
      go t i e (arithmetic subtract) A g x y = absurd (omega (arith, ap word_of z))
      go t i e (arithmetic less) A g x y = absurd (omega (arith, ap word_of z))

  arithmetic_means : (t : List ℕ) (i e : ℕ) (o : Arithmetic) → get_or s at 0 ≡ tag_word (two_tag (arithmetic o))
      → Means s t i e at (arithmetic_type o)
  unfolding Means basic_of
  arithmetic_means t i e add g = inr (rw g refl)
  arithmetic_means t i e subtract g = inr (rw g refl)
  arithmetic_means t i e less g = inr (rw g refl)

  pub ask_arithmetic : (w ≡ Apply → ⊥) → (w ≡ Assign → ⊥) → h ≡ Number
      → Asks s at a h (Some (record { want = a; gives = at }))
  ask_arithmetic v z f = record { is = go }
    where
      go : Opening s at a h (Some (record { want = a; gives = at }))
      go t i e apply A g x y = absurd (v (same_tag w Apply (q ∙ g)))
      go t i e assign A g x y = absurd (z (same_tag w Assign (q ∙ g)))
      go t i e (arithmetic o) A g x y =
          let p : A ≡ basic num_type = head_basic_yes s t i e h num_type A x f in
          let z : length (type_words A) ≡ length (type_words (basic num_type)) =
          ap (λ (X : ScriptType). length (type_words X)) p in
          gives t i e (arithmetic o) A (basic num_type) (arithmetic_type o) (record { want = a; gives = at })
          (rw (equal_some A (basic num_type) p) refl) (subst (λ (X : ScriptType). Means s t i e a X) p y)
          (arithmetic_means t i e o g) (omega arith)

  pub ask_no_number : (w ≡ Apply → ⊥) → (w ≡ Assign → ⊥) → (h ≡ Number → ⊥) → Asks s at a h None
  ask_no_number v z f = record { is = go }
    where
      go : Opening s at a h None
      go t i e apply A g x y = absurd (v (same_tag w Apply (q ∙ g)))
      go t i e assign A g x y = absurd (z (same_tag w Assign (q ∙ g)))
      go t i e (arithmetic o) A g x y =
          gives_none t i e (arithmetic o) A (rw (head_basic_no s t i e h num_type A x f) refl)

module _ (s t : List ℕ) (at a b e : ℕ) (z : a ≡ get_or t at 0) (l : Option Head) (x : Headed s t a l) where
  -- a position that stands for no type
  pub two_nowhere : (r : Inferred) → l ≡ None → RuleTwo s t at b e r
  two_nowhere r v = record {
    two = λ i o A B g u m n. absurd (is_head s t i e A l (x.is i e A (rw z m)) v);
  }

module _ (s t : List ℕ) (at a b e : ℕ) (z : a ≡ get_or t at 0) (l : Option Head) (x : Headed s t a l) (h : Head)
    (v : l ≡ Some h) (k : Option Ask) (y : Asks s at a h k) where
  opened : (i : ℕ) (o : Two) (A : ScriptType) → get_or s at 0 ≡ tag_word (two_tag o) → Means s t i e (get_or t at 0) A
      → Opens s t i e o A k
  opened i o A g m =
      let n : Means s t i e a A = rw z m in
      y.is t i e o A g (subst (λ (z : Option Head). HeadIs s t i e A z) v (x.is i e A n)) n

  pub two_no : k ≡ None → RuleTwo s t at b e (Err NoType)
  two_no f = record {
    two = λ i o A B g u m n. ans_none s t i e (two_type o A B) (opens_is o A B
        ∙ rw ((opened i o A g m).no f) refl);
  }

  module _ (c : Ask) (f : k ≡ Some c) (r : Bool) (d : SameTypes s t c.want b r) where
    pub two_yes : r ≡ true → RuleTwo s t at b e (typed c.gives e)
    two_yes w = record {
      two = λ i o A B g u m n.
          let (C, D, p, q, j, o₁) = (opened i o A g m).yes c f in
          let f₁ : C ≡ B = (d.is i e C B q n (omega arith)).0 w in
          ans_some s t i e c.gives D (two_type o A B) (opens_is o A B ∙ rw (p, equal_some C B f₁) refl) j;
    }

    pub two_unlike : r ≡ false → RuleTwo s t at b e (Err NoType)
    two_unlike w = record {
      two = λ i o A B g u m n.
          let (C, D, p, q, j, o₁) = (opened i o A g m).yes c f in
          let f₁ : C ≡ B → ⊥ = λ z. no_way (sym w ∙ (d.is i e C B q n (omega arith)).1 z) in
          ans_none s t i e (two_type o A B) (opens_is o A B ∙ rw (p, equal_none C B f₁) refl);
    }

-- three children
module _ (s t : List ℕ) (at a b c e : ℕ) (z : a ≡ get_or t at 0) (l : Option Head) (x : Headed s t a l) where
  -- a position that stands for no type
  pub three_nowhere : (r : Inferred) → l ≡ None → RuleThree s t at b c e r
  three_nowhere r v = record {
    three = λ i A B C u m n o. absurd (is_head s t i e A l (x.is i e A (rw z m)) v);
  }

  module _ (h : Head) (v : l ≡ Some h) where
    headed : (i : ℕ) (A : ScriptType) → Means s t i e (get_or t at 0) A → HeadIs s t i e A (Some h)
    headed i A m = subst (λ (z : Option Head). HeadIs s t i e A z) v (x.is i e A (rw z m))

    pub if_no : (h ≡ BoolHead → ⊥) → RuleThree s t at b c e (Err NoType)
    if_no k = record {
      three = λ i A B C u m n l. ans_none s t i e _ (rw (head_basic_no s t i e h bool_type A (headed i A m) k));
    }

    module _ (k : h ≡ BoolHead) (r : Bool) (d : SameTypes s t b c r) where
      is_bool : (i : ℕ) (A : ScriptType) → Means s t i e (get_or t at 0) A → equal A (basic bool_type) ≡ some tt
      is_bool i A m = equal_some A (basic bool_type) (head_basic_yes s t i e h bool_type A (headed i A m) k)

      pub if_yes : r ≡ true → RuleThree s t at b c e (typed b e)
      if_yes f = record {
        three = λ i A B C u m n l.
            ans_some s t i e b B _ (rw (is_bool i A m, equal_some B C ((d.is i e B C n l u).0 f))) n;
      }

      pub if_unlike : r ≡ false → RuleThree s t at b c e (Err NoType)
      if_unlike f = record {
        three = λ i A B C u m n l.
            ans_none s t i e _
            (rw (is_bool i A m, equal_none B C (λ v. no_way (sym f ∙ (d.is i e B C n l u).1 v))));
      }
