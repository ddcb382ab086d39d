-- A type written out, head by head.
use Prim.Native.Nat.{ℕ, ◌+◌, ◌≤◌, ◌*◌}
use mathlib.Core.List.{List, ◌++◌, [], ◌∷◌, append_assoc}
use mathlib.Core.Path.{◌≡◌, refl, ◌∙◌, ap, sym, subst}
use native.Mathlib.Numerals.{add-one}
use native.Mathlib.Omega.{arith}
use lib.ListN.{set, length, length-append}
use lib.Seq.{sets}
use Rattle.std.specs.Prelude.{Option, Some, None}
use Rattle.typing.specs.declared.types.Head.{Head}
use Rattle.typing.specs.declared.types.Head.TheVariants.{Function}
use Rattle.calculus.specs.Types.{ScriptType, basic, reference, function}
use Rattle.calculus.specs.Words.{type_words}
use Rattle.std.proofs.lemmas.Option.{none-some, same_Some}
use denote.Enum.Declared.{tag_of as tag_number}
use Rattle.words.specs.contracts.tags.TypeTag.{the_type}
use Rattle.words.specs.declared.tags.TypeTag.{TypeTag}
use Rattle.words.specs.declared.tags.TypeTag.TheVariants.{Unit as UnitTag, Bool as BoolTag, Number as NumberTag}
use Rattle.words.specs.declared.tags.TypeTag.TheVariants.{Rev as RevTag, Reference as ReferenceTag}
use Rattle.words.specs.declared.tags.TypeTag.TheVariants.{Function as FunctionTag}
use Rattle.words.specs.Tags.{type_word_of}
use Rattle.typing.specs.Held.{HeadIs, Named, Means, Headed, head_tag, head_rest}
use Rattle.typing.specs.Writing.{WroteHead, head_words, WroteType}
use Rattle.typing.proofs.Copies.{sets_append}
use Rattle.typing.proofs.Ends.{basic_36}
use Rattle.typing.proofs.Equality.{no_function, head_word, head_first, no_rest, is_head, first, function_argument}

head_words_one : (A : ScriptType) → (first A ≡ 37 → ⊥) → head_words A ≡ first A ∷ []
head_words_one (basic b) h = refl
head_words_one (reference A) h = refl
head_words_one (function A B) h = absurd (h refl)

-- a tag as a number is its word
number : (g : TypeTag) → tag_number the_type g + 32 ≡ type_word_of g
number UnitTag = refl
number BoolTag = refl
number NumberTag = refl
number RevTag = refl
number ReferenceTag = refl
number FunctionTag = refl

module _ (s : List ℕ) (h : Head) (o : List ℕ) (to : ℕ) where
  pub wrote_word : (g : TypeTag) (o₁ : List ℕ) → g ≡ head_tag h → o₁ ≡ set o to (tag_number the_type g + 32)
      → ((m n : ℕ) → h ≡ Function m n → ⊥) → WroteHead s h o to (to + 1) o₁
  wrote_word g o₁ v e k =
      record { few = omega arith; more = omega arith; end = λ t i j A m. len t i j A m; is = λ t i j A m. is t i j A m }
    where
      one : (t : List ℕ) (i j : ℕ) (A : ScriptType) → HeadIs s t i j A (Some h) → head_words A ≡ head_word h ∷ []
      one t i j A m =
          let q = head_first s t i j A h m in
          head_words_one A (λ z. no_function h k (q ∙ z)) ∙ ap (λ (x : ℕ). x ∷ []) (sym q)

      len : (t : List ℕ) (i j : ℕ) (A : ScriptType) → HeadIs s t i j A (Some h) → to + 1 ≡ to + length (head_words A)
      len t i j A m = rw (one t i j A m) refl

      is : (t : List ℕ) (i j : ℕ) (A : ScriptType) → HeadIs s t i j A (Some h) → o₁ ≡ sets o to (head_words A)
      is t i j A m = e ∙ rw (one t i j A m, number g, v) refl

  pub wrote_function : (g : TypeTag) (p m : ℕ) (o₁ o₂ ws : List ℕ) (r : ℕ) → length s ≤ 2048 → g ≡ head_tag h
      → o₁ ≡ set o to (tag_number the_type g + 32) → h ≡ Function p m → Named s p ws → (r ≡ to + 1 + length ws) × (o₂ ≡ sets o₁ (to + 1) ws) → WroteHead s h o to r o₂
  unfolding HeadIs
  wrote_function g p m o₁ o₂ ws r l v e k n f =
      record { few = omega (arith, n.short, f.0); more = omega (arith, f.0); end = len; is = is }
    where
      len : (t : List ℕ) (i j : ℕ) (A : ScriptType) → HeadIs s t i j A (Some h) → r ≡ to + length (head_words A)
      len t i j (basic b) m = absurd (let z = basic_36 b in let y = head_first s t i j (basic b) h m in omega (arith, ap head_word k))
      len t i j (reference A) m = absurd (let y = head_first s t i j (reference A) h m in omega (arith, ap head_word k))
      len t i j (function A B) m =
          let q : p ≡ m.0 = function_argument (sym k ∙ same_Some _ _ m.2) in
          let z : length ws ≡ length (type_words A) = ap length (n.is A (rw q m.3)) in
          omega (arith, f.0)

      is : (t : List ℕ) (i j : ℕ) (A : ScriptType) → HeadIs s t i j A (Some h) → o₂ ≡ sets o to (head_words A)
      is t i j (basic b) m = absurd (let z = basic_36 b in let y = head_first s t i j (basic b) h m in omega (arith, ap head_word k))
      is t i j (reference A) m = absurd (let y = head_first s t i j (reference A) h m in omega (arith, ap head_word k))
      is t i j (function A B) m =
          let q : p ≡ m.0 = function_argument (sym k ∙ same_Some _ _ m.2) in
          f.1 ∙ rw (e, number g, v, k, n.is A (rw q m.3), add-one) refl

-- what is written after so many heads, and what is left
pub record Part (s t : List ℕ) (i j : ℕ) (A : ScriptType) (o₀ o : List ℕ) (p n done : ℕ) : Type 0 where
  pub front : List ℕ
  pub back : ScriptType
  pub whole : type_words A ≡ front ++ type_words back
  pub count : n ≡ length front
  pub wrote : o ≡ sets o₀ 0 front
  pub means : Means s t i j p back
  pub less : length (type_words back) + done ≤ length (type_words A)

pub record Writes (s t : List ℕ) (p₀ : ℕ) (o₀ o : List ℕ) (p n done : ℕ) : Type 0 where
  pub room : length o ≡ length o₀
  pub few : n ≤ done * 2049
  pub more : done ≤ n
  pub is : (i j : ℕ) (A : ScriptType) → Means s t i j p₀ A → Part s t i j A o₀ o p n done

split_end : (s t : List ℕ) (i j : ℕ) (B : ScriptType) (h : Head) → head_rest h ≡ None → HeadIs s t i j B (Some h)
    → type_words B ≡ head_words B
unfolding HeadIs type_words
split_end s t i j (basic b) h k m = refl
split_end s t i j (reference B) h k m = absurd (none-some _ (sym k ∙ ap head_rest (same_Some _ _ m.1)))
split_end s t i j (function B C) h k m = absurd (none-some _ (sym k ∙ ap head_rest (same_Some _ _ m.2)))

split_on : (s t : List ℕ) (i j : ℕ) (B : ScriptType) (h : Head) (p : ℕ) → head_rest h ≡ Some p
    → HeadIs s t i j B (Some h) → (C : ScriptType) × (type_words B ≡ head_words B ++ type_words C) × Means s t i j p C
unfolding HeadIs type_words
split_on s t i j (basic b) h p k m = absurd (no_rest b (sym (ap head_rest (same_Some _ _ m)) ∙ k))
split_on s t i j (reference B) h p k m = (B, refl, rw (same_Some _ _ (sym k ∙ ap head_rest (same_Some _ _ m.1))) m.2)
split_on s t i j (function B C) h p k m = (C, refl, rw (same_Some _ _ (sym k ∙ ap head_rest (same_Some _ _ m.2))) m.4)

head_long : (A : ScriptType) → 1 ≤ length (head_words A)
head_long (basic b) = omega arith
head_long (reference A) = omega arith
head_long (function A B) = omega arith

module _ (s t : List ℕ) (p₀ : ℕ) (o₀ o : List ℕ) (p n done : ℕ) (c : Writes s t p₀ o₀ o p n done) where
  -- a position that stands for no type
  pub write_nowhere : (x : Option Head) → Headed s t p x → x ≡ None → WroteType s t p₀ o₀ n o
  write_nowhere x u e = record {
    end = λ i j A m h. absurd (no i j A m);
    is = λ i j A m h. absurd (no i j A m);
    long = λ i j A m h. absurd (no i j A m);
  }
    where
      no : (i j : ℕ) (A : ScriptType) → Means s t i j p₀ A → ⊥
      no i j A m = let l = c.is i j A m in is_head s t i j l.back x (u.is i j l.back l.means) e

  module _ (x : Option Head) (h : Head) (o' : List ℕ) (n' : ℕ) (u : Headed s t p x) (f : x ≡ Some h)
      (w : WroteHead s h o n n' o') where
    headed : (i j : ℕ) (A : ScriptType) → Means s t i j p A → HeadIs s t i j A (Some h)
    headed i j A m = subst (λ (z : Option Head). HeadIs s t i j A z) f (u.is i j A m)

    pub write_done : None ≡ head_rest h → WroteType s t p₀ o₀ n' o'
    write_done k = record {
      end = λ i j A m g. all i j A m;
      is = λ i j A m g.
          let l = c.is i j A m in
          let y = headed i j l.back l.means in
          let q = split_end s t i j l.back h (sym k) y in
          w.is t i j l.back y
          ∙ rw (l.whole, q, sets_append, ← l.wrote)
          (ap (λ (k : ℕ). sets o k (head_words l.back)) (l.count ∙ omega arith));
      long = λ i j A m g. let e = all i j A m in omega arith;
    }
      where
        all : (i j : ℕ) (A : ScriptType) → Means s t i j p₀ A → n' ≡ length (type_words A)
        all i j A m =
            let l = c.is i j A m in
            let y = headed i j l.back l.means in
            let q = split_end s t i j l.back h (sym k) y in
            let u : length (type_words A) ≡ length (l.front ++ head_words l.back) =
            ap length (l.whole ∙ ap (λ (z : List ℕ). l.front ++ z) q)
            in omega (arith, w.end t i j l.back y, l.count, length-append l.front (head_words l.back))

    pub write_turn : (p' : ℕ) → Some p' ≡ head_rest h → length o' ≡ length o → Writes s t p₀ o₀ o' p' n' (done + 1)
    write_turn p' k r = record {
      room = r ∙ c.room;
      few = omega (arith, c.few, w.few);
      more = omega (arith, c.more, w.more);
      is = λ i j A m.
          let l = c.is i j A m in
          let y = headed i j l.back l.means in
          let (C, q, v) = split_on s t i j l.back h p' (sym k) y in
          let u : length (type_words l.back) ≡ length (head_words l.back ++ type_words C) = ap length q in
          record {
            front = l.front ++ head_words l.back;
            back = C;
            whole = l.whole ∙ rw (q, append_assoc) refl;
            count =
                omega (arith, w.end t i j l.back y, l.count, length-append l.front (head_words l.back));
            wrote =
                w.is t i j l.back y
                ∙ rw (sets_append, ← l.wrote)
                (ap (λ (k : ℕ). sets o k (head_words l.back)) (l.count ∙ omega arith));
            means = v;
            less =
                omega
                (arith, l.less, head_long l.back, length-append (head_words l.back) (type_words C));
          };
    }
