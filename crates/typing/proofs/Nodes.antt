-- A node without a child, and what a node does before and after its first child.
use Prim.Native.Nat.{ℕ, ◌+◌, ◌≤◌, ◌<◌}
use mathlib.Core.Bool.{false, true}
use mathlib.Core.List.{List}
use mathlib.Core.Logic.{◌⊎◌, inl, inr}
use mathlib.Core.Option.{some, Option as Maybe, none}
use mathlib.Core.Path.{◌≡◌, refl, ◌∙◌, ap, sym}
use native.Mathlib.Omega.{arith}
use lib.ListN.{get_or, length, set, length-set}
use lib.Seq.{get_or-set_other, get_or-set_same}
use borrow.Author.Tests.{ne_eqb, eq-eqb}
use Rattle.std.specs.Prelude.{Option, Some, None, Err}
use Rattle.std.proofs.lemmas.Option.{none-some}
use Rattle.words.specs.declared.tags.Tag.{Tag}
use Rattle.words.specs.declared.tags.Tag.TheVariants.{Unit as UnitTag, False, True, Number, Variable, Lambda}
use Rattle.words.specs.Tags.{word_of}
use Rattle.typing.proofs.TagWords.{same_tag}
use Rattle.typing.specs.declared.CheckError.TheVariants.{NoType}
use Rattle.calculus.specs.Expressions.{Constant, Leaf, unit, bool, number, variable, location, revision}
use Rattle.calculus.specs.Reading.{type_end}
use Rattle.calculus.specs.Tags.{tag_word, constant_tag, leaf_tag, largest}
use Rattle.calculus.specs.Types.{unit_type, bool_type, num_type, ScriptType}
use Rattle.calculus.specs.Typing.{constant_type, Assignment, leaf_type, no_world}
use Rattle.words.specs.Walks.{walk_of}
use Rattle.typing.specs.Held.{basic_of}
use Rattle.typing.specs.Rulings.{Answers, Inferred, typed, Scope, Leafs, Noted, Enters, entered, ended}
use Rattle.typing.proofs.Ends.{ends_of, ends_nowhere}
use Rattle.typing.proofs.Meaning.{annotated}
use Rattle.typing.proofs.Rulings.{ans_basic, ans_none, ans_some}

module _ (s t : List ℕ) (at : ℕ) (w : Tag) (q : word_of w ≡ get_or s at 0) where
  abbrev Constants : Inferred → List ℕ → Type 0
  Constants r t' = (c : Constant) → get_or s at 0 ≡ tag_word (constant_tag c)
      → Answers s t' at (at + 1) r (some (constant_type c))

  abbrev Leaves : Inferred → List ℕ → Type 0
  Leaves r t' = (Γ : Assignment) (k : Leaf) → get_or s at 0 ≡ tag_word (leaf_tag k) → get_or s (at + 1) 0 ≤ largest k
      → length t ≡ 8192 → Scope s t Γ → Answers s t' at (at + 2) r (leaf_type no_world Γ k (get_or s (at + 1) 0))

  no_constant : (r : Inferred) (t' : List ℕ) → 2 < word_of w → Constants r t'
  no_constant r t' h unit g = absurd (omega arith)
  no_constant r t' h (bool false) g = absurd (omega arith)
  no_constant r t' h (bool true) g = absurd (omega arith)

  -- where nothing is written
  leafs : (r : Inferred) → Constants r t → Leaves r t → Leafs s at t r t
  leafs r c l = record { room = refl; keeps = λ k h. refl; constants = c; leaves = l }

  pub leaf_constant : (w ≡ UnitTag) ⊎ ((w ≡ False) ⊎ (w ≡ True)) → Leafs s at t (typed at (at + 1)) t
  unfolding basic_of
  leaf_constant h = leafs (typed at (at + 1)) go no
    where
      low : (w ≡ UnitTag) ⊎ ((w ≡ False) ⊎ (w ≡ True)) → word_of w < 3
      low (inl e) = omega (arith, ap word_of e)
      low (inr (inl e)) = omega (arith, ap word_of e)
      low (inr (inr e)) = omega (arith, ap word_of e)

      go : Constants (typed at (at + 1)) t
      go unit g = ans_basic s t at (at + 1) at unit_type _ refl (rw g)
      go (bool false) g = ans_basic s t at (at + 1) at bool_type _ refl (rw g)
      go (bool true) g = ans_basic s t at (at + 1) at bool_type _ refl (rw g)

      no : Leaves (typed at (at + 1)) t
      no Γ number g f l b = absurd (omega (arith, low h))
      no Γ variable g f l b = absurd (omega (arith, low h))
      no Γ location g f l b = absurd (omega (arith, low h))
      no Γ revision g f l b = absurd (omega (arith, low h))

  pub leaf_number : w ≡ Number → Leafs s at t (typed at (at + 2)) t
  unfolding basic_of
  leaf_number h = leafs (typed at (at + 2)) (no_constant (typed at (at + 2)) t (omega (arith, ap word_of h))) go
    where
      go : Leaves (typed at (at + 2)) t
      go Γ number g f l b = ans_basic s t at (at + 2) at num_type _ refl (rw g)
      go Γ variable g f l b = absurd (omega (arith, ap word_of h))
      go Γ location g f l b = absurd (omega (arith, ap word_of h))
      go Γ revision g f l b = absurd (omega (arith, ap word_of h))

  module _ (h : w ≡ Variable) (x : ℕ) (e : x ≡ get_or s (at + 1) 0) (n : ℕ) (m : n ≡ get_or t (2048 + x) 0) where
    noted : (Γ : Assignment) → Scope s t Γ → get_or s (at + 1) 0 ≤ 255 → Noted s n (Γ (get_or s (at + 1) 0))
    noted Γ b f =
        let z : n ≡ get_or t (2048 + get_or s (at + 1) 0) 0 = m ∙ ap (λ (y : ℕ). get_or t (2048 + y) 0) e in
        rw z (b (get_or s (at + 1) 0) (omega arith))

    pub leaf_free : n ≡ 0 → Leafs s at t (Err NoType) t
    unfolding Noted
    leaf_free z = leafs (Err NoType) (no_constant (Err NoType) t (omega (arith, ap word_of h))) go
      where
        unbound : (o : Maybe ScriptType) → Noted s n o → o ≡ none
        unbound none p = refl
        unbound (some A) p = absurd (p.0 z)

        go : Leaves (Err NoType) t
        go Γ number g f l b = absurd (omega (arith, ap word_of h))
        go Γ variable g f l b = ans_none s t at (at + 2) _ (unbound _ (noted Γ b f))
        go Γ location g f l b = absurd (omega (arith, ap word_of h))
        go Γ revision g f l b = absurd (omega (arith, ap word_of h))

    pub leaf_variable : (t' : List ℕ) → length s ≤ 2048 → at < length s → (n ≡ 0 → ⊥) → t' ≡ set t at n
        → Leafs s at t (typed at (at + 2)) t'
    unfolding Noted
    leaf_variable t' u v z y = record {
      room = ap length y ∙ length-set t at n;
      keeps = λ k d. ap (λ (l : List ℕ). get_or l k 0) y ∙ get_or-set_other t at k n 0 d;
      constants = no_constant (typed at (at + 2)) t' (omega (arith, ap word_of h));
      leaves = go;
    }
      where
        found : (o : Maybe ScriptType) → get_or t' at 0 ≡ n → Noted s n o
            → Answers s t' at (at + 2) (typed at (at + 2)) o
        found none d p = absurd (z p)
        found (some A) d p =
            ans_some s t' at (at + 2) at A _ refl
            (annotated s t' at (at + 2) at A (inr (sym q ∙ ap word_of h, omega arith, omega arith, rw d p.1)))

        go : Leaves (typed at (at + 2)) t'
        go Γ number g f l b = absurd (omega (arith, ap word_of h))
        go Γ variable g f l b =
            found (Γ (get_or s (at + 1) 0))
            (ap (λ (l : List ℕ). get_or l at 0) y ∙ get_or-set_same t at n 0 (omega arith))
            (noted Γ b f)
        go Γ location g f l b = absurd (omega (arith, ap word_of h))
        go Γ revision g f l b = absurd (omega (arith, ap word_of h))

  pub leaf_other : (w ≡ UnitTag → ⊥) → (w ≡ False → ⊥) → (w ≡ True → ⊥) → (w ≡ Number → ⊥) → (w ≡ Variable → ⊥)
      → Leafs s at t (Err NoType) t
  leaf_other a b c d e = leafs (Err NoType) none_of go
    where
      none_of : Constants (Err NoType) t
      none_of unit g = absurd (a (same_tag w UnitTag (q ∙ g)))
      none_of (bool false) g = absurd (b (same_tag w False (q ∙ g)))
      none_of (bool true) g = absurd (c (same_tag w True (q ∙ g)))

      go : Leaves (Err NoType) t
      go Γ number g f l h = absurd (d (same_tag w Number (q ∙ g)))
      go Γ variable g f l h = absurd (e (same_tag w Variable (q ∙ g)))
      go Γ location g f l h = ans_none s t at (at + 2) _ refl
      go Γ revision g f l h = ans_none s t at (at + 2) _ refl

  no_lambda : (w ≡ Lambda → ⊥) → get_or s at 0 ≡ 7 → ⊥
  no_lambda h z = h (same_tag w Lambda (q ∙ z))

  a_lambda : w ≡ Lambda → get_or s at 0 ≡ 7
  a_lambda h = sym q ∙ ap word_of h

  pub enter_other : (w ≡ Lambda → ⊥) → Enters s at t (Some (at + 1)) t
  unfolding entered
  enter_other h = record {
    room = refl;
    first = λ z. refl;
    body = λ A z. absurd (no_lambda h z);
    table = λ p e. simp (ne_eqb (get_or s at 0) 7 (no_lambda h));
    kept = λ z. refl;
  }

  pub enter_broken : (r : Option ℕ) → w ≡ Lambda → None ≡ walk_of (type_end s (at + 2)) → r ≡ None → Enters s at t r t
  enter_broken r h e z = record {
    room = refl;
    first = λ k. absurd (k (a_lambda h));
    body = λ A k u. absurd (ends_nowhere s (at + 2) e A u);
    table = λ p k. absurd (none-some p (sym z ∙ k));
    kept = λ k. refl;
  }

  module _ (h : w ≡ Lambda) (x old : ℕ) (t₁ t₂ : List ℕ) (a : x ≡ get_or s (at + 1) 0)
      (b : old ≡ get_or t (2048 + x) 0) (c : t₁ ≡ set t (at + 1) old) (d : t₂ ≡ set t₁ (2048 + x) (at + 2)) where
    noted_table : t₂ ≡ entered s at t
    unfolding entered
    noted_table = d ∙ rw (c, b, a, eq-eqb (get_or s at 0) 7 (a_lambda h))

    pub enter_lambda : (r : ℕ) → Some r ≡ walk_of (type_end s (at + 2)) → Enters s at t (Some r) t₂
    enter_lambda r e = record {
      room = ap length d ∙ length-set t₁ (2048 + x) (at + 2) ∙ ap length c ∙ length-set t (at + 1) old;
      first = λ z. absurd (z (a_lambda h));
      body = λ A z u. ap (λ (n : ℕ). Some n) (ends_of s (at + 2) r e A u);
      table = λ p z. noted_table;
      kept = λ z. absurd (none-some r (sym z));
    }

  pub leave_lambda : w ≡ Lambda → (a x old : ℕ) (t₁ t₂ : List ℕ) → x ≡ get_or s (at + 1) 0 → old ≡ get_or t (at + 1) 0
      → t₁ ≡ set t at a → t₂ ≡ set t₁ (2048 + x) old → t₂ ≡ ended s at a t
  unfolding ended
  leave_lambda h a x old t₁ t₂ b c d e = e ∙ rw (d, c, b, eq-eqb (get_or s at 0) 7 (a_lambda h))

  pub leave_other : (w ≡ Lambda → ⊥) → (a : ℕ) (t₁ : List ℕ) → t₁ ≡ set t at a → t₁ ≡ ended s at a t
  unfolding ended
  leave_other h a t₁ e = e ∙ rw (ne_eqb (get_or s at 0) 7 (no_lambda h))
