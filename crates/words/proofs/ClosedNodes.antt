-- Where an expression ends whose free variables are marked: one law for each kind of node.
use Prim.Native.Nat.{ℕ, zero, suc, ◌+◌, ◌<◌, ◌≤◌}
use mathlib.Core.Bool.{Bool, true, false}
use mathlib.Core.List.{List, ◌++◌}
use mathlib.Core.Option.{Option, none, some}
use mathlib.Core.Path.{◌≡◌, refl, ap, ◌∙◌}
use native.Mathlib.Omega.{arith}
use lib.ListN.{length, get_or, drop, set, length-append}
use Rattle.calculus.specs.Options.{◌▸◌, test}
use Rattle.calculus.specs.Types.{ScriptType}
use Rattle.calculus.specs.Expressions.{Leaf, One, Two, Expression, leaf, lambda, one, two, if}
use Rattle.calculus.specs.Tags.{Tag, leaf_tag, lambda_tag, one_tag, two_tag, if_tag, largest}
use Rattle.calculus.specs.Words.{words, type_words}
use Rattle.calculus.specs.Reading.{type_end, read_type, read_expression, read_parts}
use Rattle.words.specs.Scopes.{closed_under, closed_end}
use Rattle.words.proofs.Nodes.{▸-assoc}
use Rattle.words.proofs.ClosedReading.{read_rest, type_rest, own_read}

-- where n such expressions that stand one after the other from `at` on end
unfoldable pub closed_ends : List ℕ → List Bool → ℕ → ℕ → Option ℕ
closed_ends s scope zero at = some at
closed_ends s scope (suc n) at = closed_end s scope at ▸ λ e. closed_ends s scope n e

bind_none : {A B : Type 0} (m : Option A) (f : A → Option B) → ((a : A) → f a ≡ none) → (m ▸ f) ≡ none
bind_none none f h = refl
bind_none (some a) f h = h a

-- the end of an expression that was read, if its free variables are marked
abbrev pub end_if : List Bool → ℕ → Expression × List ℕ → Option ℕ
end_if scope at p = test (closed_under scope p.0) ▸ λ u. some (at + length (words p.0))

module _ (s : List ℕ) (scope : List Bool) where
  abbrev Read : Type 0
  Read = Expression × List ℕ

  abbrev reader : List ℕ → Option Read
  reader ws = read_expression (length s) ws

  -- going on with an expression that was read, as going on from where it ends
  follow : (at : ℕ) (f : Read → Option ℕ) (g : ℕ → Option ℕ)
      → ((a : Expression) → closed_under scope a ≡ true
      → f (a, drop (at + length (words a)) s) ≡ g (at + length (words a)))
      → ((a : Expression) (r : List ℕ) → closed_under scope a ≡ false → f (a, r) ≡ none)
      → (reader (drop at s) ▸ f) ≡ (closed_end s scope at ▸ g)
  unfolding closed_end
  follow at f g right free = go (reader (drop at s)) refl
    where
      marked : (b : Bool) (a : Expression) (r : List ℕ) → closed_under scope a ≡ b → r ≡ drop (at + length (words a)) s
          → f (a, r) ≡ (test b ▸ λ u. some (at + length (words a))) ▸ g
      marked true a r e q = ap (λ v. f (a, v)) q ∙ right a e
      marked false a r e q = free a r e

      go : (m : Option Read) → reader (drop at s) ≡ m → (m ▸ f) ≡ ((m ▸ end_if scope at) ▸ g)
      go none e = refl
      go (some (a, r)) e = marked (closed_under scope a) a r refl (read_rest s at a r e)

  pub end_one : (at : ℕ) (o : One)
      → (read_parts (λ v. read_type (length s) v) reader (one_tag o) (drop (at + 1) s) ▸ end_if scope at)
      ≡ closed_ends s scope 1 (at + 1)
  unfolding closed_ends closed_under words
  end_one at o =
      ▸-assoc (reader (drop (at + 1) s)) (λ p. some (one o p.0, p.1)) (end_if scope at)
      ∙ follow (at + 1) (λ p. end_if scope at (one o p.0, p.1)) (λ e. some e)
      (λ a e. rw e (ap some (omega arith)))
      (λ a r e. rw e refl)

  pub end_two : (at : ℕ) (o : Two)
      → (read_parts (λ v. read_type (length s) v) reader (two_tag o) (drop (at + 1) s) ▸ end_if scope at)
      ≡ closed_ends s scope 2 (at + 1)
  unfolding closed_ends closed_under words
  end_two at o =
      ▸-assoc (reader (drop (at + 1) s)) (λ p. reader p.1 ▸ λ q. some (two o p.0 q.0, q.1)) (end_if scope at)
      ∙ follow (at + 1) (λ p. (reader p.1 ▸ λ q. some (two o p.0 q.0, q.1)) ▸ end_if scope at)
      (λ e. closed_end s scope e ▸ λ e. some e)
      (λ a e.
      ▸-assoc (reader (drop (at + 1 + length (words a)) s)) (λ q. some (two o a q.0, q.1)) (end_if scope at)
      ∙ follow (at + 1 + length (words a)) (λ q. end_if scope at (two o a q.0, q.1)) (λ e. some e)
      (λ b f. rw (e, f) (ap some (omega (arith, length-append (words a) (words b)))))
      (λ b r f. rw (e, f) refl))
      (λ a r e.
      ▸-assoc (reader r) (λ q. some (two o a q.0, q.1)) (end_if scope at)
      ∙ bind_none (reader r) (λ q. end_if scope at (two o a q.0, q.1)) (λ q. rw e refl))

  pub end_if_lem : (at : ℕ)
      → (read_parts (λ v. read_type (length s) v) reader if_tag (drop (at + 1) s) ▸ end_if scope at)
      ≡ closed_ends s scope 3 (at + 1)
  unfolding closed_ends closed_under words
  end_if_lem at =
      ▸-assoc (reader (drop (at + 1) s))
      (λ p. reader p.1 ▸ λ q. reader q.1 ▸ λ t. some (if p.0 q.0 t.0, t.1)) (end_if scope at)
      ∙ follow (at + 1)
      (λ p. (reader p.1 ▸ λ q. reader q.1 ▸ λ t. some (if p.0 q.0 t.0, t.1)) ▸ end_if scope at)
      (λ e. closed_end s scope e ▸ λ e. closed_end s scope e ▸ λ e. some e)
      (λ a e. second a e)
      (λ a r e.
      ▸-assoc (reader r) (λ q. reader q.1 ▸ λ t. some (if a q.0 t.0, t.1)) (end_if scope at)
      ∙ bind_none (reader r) (λ q. (reader q.1 ▸ λ t. some (if a q.0 t.0, t.1)) ▸ end_if scope at)
      (λ q.
      ▸-assoc (reader q.1) (λ t. some (if a q.0 t.0, t.1)) (end_if scope at)
      ∙ bind_none (reader q.1) (λ t. end_if scope at (if a q.0 t.0, t.1)) (λ t. rw e refl)))
    where
      third : (a b : Expression) → closed_under scope a ≡ true → closed_under scope b ≡ true → (p : ℕ)
          → p ≡ at + 1 + length (words a) + length (words b)
          → ((reader (drop p s) ▸ λ t. some (if a b t.0, t.1)) ▸ end_if scope at)
          ≡ (closed_end s scope p ▸ λ e. some e)
      third a b e f p i =
          ▸-assoc (reader (drop p s)) (λ t. some (if a b t.0, t.1)) (end_if scope at)
          ∙ follow p (λ t. end_if scope at (if a b t.0, t.1)) (λ e. some e)
          (λ c g.
          rw (e, f, g)
          (ap some
          (omega (arith, length-append (words a) (words b ++ words c), length-append (words b) (words c)))))
          (λ c r g. rw (e, f, g) refl)

      second : (a : Expression) → closed_under scope a ≡ true
          → ((reader (drop (at + 1 + length (words a)) s) ▸ λ q. reader q.1 ▸ λ t. some (if a q.0 t.0, t.1))
          ▸ end_if scope at)
          ≡ (closed_end s scope (at + 1 + length (words a)) ▸ λ e. closed_end s scope e ▸ λ e. some e)
      second a e =
          ▸-assoc (reader (drop (at + 1 + length (words a)) s))
          (λ q. reader q.1 ▸ λ t. some (if a q.0 t.0, t.1)) (end_if scope at)
          ∙ follow (at + 1 + length (words a))
          (λ q. (reader q.1 ▸ λ t. some (if a q.0 t.0, t.1)) ▸ end_if scope at)
          (λ e. closed_end s scope e ▸ λ e. some e)
          (λ b f. third a b e f (at + 1 + length (words a) + length (words b)) refl)
          (λ b r f.
          ▸-assoc (reader r) (λ t. some (if a b t.0, t.1)) (end_if scope at)
          ∙ bind_none (reader r) (λ t. end_if scope at (if a b t.0, t.1)) (λ t. rw (e, f) refl))

-- a type that was read ends where `type_end` says
follow_type : (s : List ℕ) (at : ℕ) (f : ScriptType × List ℕ → Option ℕ) (g : ℕ → Option ℕ)
    → ((A : ScriptType) → f (A, drop (at + length (type_words A)) s) ≡ g (at + length (type_words A)))
    → (read_type (length s) (drop at s) ▸ f) ≡ (type_end s at ▸ g)
unfolding type_end
follow_type s at f g same = go (read_type (length s) (drop at s)) refl
  where
    go : (m : Option (ScriptType × List ℕ)) → read_type (length s) (drop at s) ≡ m
        → (m ▸ f) ≡ ((m ▸ λ p. some (at + length (type_words p.0))) ▸ g)
    go none e = refl
    go (some (A, r)) e = ap (λ v. f (A, v)) (type_rest s at A r e) ∙ same A

pub bind_some : {A : Type 0} (m : Option A) → (m ▸ λ a. some a) ≡ m
bind_some none = refl
bind_some (some a) = refl

module _ (s : List ℕ) (scope : List Bool) (at : ℕ) where
  -- what follows the tag of the node at `at`
  abbrev pub parts : Tag → Option (Expression × List ℕ)
  parts t = read_parts (λ v. read_type (length s) v) (λ v. read_expression (length s) v) t (drop (at + 1) s)

  module _ (h : at + 1 < length s) where
    pub end_leaf : (k : Leaf) → get_or s (at + 1) 0 ≤ largest k
        → (parts (leaf_tag k) ▸ end_if scope at)
        ≡ (test (closed_under scope (leaf k (get_or s (at + 1) 0))) ▸ λ u. some (at + 1 + 1))
    unfolding words
    end_leaf k l = rw (own_read s (at + 1) (largest k) h l) (marked (closed_under scope (leaf k (get_or s (at + 1) 0))))
      where
        marked : (b : Bool) → (test b ▸ λ u. some (at + 2)) ≡ (test b ▸ λ u. some (at + 1 + 1))
        marked true = ap some (omega arith)
        marked false = refl

    pub end_lambda : get_or s (at + 1) 0 ≤ 255
        → (parts lambda_tag ▸ end_if scope at)
        ≡ (type_end s (at + 1 + 1) ▸ λ b. closed_end s (set scope (get_or s (at + 1) 0) true) b)
    unfolding words closed_under
    end_lambda l =
        let x = get_or s (at + 1) 0 in
        rw (own_read s (at + 1) 255 h l)
        (▸-assoc (read_type (length s) (drop (at + 1 + 1) s))
        (λ A. read_expression (length s) A.1 ▸ λ q. some (lambda x A.0 q.0, q.1)) (end_if scope at)
        ∙ follow_type s (at + 1 + 1)
        (λ A. (read_expression (length s) A.1 ▸ λ q. some (lambda x A.0 q.0, q.1)) ▸ end_if scope at)
        (λ b. closed_end s (set scope x true) b)
        (λ A. body x A))
      where
        body : (x : ℕ) (A : ScriptType)
            → ((read_expression (length s) (drop (at + 1 + 1 + length (type_words A)) s)
            ▸ λ q. some (lambda x A q.0, q.1))
            ▸ end_if scope at)
            ≡ closed_end s (set scope x true) (at + 1 + 1 + length (type_words A))
        body x A =
            ▸-assoc (read_expression (length s) (drop (at + 1 + 1 + length (type_words A)) s))
            (λ q. some (lambda x A q.0, q.1)) (end_if scope at)
            ∙ follow s (set scope x true) (at + 1 + 1 + length (type_words A))
            (λ q. end_if scope at (lambda x A q.0, q.1)) (λ e. some e)
            (λ a e. rw e (ap some (omega (arith, length-append (type_words A) (words a)))))
            (λ a r e. rw e refl)
            ∙ bind_some (closed_end s (set scope x true) (at + 1 + 1 + length (type_words A)))
