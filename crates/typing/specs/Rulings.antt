-- The rules on types that are held: what each function of a node's rule answers, said of every type that stands there.
use Rattle.std.specs.Prelude.{ℕ, ◌<◌, ◌+◌, ◌≤◌, cond, List, ◌≢◌, ◌≡◌, eqb, get_or, length, set}
use Rattle.std.specs.Prelude.{Option, Some, None, Result, Ok, Err}
use Rattle.std.proofs.Math.Option.{Option as Maybe, none, some}
use Rattle.typing.specs.declared.rules.Ask.{Ask}
use Rattle.typing.specs.declared.CheckError.{CheckError}
use Rattle.typing.specs.declared.CheckError.TheVariants.{NoType}
use Rattle.typing.specs.declared.rules.Typed.{Typed}
use Rattle.typing.specs.declared.types.Head.{Head}
use Rattle.calculus.specs.Expressions.{Leaf, Constant, One, Two, apply, assign, arithmetic}
use Rattle.calculus.specs.Options.{◌▸◌}
use Rattle.calculus.specs.Tags.{tag_word, constant_tag, leaf_tag, largest, one_tag, lambda_tag, two_tag}
use Rattle.calculus.specs.Types.{function, ScriptType, basic, unit_type, num_type}
use Rattle.calculus.specs.Typing.{Assignment, constant_type, leaf_type, no_world, one_type, as_function, as_reference}
use Rattle.calculus.specs.Typing.{equal, arithmetic_type, two_type, if_type}
use Rattle.calculus.specs.Words.{type_words}
use Rattle.typing.specs.Held.{Means, Written, HeadIs, Small}

-- what the check of a node answers
abbrev pub Inferred : Type 0
Inferred = Result Typed CheckError

-- the answer that the type is held at h, and that the node ends at e
abbrev pub typed : ℕ → ℕ → Inferred
typed h e = Ok (record { held = h; end = e })

-- an answer: the position of the type, and where the node ends; or that it has no type
unfoldable pub Answers : List ℕ → List ℕ → ℕ → ℕ → Inferred → Maybe ScriptType → Type 0
Answers s t i e r none = r ≡ Err NoType
Answers s t i e r (some A) = (h : ℕ) × (r ≡ typed h e) × Means s t i e h A

-- what the scope notes for a variable: 0, or where its annotation stands
unfoldable pub Noted : List ℕ → ℕ → Maybe ScriptType → Type 0
Noted s q none = q ≡ 0
Noted s q (some A) = (q ≡ 0 → ⊥) × Written s q A

-- the scope notes each variable's annotation
abbrev pub Scope : List ℕ → List ℕ → Assignment → Type 0
Scope s t Γ = (x : ℕ) → x < 256 → Noted s (get_or t (2048 + x) 0) (Γ x)

-- no child
pub record Leafs (s : List ℕ) (at : ℕ) (t : List ℕ) (r : Inferred) (t' : List ℕ) : Type 0 where
  pub room : length t' ≡ length t
  pub keeps : (k : ℕ) → k ≢ at → get_or t' k 0 ≡ get_or t k 0
  pub constants : (c : Constant) → get_or s at 0 ≡ tag_word (constant_tag c)
      → Answers s t' at (at + 1) r (some (constant_type c))
  pub leaves : (Γ : Assignment) (k : Leaf) → get_or s at 0 ≡ tag_word (leaf_tag k) → get_or s (at + 1) 0 ≤ largest k
      → length t ≡ 8192 → Scope s t Γ
      → Answers s t' at (at + 2) r (leaf_type no_world Γ k (get_or s (at + 1) 0))

-- where the scope notes the variable of the lambda at `at`
abbrev pub note_at : List ℕ → ℕ → ℕ
note_at s at = 2048 + get_or s (at + 1) 0

-- a lambda notes its annotation in the scope, and in the table what was noted before
unfoldable pub entered : List ℕ → ℕ → List ℕ → List ℕ
entered s at t =
    cond (eqb (get_or s at 0) 7) (set (set t (at + 1) (get_or t (note_at s at) 0)) (note_at s at) (at + 2)) t

-- where the first child starts, or none where no annotation stands in a lambda; and what is noted
pub record Enters (s : List ℕ) (at : ℕ) (t : List ℕ) (r : Option ℕ) (t' : List ℕ) : Type 0 where
  pub room : length t' ≡ length t
  pub first : (get_or s at 0 ≡ 7 → ⊥) → r ≡ Some (at + 1)
  pub body : (A : ScriptType) → get_or s at 0 ≡ 7 → Written s (at + 2) A → r ≡ Some (at + 2 + length (type_words A))
  pub table : (p : ℕ) → r ≡ Some p → t' ≡ entered s at t
  pub kept : r ≡ None → t' ≡ t

-- every node notes its first child's type as its link, and a lambda gives the scope back
unfoldable pub ended : List ℕ → ℕ → ℕ → List ℕ → List ℕ
ended s at a t =
    cond (eqb (get_or s at 0) 7) (set (set t at a) (note_at s at) (get_or t (at + 1) 0)) (set t at a)

-- the rules, of a node at `at` that ends at e, whose first child has the type at a, which is its link
pub record RuleOne (s t : List ℕ) (at a e : ℕ) (r : Inferred) : Type 0 where
  pub one : (i : ℕ) (o : One) (A : ScriptType) → get_or s at 0 ≡ tag_word (one_tag o) → i ≤ at → at < e
      → get_or t at 0 ≡ a → Means s t i e a A → Answers s t i e r (one_type o A)
  pub lambda : (i : ℕ) (A B : ScriptType) → get_or s at 0 ≡ tag_word lambda_tag → i ≤ at → at < e
      → get_or t at 0 ≡ a → Written s (at + 2) A → Means s t i e a B → Answers s t i e r (some (function A B))

-- a first child's type taken apart: what the second child's type must be, and what the node's is
abbrev pub opens : Two → ScriptType → Maybe (ScriptType × ScriptType)
opens apply A = as_function A
opens assign A = as_reference A ▸ λ B. some (B, basic unit_type)
opens (arithmetic o) A = equal A (basic num_type) ▸ λ u. some (basic num_type, arithmetic_type o)

-- what is asked for a first child of type A: none where A has another head
pub record Opens (s t : List ℕ) (i e : ℕ) (o : Two) (A : ScriptType) (k : Option Ask) : Type 0 where
  pub yes : (a : Ask) → k ≡ Some a
      → (C D : ScriptType) × (opens o A ≡ some (C, D)) × Means s t i e a.want C × Means s t i e a.gives D
      × (length (type_words C) ≤ length (type_words A))
  pub no : k ≡ None → opens o A ≡ none

pub record Asks (s : List ℕ) (at a : ℕ) (h : Head) (k : Option Ask) : Type 0 where
  pub is : (t : List ℕ) (i e : ℕ) (o : Two) (A : ScriptType) → get_or s at 0 ≡ tag_word (two_tag o)
      → HeadIs s t i e A (Some h) → Means s t i e a A → Opens s t i e o A k

pub record RuleTwo (s t : List ℕ) (at b e : ℕ) (r : Inferred) : Type 0 where
  pub two : (i : ℕ) (o : Two) (A B : ScriptType) → get_or s at 0 ≡ tag_word (two_tag o) → Small A
      → Means s t i e (get_or t at 0) A → Means s t i e b B → Answers s t i e r (two_type o A B)

pub record RuleThree (s t : List ℕ) (at b c e : ℕ) (r : Inferred) : Type 0 where
  pub three : (i : ℕ) (A B C : ScriptType) → Small B → Means s t i e (get_or t at 0) A → Means s t i e b B
      → Means s t i e c C → Answers s t i e r (if_type A B C)
