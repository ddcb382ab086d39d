-- The check of an expression that stands in the script, and of a node's children after the first.
use Rattle.std.specs.Prelude.{ℕ, ◌<◌, ◌≤◌, ◌+◌, List, ◌++◌, [], ◌∷◌, ◌⊎◌, ◌≡◌, get_or, drop, length}
use Rattle.std.proofs.Math.Option.{Option, none, some}
use Rattle.calculus.specs.Expressions.{Expression, two, Two, if}
use Rattle.calculus.specs.Formed.{Formed}
use Rattle.calculus.specs.Tags.{tag_word, two_tag, if_tag}
use Rattle.calculus.specs.Types.{ScriptType}
use Rattle.calculus.specs.Typing.{Assignment, type_of, no_world}
use Rattle.calculus.specs.Words.{words}
use Rattle.words.specs.Names.{all_words, AllFormed}
use Rattle.typing.specs.Held.{Means, Small}
use Rattle.typing.specs.Rulings.{Scope, Answers, Inferred}

-- nothing but the places from i up to j has changed
abbrev pub Keeps : ℕ → ℕ → List ℕ → List ℕ → Type 0
Keeps i j t t' = (k : ℕ) → (k < i) ⊎ (j ≤ k) → get_or t' k 0 ≡ get_or t k 0

abbrev pub Kept : ℕ → ℕ → List ℕ → List ℕ → Option ScriptType → Type 0
Kept i j t t' none = Unit {0}
Kept i j t t' (some A) = Keeps i j t t'

-- the expression e of at most `left` words stands at `at`, and Γ is in scope
pub record Stands (s t : List ℕ) (at left : ℕ) (e : Expression) (Γ : Assignment) : Type 0 where
  pub rest : List ℕ
  pub is : drop at s ≡ words e ++ rest
  pub few : length (words e) ≤ left
  pub formed : Formed e
  pub room : length t ≡ 8192
  pub scope : Scope s t Γ

-- the answer for e at `at`, where the table was t before and is t' now
pub record Settled (s : List ℕ) (at : ℕ) (e : Expression) (Γ : Assignment) (t : List ℕ) (r : Inferred) (t' : List ℕ)
    : Type 0 where
  pub is : Answers s t' at (at + length (words e)) r (type_of no_world Γ e)
  pub kept : Kept at (at + length (words e)) t t' (type_of no_world Γ e)

pub record Infers (s : List ℕ) (at left : ℕ) (t : List ℕ) (r : Inferred) (t' : List ℕ) : Type 0 where
  pub room : length t' ≡ length t
  pub settles : (e : Expression) (Γ : Assignment) → Stands s t at left e Γ → Settled s at e Γ t r t'

-- f is reached in the node at `at`, which ends at `end`; the children `todo` are to come
pub record Passed (s t : List ℕ) (at f left : ℕ) (t' : List ℕ) (Γ : Assignment) (todo : List Expression) (end : ℕ)
    : Type 0 where
  pub rest : List ℕ
  pub is : drop f s ≡ all_words todo ++ rest
  pub few : length (all_words todo) ≤ left
  pub formed : AllFormed todo
  pub room : length t' ≡ 8192
  pub scope : Scope s t Γ
  pub keeps : Keeps at f t t'
  pub low : at < f
  pub high : f ≤ length s
  pub size : f + length (all_words todo) ≡ end

-- after the first child d of e, whose type is held at p, which is the link of the node at `at`
pub record First (s t : List ℕ) (at f left : ℕ) (t₃ : List ℕ) (e : Expression) (Γ : Assignment) (d : Expression)
    (Δ : Assignment) (es : List Expression) (p : ℕ) : Type 0 where
  pub pass : Passed s t at f left t₃ Γ es (at + length (words e))
  pub type : ScriptType
  pub typed : type_of no_world Δ d ≡ some type
  pub means : Means s t₃ at f p type
  pub small : Small type
  pub link : get_or t₃ at 0 ≡ p

-- the children after the first, where f is reached
pub record Goes (s : List ℕ) (at left : ℕ) (t₃ : List ℕ) (f : ℕ) (r : Inferred) (t' : List ℕ) : Type 0 where
  pub room : length t' ≡ length t₃
  pub two : (o : Two) (a b : Expression) (Γ : Assignment) (t : List ℕ) (p : ℕ) → get_or s at 0 ≡ tag_word (two_tag o)
      → First s t at f left t₃ (two o a b) Γ a Γ (b ∷ []) p → Settled s at (two o a b) Γ t r t'
  pub three : (a b c : Expression) (Γ : Assignment) (t : List ℕ) (p : ℕ) → get_or s at 0 ≡ tag_word if_tag
      → First s t at f left t₃ (if a b c) Γ a Γ (b ∷ c ∷ []) p → Settled s at (if a b c) Γ t r t'
