-- A held type written out, head by head.
use Rattle.std.specs.Prelude.{ℕ, ◌≤◌, ◌+◌, ◌<◌, List, ◌∷◌, [], ◌≡◌, length, Some}
use Rattle.std.proofs.lemmas.List.Edits.{sets}
use Rattle.typing.specs.declared.types.Head.{Head}
use Rattle.calculus.specs.Tags.{type_tag_word, basic_tag}
use Rattle.calculus.specs.Types.{ScriptType, basic, reference, function}
use Rattle.calculus.specs.Words.{type_words}
use Rattle.typing.specs.Held.{HeadIs, Means, Small}

abbrev pub head_words : ScriptType → List ℕ
head_words (basic b) = type_tag_word (basic_tag b) ∷ []
head_words (reference A) = 36 ∷ []
head_words (function A B) = 37 ∷ type_words A

pub record WroteHead (s : List ℕ) (h : Head) (o : List ℕ) (to r : ℕ) (o' : List ℕ) : Type 0 where
  pub few : r ≤ to + 2049
  pub more : to < r
  pub end : (t : List ℕ) (i j : ℕ) (A : ScriptType) → HeadIs s t i j A (Some h) → r ≡ to + length (head_words A)
  pub is : (t : List ℕ) (i j : ℕ) (A : ScriptType) → HeadIs s t i j A (Some h) → o' ≡ sets o to (head_words A)

-- of a type of at most 4,096 words: its words and how many they are; of a longer one: more than 4,096
pub record WroteType (s t : List ℕ) (p : ℕ) (o : List ℕ) (r : ℕ) (o' : List ℕ) : Type 0 where
  pub end : (i j : ℕ) (A : ScriptType) → Means s t i j p A → Small A → r ≡ length (type_words A)
  pub is : (i j : ℕ) (A : ScriptType) → Means s t i j p A → Small A → o' ≡ sets o 0 (type_words A)
  pub long : (i j : ℕ) (A : ScriptType) → Means s t i j p A → 4096 < length (type_words A) → 4096 < r
