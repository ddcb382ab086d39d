-- The fixed examples marked P (01, "Fixed examples"), as one table, and what it means that a row holds.
use Rattle.std.specs.Prelude.{ℕ, List, [], ◌∷◌, Bool, true, false, ◌&&◌, eqb}
use Rattle.calculus.specs.Answers.{Answer, step_answer, load_answer, check_answer}

pub data Example : Type 0 where
  -- image, pick, answer, image after
  stepping : List ℕ → ℕ → ℕ → List ℕ → Example
  -- script, answer, the type's words
  checking : List ℕ → ℕ → List ℕ → Example
  -- script, the expression that its first step leaves
  first_step : List ℕ → List ℕ → Example

abbrev pub table : List Example
table =
    stepping (1 ∷ 0 ∷ 0 ∷ 0 ∷ 10 ∷ 2 ∷ []) 0 0 (1 ∷ 0 ∷ 0 ∷ 1 ∷ 0 ∷ 2 ∷ 5 ∷ 0 ∷ [])
    ∷ stepping (1 ∷ 0 ∷ 0 ∷ 0 ∷ 11 ∷ 5 ∷ 3 ∷ []) 0 5 []
    ∷ stepping (1 ∷ 0 ∷ 0 ∷ 0 ∷ 8 ∷ 0 ∷ 0 ∷ []) 0 4 []
    ∷ stepping (1 ∷ 0 ∷ 0 ∷ 0 ∷ 8 ∷ 0 ∷ 0 ∷ []) 64 6 []
    ∷ stepping (1 ∷ 0 ∷ 0 ∷ 0 ∷ 14 ∷ 6 ∷ 9 ∷ []) 0 1 (0 ∷ [])
    ∷ stepping (1 ∷ 0 ∷ 0 ∷ 0 ∷ 14 ∷ 6 ∷ 0 ∷ []) 0 3 []
    ∷ stepping (1 ∷ 0 ∷ 0 ∷ 0 ∷ 8 ∷ 6 ∷ 1 ∷ 13 ∷ 0 ∷ []) 0 0
    (2 ∷ 0 ∷ 0 ∷ 0 ∷ 8 ∷ 6 ∷ 1 ∷ 6 ∷ 2 ∷ 2 ∷ 0 ∷ 0 ∷ 0 ∷ [])
    ∷ stepping (2 ∷ 0 ∷ 0 ∷ 1 ∷ 0 ∷ 1 ∷ 14 ∷ 6 ∷ 1 ∷ 1 ∷ 1 ∷ 0 ∷ 2 ∷ 1 ∷ 0 ∷ 2 ∷ 0 ∷ []) 0 0
    (1 ∷ 0 ∷ 0 ∷ 1 ∷ 0 ∷ 2 ∷ 0 ∷ [])
    ∷ stepping (2 ∷ 0 ∷ 0 ∷ 1 ∷ 0 ∷ 1 ∷ 14 ∷ 6 ∷ 1 ∷ 1 ∷ 1 ∷ 0 ∷ 2 ∷ 0 ∷ 0 ∷ []) 0 0
    (1 ∷ 0 ∷ 0 ∷ 1 ∷ 0 ∷ 1 ∷ 0 ∷ [])
    ∷ stepping (1 ∷ 0 ∷ 0 ∷ 0 ∷ 15 ∷ 3 ∷ 32767 ∷ 3 ∷ 1 ∷ []) 0 0 (1 ∷ 0 ∷ 0 ∷ 0 ∷ 3 ∷ 32768 ∷ [])
    ∷ stepping (1 ∷ 0 ∷ 0 ∷ 0 ∷ 17 ∷ 3 ∷ 65535 ∷ 3 ∷ 0 ∷ []) 0 0 (1 ∷ 0 ∷ 0 ∷ 0 ∷ 2 ∷ [])
    ∷ checking (8 ∷ 7 ∷ 0 ∷ 32 ∷ 7 ∷ 0 ∷ 33 ∷ 4 ∷ 0 ∷ 0 ∷ []) 0 (37 ∷ 33 ∷ 33 ∷ [])
    ∷ first_step (8 ∷ 7 ∷ 0 ∷ 32 ∷ 7 ∷ 0 ∷ 33 ∷ 4 ∷ 0 ∷ 0 ∷ []) (7 ∷ 0 ∷ 33 ∷ 4 ∷ 0 ∷ [])
    ∷ checking (9 ∷ 2 ∷ 0 ∷ 1 ∷ []) 13 []
    ∷ []

-- "Errors that look right": for each, a step that it would get wrong
abbrev pub look_right : List Example
look_right =
    -- a new revision number that skips live ones only
    stepping (1 ∷ 0 ∷ 0 ∷ 0 ∷ 13 ∷ 6 ∷ 1 ∷ []) 0 0 (2 ∷ 0 ∷ 0 ∷ 0 ∷ 6 ∷ 2 ∷ 2 ∷ 0 ∷ 0 ∷ 6 ∷ 1 ∷ [])
    -- a child that gets the parent's local store without the snapshot
    ∷ stepping (1 ∷ 0 ∷ 1 ∷ 3 ∷ 2 ∷ 0 ∷ 13 ∷ 0 ∷ []) 0 0
    (2 ∷ 0 ∷ 1 ∷ 3 ∷ 2 ∷ 0 ∷ 6 ∷ 1 ∷ 1 ∷ 1 ∷ 3 ∷ 2 ∷ 0 ∷ 0 ∷ [])
    -- a join that keeps the parent's write where both wrote
    ∷ stepping (2 ∷ 0 ∷ 0 ∷ 1 ∷ 4 ∷ 1 ∷ 14 ∷ 6 ∷ 5 ∷ 5 ∷ 0 ∷ 1 ∷ 4 ∷ 2 ∷ 0 ∷ []) 0 0
    (1 ∷ 0 ∷ 0 ∷ 1 ∷ 4 ∷ 2 ∷ 0 ∷ [])
    -- waiting, instead of the empty state, on a task that is gone
    ∷ stepping (2 ∷ 0 ∷ 0 ∷ 0 ∷ 14 ∷ 6 ∷ 9 ∷ 4 ∷ 0 ∷ 0 ∷ 13 ∷ 0 ∷ []) 0 1 (0 ∷ [])
    -- taking 65535 as larger than 0 in less
    ∷ stepping (1 ∷ 0 ∷ 0 ∷ 0 ∷ 17 ∷ 3 ∷ 0 ∷ 3 ∷ 65535 ∷ []) 0 0 (1 ∷ 0 ∷ 0 ∷ 0 ∷ 1 ∷ [])
    ∷ []

unfoldable pub same_words : List ℕ → List ℕ → Bool
same_words [] [] = true
same_words [] (y ∷ ys) = false
same_words (x ∷ xs) [] = false
same_words (x ∷ xs) (y ∷ ys) = eqb x y && same_words xs ys

abbrev pub comes_to : Answer → ℕ → List ℕ → Bool
comes_to a n ws = eqb a.number n && same_words a.written ws

-- every buffer has 8,192 words
unfoldable pub holds : Example → Bool
holds (stepping image pick n after) = comes_to (step_answer image pick 8192 8192) n after
holds (checking script n type) = comes_to (check_answer script 8192 8192) n type
holds (first_step script e) =
    comes_to (step_answer (load_answer script 8192 8192).written 0 8192 8192) 0 (1 ∷ 0 ∷ 0 ∷ 0 ∷ e)

unfoldable pub all_hold : List Example → Bool
all_hold [] = true
all_hold (e ∷ es) = holds e && all_hold es
