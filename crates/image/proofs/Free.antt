-- The first clear mark is the smallest number that is not taken.
use Prim.Native.Nat.{ℕ, ◌+◌, ◌≤◌, ◌<◌}
use mathlib.Core.Bool.{Bool, false}
use mathlib.Core.List.{List}
use mathlib.Core.Option.{Option as Maybe, none, some}
use Rattle.std.specs.Prelude.{Option, Some, None, not}
use Rattle.std.specs.List.{position, position_or_len}
use Rattle.std.proofs.lemmas.Bool.{not-true, not-false}
use Rattle.std.proofs.lemmas.Grind.{common_steps}
use Rattle.std.proofs.lemmas.List.Quantifiers.{position-Some}
use Rattle.std.proofs.lemmas.List.Sums.{fails_before_first}
use mathlib.Core.Path.{◌≡◌, refl, sym, ap, ◌∙◌}
use native.Mathlib.Omega.{arith}
use lib.ListN.{length, get_or}
use Rattle.calculus.specs.Formed.{member}
use Rattle.calculus.specs.NewNumbers.{smallest, taken_locations, taken_revisions}
use Rattle.calculus.specs.Answers.{marks_of}
use Rattle.calculus.proofs.NewNumbers.{smallest_is, is_smallest}
use Rattle.calculus.proofs.Places.{true≢false}
use Rattle.words.proofs.Marks.{marks_of_length, marks_of_member}
use Rattle.image.specs.Marks.{ImageMarks}
use Rattle.image.specs.Fresh.{as_option, SmallestClear, NewRevision, NewLocation}

-- where none passes
position-None : {X : Type 0} (p : X → Bool) (xs : List X) (k : ℕ) (d : X) → position p xs ≡ None → k < length xs
    → p (get_or xs k d) ≡ false
position-None p xs k d e h =
    let inside : length xs ≤ position_or_len p xs = grind (arith, common_steps) in
    fails_before_first p xs k d (omega arith)

-- of marks of numbers that are taken
module _ (n : ℕ) (taken : List ℕ) (m : List Bool) (e : m ≡ marks_of n 0 taken) where
  long : length m ≡ n
  long = ap length e ∙ marks_of_length n 0 taken

  mark_is : (k : ℕ) → k < n → member k taken ≡ get_or m k false
  mark_is k h =
      let z : 0 + k ≡ k = omega arith in
      sym
      (ap (λ (l : List Bool). get_or l k false) e
      ∙ marks_of_member n 0 taken k h
      ∙ ap (λ (j : ℕ). member j taken) z)

  place_smallest : (o : Option ℕ) → o ≡ position not m → as_option o ≡ smallest n 0 taken
  place_smallest (Some i) p =
      let w = long in
      let (l, clear, set) = position-Some not m i false (sym p) in
      sym
      (is_smallest n 0 taken i
      (record {
        low = omega arith;
        high = omega arith;
        free = mark_is i (omega arith) ∙ not-true (get_or m i false) clear;
        least = λ k a b. mark_is k (omega arith) ∙ not-false (get_or m k false) (set k b);
      }))
  place_smallest None p = go (smallest n 0 taken) refl
    where
      go : (o : Maybe ℕ) → smallest n 0 taken ≡ o → none ≡ smallest n 0 taken
      go none q = sym q
      go (some j) q =
          let w = long in
          let x = smallest_is n 0 taken q in
          let h : j < n = let y = x.high in omega arith in
          true≢false
          (sym (mark_is j h ∙ not-false (get_or m j false) (position-None not m j false (sym p) (omega arith)))
          ∙ x.free)

pub smallest_place : (m : List Bool) (r : Option ℕ) → r ≡ position not m → SmallestClear m r
smallest_place m r p = record { free = λ n taken e. place_smallest n taken m e r p }

-- of the marks of an image
pub revision_found : (s : List ℕ) (m : List Bool) (r : Option ℕ) → ImageMarks taken_revisions 64 s m → SmallestClear m r
    → NewRevision s r
revision_found s m r g f = record { is = λ x v e. f.free 64 (taken_revisions x) (g.marks x v e) }

pub location_found : (s : List ℕ) (m : List Bool) (r : Option ℕ) → ImageMarks taken_locations 256 s m → SmallestClear m r
    → NewLocation s r
location_found s m r g f = record { is = λ x v e. f.free 256 (taken_locations x) (g.marks x v e) }
