-- Marks of numbers: what is marked, how many, and one more.
use Prim.Native.Nat.{ℕ, zero, suc, ◌+◌, ◌<◌, ◌≤◌}
use mathlib.Core.Path.{◌≡◌, refl, sym, ap, ◌∙◌}
use mathlib.Core.Bool.{Bool, true, false, ◌||◌}
use mathlib.Core.List.{List, [], ◌∷◌, ◌++◌}
use native.Mathlib.Nat.{le_of_suc-le-suc, add-zero}
use native.Mathlib.Decide.{ℕ_discrete}
use native.Mathlib.Omega.{arith}
use lib.ListN.{length, get_or, set, length-set, replicate, get_or-replicate, length-replicate}
use lib.Seq.{get_or-set_same, get_or-set_other, ext_get_or}
use lib.Dec.{eqb}
use Rattle.calculus.specs.Formed.{member}
use Rattle.calculus.specs.Answers.{tally, marks_of}
use Rattle.calculus.proofs.Options.{eqb_same, eqb_other}
use Rattle.words.specs.Marks.{mark_all}

-- the numbers of two lists, one after the other
pub mark_all_append : (ns ks : List ℕ) (m : List Bool) → mark_all (ns ++ ks) m ≡ mark_all ks (mark_all ns m)
unfolding mark_all
mark_all_append [] ks m = refl
mark_all_append (n ∷ ns) ks m = mark_all_append ns ks (set m n true)

pub mark_all_length : (ns : List ℕ) (m : List Bool) → length (mark_all ns m) ≡ length m
unfolding mark_all
mark_all_length [] m = refl
mark_all_length (n ∷ ns) m = mark_all_length ns (set m n true) ∙ length-set m n true

or_true : (b : Bool) → (b || true) ≡ true
or_true true = refl
or_true false = refl

-- marked is what is a member, or was marked before
pub mark_all_member : (ns : List ℕ) (m : List Bool) (k : ℕ) → k < length m
    → get_or (mark_all ns m) k false ≡ (member k ns || get_or m k false)
unfolding mark_all member
mark_all_member [] m k h = refl
mark_all_member (n ∷ ns) m k h =
    mark_all_member ns (set m n true) k (omega (arith, length-set m n true)) ∙ go (ℕ_discrete k n)
  where
    go : Dec (k ≡ n) → (member k ns || get_or (set m n true) k false) ≡ ((eqb k n || member k ns) || get_or m k false)
    go (yes e) =
        rw (sym e, get_or-set_same m k true false h, eqb_same k) (or_true (member k ns))
    go (no d) = rw (get_or-set_other m n k true false d, eqb_other k n d) refl

pub tally_few : (m : List Bool) → tally m ≤ length m
unfolding tally
tally_few [] = omega arith
tally_few (true ∷ m) = omega (arith, tally_few m)
tally_few (false ∷ m) = omega (arith, tally_few m)

-- a count beside its marks is small
pub count_few : (m : List Bool) (c n : ℕ) → length m ≡ n → c ≡ tally m → c ≤ n
count_few m c n e d = omega (arith, tally_few m)

tally_more : (m : List Bool) (i : ℕ) → i < length m → get_or m i false ≡ false → tally (set m i true) ≡ tally m + 1
unfolding tally
tally_more [] i h e = absurd (omega arith)
tally_more (true ∷ m) zero h e = cc
tally_more (false ∷ m) zero h e = omega arith
tally_more (b ∷ m) (suc i) h e = omega (arith, tally_more m i (le_of_suc-le-suc h) e)

-- one more mark counts one more
pub mark_new : (m : List Bool) (c n : ℕ) → c ≡ tally m → n < length m → get_or m n false ≡ false
    → c + 1 ≡ tally (set m n true)
mark_new m c n d h e = omega (arith, tally_more m n h e)

-- marks from none are those of the numbers from 0 on
pub marks_of_length : (n k : ℕ) (ns : List ℕ) → length (marks_of n k ns) ≡ n
unfolding marks_of
marks_of_length zero k ns = refl
marks_of_length (suc n) k ns = ap suc (marks_of_length n (suc k) ns)

pub marks_of_member : (n k : ℕ) (ns : List ℕ) (i : ℕ) → i < n → get_or (marks_of n k ns) i false ≡ member (k + i) ns
unfolding marks_of
marks_of_member zero k ns i h = absurd (omega arith)
marks_of_member (suc n) k ns zero h = rw (add-zero k) refl
marks_of_member (suc n) k ns (suc i) h =
    let e : suc k + i ≡ k + suc i = omega arith in
    marks_of_member n (suc k) ns i (le_of_suc-le-suc h) ∙ ap (λ (j : ℕ). member j ns) e

pub marks_of_mark_all : (n : ℕ) (ns : List ℕ) → mark_all ns (replicate n false) ≡ marks_of n 0 ns
marks_of_mark_all n ns =
    ext_get_or false (mark_all ns (replicate n false)) (marks_of n 0 ns) (long ∙ sym (marks_of_length n 0 ns)) each
  where
    long : length (mark_all ns (replicate n false)) ≡ n
    long = mark_all_length ns (replicate n false) ∙ length-replicate n false

    or_false : (b : Bool) → (b || false) ≡ b
    or_false true = refl
    or_false false = refl

    each : (i : ℕ) → i < length (mark_all ns (replicate n false))
        → get_or (mark_all ns (replicate n false)) i false ≡ get_or (marks_of n 0 ns) i false
    each i h =
        let h' : i < n = omega (arith, long) in
        let l = length-replicate n false in
        mark_all_member ns (replicate n false) i (omega arith)
        ∙ ap (λ (b : Bool). member i ns || b) (get_or-replicate n i false false h')
        ∙ or_false (member i ns)
        ∙ ap (λ (j : ℕ). member j ns) (let z : i ≡ 0 + i = omega arith in z)
        ∙ sym (marks_of_member n 0 ns i h')
