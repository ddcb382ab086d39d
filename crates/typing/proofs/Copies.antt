-- Copying a part: all of it, or as much as there is room for.
use Prim.Native.Nat.{ℕ, ◌+◌, ◌-◌, suc, ◌≤◌, ◌<◌}
use mathlib.Core.List.{List, ◌++◌, [], ◌∷◌, append_assoc}
use mathlib.Core.Path.{ap, ◌≡◌, ◌∙◌, sym, refl}
use native.Mathlib.Nat.{add-zero, suc-add, add-suc}
use native.Mathlib.Omega.{arith}
use lib.ListN.{set, length, take, drop, length-take, take-append-drop}
use lib.Seq.{sets, length-sets, set_out, drop-drop}
use borrow.Rule.Slice.PartMut.{put_mid}
use Rattle.std.proofs.lemmas.List.Edits.{sets-eq}

-- one part after the other, and past the end nothing: as in write, on which this crate does not stand
pub sets_append : (l : List ℕ) (i : ℕ) (a b : List ℕ) → sets l i (a ++ b) ≡ sets (sets l i a) (i + length a) b
sets_append l i [] b = rw add-zero
sets_append l i (x ∷ a) b =
    sets_append (set l i x) (suc i) a b
    ∙ ap (λ (k : ℕ). sets (sets (set l i x) (suc i) a) k b) (suc-add i (length a) ∙ sym (add-suc i (length a)))

pub sets_out : (l : List ℕ) (i : ℕ) (a : List ℕ) → length l ≤ i → sets l i a ≡ l
sets_out l i [] h = refl
sets_out l i (x ∷ a) h = rw (set_out l i x h) (sets_out l (suc i) a (omega arith))

put_mid_sets : (o : List ℕ) (to n : ℕ) (ys : List ℕ) → n ≡ length ys → to + n ≤ length o
    → put_mid to n o ys ≡ sets o to ys
put_mid_sets o to n ys e h =
    ap (λ l. take to o ++ (ys ++ l)) (drop-drop n to o ∙ ap (λ k. drop (to + k) o) e)
    ∙ sym (append_assoc (take to o) ys (drop (to + length ys) o))
    ∙ sym (sets-eq ys o to (omega arith))

module _ (o : List ℕ) (to : ℕ) (v ys : List ℕ) where
  pub copied_whole : (n : ℕ) → ys ≡ v → n ≡ length v → to + length v ≤ length o → put_mid to n o ys ≡ sets o to v
  copied_whole n e d h = put_mid_sets o to n ys (d ∙ sym (ap length e)) (omega arith) ∙ ap (sets o to) e

  pub copied_cut : (n : ℕ) → n ≡ length o - to → ys ≡ take n v → to ≤ length o → length o < to + length v
      → put_mid to n o ys ≡ sets o to v
  copied_cut n d e h k =
      let l : length ys ≡ n = ap length e ∙ simp length-take (omega arith) in
      let s = length-sets o to ys in
      put_mid_sets o to n ys (sym l) (omega arith)
      ∙ sym (sets_out (sets o to ys) (to + length ys) (drop n v) (omega arith))
      ∙ sym (sets_append o to ys (drop n v))
      ∙ ap (λ l. sets o to (l ++ drop n v)) e
      ∙ ap (sets o to) (take-append-drop n v)
