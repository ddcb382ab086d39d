-- Buffers that are cleared from a place on, and words copied to the front of a buffer.
use Prim.Native.Nat.{ℕ, ◌+◌, ◌-◌, ◌≤◌}
use mathlib.Core.Path.{◌≡◌, refl, ap, ◌∙◌}
use mathlib.Core.List.{List, ◌++◌}
use native.Mathlib.Omega.{arith}
use lib.ListN.{length, take, drop, replicate, length-replicate, length-append, length-drop}
use lib.Seq.{sets-eq, length-take-le, take_at, drop_at}
use Rattle.write.specs.Cursor.{Wrote}
use Rattle.words.specs.Buffers.{Cleared}

-- a whole buffer cleared
pub cleared_all : {o o' : List ℕ} → Cleared o 0 o' → o' ≡ replicate (length o) 0
cleared_all {o} c =
    let e : length o - 0 ≡ length o = omega arith in c.zeros ∙ ap (λ k. replicate k 0) e

pub cleared_size : {o : List ℕ} {from : ℕ} {o' : List ℕ} → Cleared o from o' → from ≤ length o → length o' ≡ length o
cleared_size {o} {from} c h =
    ap length c.zeros
    ∙ length-append (take from o) (replicate (length o - from) 0)
    ∙ omega (arith, length-take-le from o h, length-replicate {A = ℕ} (length o - from) 0)

-- the words written at the front of a buffer
pub wrote_front : (ws o : List ℕ) (r : ℕ) (o' : List ℕ) → Wrote ws o 0 r o' → length ws ≤ length o
    → (take (length ws) o' ≡ ws) × (drop (length ws) o' ≡ drop (length ws) o)
wrote_front ws o r o' w h =
    let e : o' ≡ ws ++ drop (0 + length ws) o = w.out ∙ sets-eq ws o 0 (omega arith) in
    let z : 0 + length ws ≡ length ws = omega arith in (
      ap (take (length ws)) e ∙ take_at ws (drop (0 + length ws) o) (length ws) refl,
      ap (drop (length ws)) e ∙ drop_at ws (drop (0 + length ws) o) (length ws) refl ∙ ap (λ k. drop k o) z,
    )

-- the first n words of s copied to the front of a buffer
pub record Fronted (s : List ℕ) (n : ℕ) (o o' : List ℕ) : Type 0 where
  pub front : take n o' ≡ take n s
  pub size : length o' ≡ length o

pub fronted : (s : List ℕ) (n : ℕ) (o ys : List ℕ) → n ≤ length s → n ≤ length o → ys ≡ take n s
    → Fronted s n o (ys ++ drop n o)
fronted s n o ys h k e =
    let l : length ys ≡ n = ap length e ∙ length-take-le n s h in
    record {
      front = take_at ys (drop n o) n l ∙ e;
      size = length-append ys (drop n o) ∙ omega (arith, length-drop n o);
    }
