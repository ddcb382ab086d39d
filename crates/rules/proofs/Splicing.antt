-- Words with others in place of some of them: the hole starts before them, after them or among them.
use Prim.Native.Nat.{ℕ, ◌<◌, ◌≤◌}
use mathlib.Core.Path.{◌≡◌, refl, sym}
use mathlib.Core.List.{List, ◌++◌}
use mathlib.Core.Logic.{◌⊎◌, inl, inr}
use borrow.Author.Tests.{le-ltb, lt-ltb}
use denote.MutBor.{MutBor}
use Rattle.std.specs.Fn.{Once}
use Rattle.write.specs.Cursor.{part, Wrote}
use Rattle.write.proofs.Cursors.{then, wrote_as}
use Rattle.rules.specs.Splicing.{spliced, Writes, Spliced}

module _ (s : List ℕ) (a b from end : ℕ) (ws : List ℕ) where
  pub spliced_before : from < a → spliced s a b from end ws ≡ part s a b
  unfolding spliced
  spliced_before h = rw (lt-ltb from a h) refl

  pub spliced_after : a ≤ from → b < from → spliced s a b from end ws ≡ part s a b
  unfolding spliced
  spliced_after h k = rw (le-ltb from a h, lt-ltb b from k) refl

  pub spliced_among : a ≤ from → from ≤ b → spliced s a b from end ws ≡ part s a from ++ (ws ++ part s end b)
  unfolding spliced
  spliced_among h k = rw (le-ltb from a h, le-ltb b from k) refl

module _ {F : Type 0} (g : Once F (MutBor (List ℕ) × (ℕ × Unit {0})) (ℕ × (MutBor (List ℕ) × Unit {0}))) (f : F)
    (s : List ℕ) (a b from end : ℕ) (o : List ℕ) (to : ℕ) where
  pub splice_outside : (r : ℕ) (o' : List ℕ) → (from < a) ⊎ ((a ≤ from) × (b < from)) → Wrote (part s a b) o to r o'
      → Spliced g f s a b from end o to r o'
  splice_outside r o' h w = record { wrote = λ ws k. wrote_as (sym (outside ws h)) w }
    where
      outside : (ws : List ℕ) → (from < a) ⊎ ((a ≤ from) × (b < from)) → spliced s a b from end ws ≡ part s a b
      outside ws (inl l) = spliced_before s a b from end ws l
      outside ws (inr (l, k)) = spliced_after s a b from end ws l k

  pub splice_among : (x y r : ℕ) (o₁ o₃ : List ℕ) (p q : MutBor (List ℕ)) → a ≤ from → from ≤ b
      → Wrote (part s a from) o to x p.now → g.post f (p, (x, tt)) (y, (q, tt)) → Wrote (part s end b) q.now y r o₃
      → Spliced g f s a b from end o to r o₃
  splice_among x y r o₁ o₃ p q h k w₁ w₂ w₃ =
      record {
        wrote = λ ws e. wrote_as (sym (spliced_among s a b from end ws h k)) (then w₁ (then (e.at p x y q w₂) w₃));
      }

-- a closure that writes ws, written otherwise
pub writes_as : {F : Type 0} {g : Once F (MutBor (List ℕ) × (ℕ × Unit {0})) (ℕ × (MutBor (List ℕ) × Unit {0}))} {f : F}
    {ws vs : List ℕ} → ws ≡ vs → Writes g f ws → Writes g f vs
writes_as e w = record { at = λ o to r o' p. wrote_as e (w.at o to r o' p) }
