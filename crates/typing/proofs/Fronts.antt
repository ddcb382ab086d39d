-- What stands at a place of a list.
use Prim.Native.Nat.{◌-◌, ℕ, ◌+◌, suc, zero, ◌<◌}
use mathlib.Core.List.{List, ◌∷◌, ◌++◌, []}
use mathlib.Core.Path.{◌≡◌, sym, ◌∙◌, ap, refl}
use native.Mathlib.Nat.{add-zero}
use native.Mathlib.Omega.{arith}
use lib.ListN.{get_or, drop, length, length-drop}
use lib.Seq.{get_or-drop, drop-drop, drop_at}

pub record Front (s : List ℕ) (at w : ℕ) (ws : List ℕ) : Type 0 where
  pub tag : get_or s at 0 ≡ w
  pub next : drop (at + 1) s ≡ ws
  pub size : length s ≡ at + suc (length ws)

pub front : (s : List ℕ) (at w : ℕ) (ws : List ℕ) → drop at s ≡ w ∷ ws → Front s at w ws
front s at w ws e =
    let all : length s - at ≡ suc (length ws) = sym (length-drop at s) ∙ ap length e in
    record {
      tag = sym (ap (λ (i : ℕ). get_or s i 0) (add-zero at)) ∙ sym (get_or-drop at s 0 0)
          ∙ ap (λ (l : List ℕ). get_or l 0 0) e;
      next = sym (drop-drop 1 at s) ∙ ap (drop 1) e;
      size = omega arith;
    }

-- past a part of known words
pub past : (s : List ℕ) (at : ℕ) (ws r : List ℕ) → drop at s ≡ ws ++ r → drop (at + length ws) s ≡ r
past s at ws r e = sym (drop-drop (length ws) at s) ∙ ap (drop (length ws)) e ∙ drop_at ws r (length ws) refl

-- a word that is not 0 stands inside
pub inside : (s : List ℕ) (p : ℕ) → (get_or s p 0 ≡ 0 → ⊥) → p < length s
inside [] p h = absurd (h (go p))
  where
    go : (p : ℕ) → get_or {A = ℕ} [] p 0 ≡ 0
    go zero = refl
    go (suc p) = refl
inside (x ∷ s) zero h = omega arith
inside (x ∷ s) (suc p) h = let q = inside s p h in omega arith
