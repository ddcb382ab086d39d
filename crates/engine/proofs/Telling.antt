-- An answer told: within the room lent for an image, with the words written, or refused with the buffer kept.
use Prim.Native.Nat.{ℕ, ◌-◌, ◌<◌, ◌≤◌}
use mathlib.Core.Bool.{Bool, true, false}
use mathlib.Core.List.{List, [], ◌++◌}
use mathlib.Core.Path.{subst as along, ◌≡◌, refl, sym, ap, ◌∙◌}
use native.Mathlib.Omega.{arith}
use lib.Dec.{leb}
use lib.ListN.{length, replicate}
use borrow.Author.Tests.{le-leb, lt-leb, leb-true, leb-false}
use Rattle.calculus.specs.Numbers.{choose}
use Rattle.calculus.specs.Answers.{Answer, answer, refused, within, image_room}
use Rattle.engine.specs.Parts.{Told}

-- within both limits
pub fits : (room : ℕ) (a : Answer) → length a.written ≤ room → length a.written ≤ 8192
    → within (image_room room) a ≡ a
fits room a h l = ap (λ b. choose b a (refused 9)) (le-leb (length a.written) (image_room room) (low (leb room 8192)))
  where
    low : (b : Bool) → length a.written ≤ choose b room 8192
    low true = h
    low false = l

over : (room : ℕ) (a : Answer) → image_room room < length a.written → within (image_room room) a ≡ refused 9
over room a h = ap (λ b. choose b a (refused 9)) (lt-leb (length a.written) (image_room room) h)

-- over one of them
pub over_room : (room : ℕ) (a : Answer) → room < length a.written → within (image_room room) a ≡ refused 9
over_room room a h = over room a (high (leb room 8192) refl)
  where
    high : (b : Bool) → leb room 8192 ≡ b → choose b room 8192 < length a.written
    high true e = h
    high false e = omega (arith, leb-false room 8192 e)

pub over_image : (room : ℕ) (a : Answer) → 8192 < length a.written → within (image_room room) a ≡ refused 9
over_image room a h = over room a (high (leb room 8192) refl)
  where
    high : (b : Bool) → leb room 8192 ≡ b → choose b room 8192 < length a.written
    high true e = omega (arith, leb-true room 8192 e)
    high false e = h

-- a refusal
pub told_kept : (a : Answer) (k : ℕ) (out : List ℕ) → a ≡ refused k → 2 ≤ k → Told a k 0 out out
told_kept a k out e h =
    along
    (λ (b : Answer). Told b k 0 out out)
    (sym e)
    (record {
      answered = refl;
      measured = refl;
      filled = sym (ap (λ b. choose b ([] ++ replicate (length out - 0) 0) out) (lt-leb k 1 (omega arith)));
    })

-- a result, which is n words long
pub told_written : (a : Answer) (k : ℕ) (ws : List ℕ) (n : ℕ) (out out' : List ℕ) → a ≡ answer k ws → k ≤ 1
    → n ≡ length ws → out' ≡ ws ++ replicate (length out - n) 0 → Told a k n out out'
told_written a k ws n out out' e h l f =
    along
    (λ (b : Answer). Told b k n out out')
    (sym e)
    (record {
      answered = refl;
      measured = l;
      filled = f
          ∙ ap (λ i. ws ++ replicate (length out - i) 0) l
          ∙ sym (ap (λ b. choose b (ws ++ replicate (length out - length ws) 0) out) (le-leb k 1 h));
    })
