-- The number whose bits some marks are, read from the highest mark down.
use Prim.Native.Nat.{ℕ, zero, suc, ◌+◌, ◌*◌, ◌^◌, ◌<◌, ◌≤◌}
use mathlib.Core.Path.{◌≡◌, refl, sym, ap, ◌∙◌}
use mathlib.Core.Bool.{Bool, true, false}
use mathlib.Core.List.{List, [], ◌∷◌, ◌++◌, append_assoc, append-nil}
use native.Mathlib.Nat.{pow-suc}
use native.Mathlib.Omega.{arith}
use lib.ListN.{length, length-append}
use lib.Pow.{pow_pos}
use mir.Val.{bool_byte}
use Rattle.calculus.specs.Numbers.{choose}
use Rattle.host.specs.Host.{bits}

-- n marks make a number of n bits
pub bits_small : (n : ℕ) (l : List Bool) → length l ≤ n → bits l < 2 ^ n
unfolding bits
bits_small zero [] h = omega arith
bits_small zero (b ∷ l) h = absurd (omega arith)
bits_small (suc n) [] h = pow_pos (suc n)
bits_small (suc n) (b ∷ l) h = go b (bits_small n l (omega arith))
  where
    go : (b : Bool) → bits l < 2 ^ n → choose b 1 0 + 2 * bits l < 2 ^ suc n
    go true i = let e = pow-suc 2 n in omega arith
    go false i = let e = pow-suc 2 n in omega arith

-- the marks are those still to come and those done, of which number is the number
pub record Down (marks rest : List Bool) (number : ℕ) : Type 0 where
  pub size : length marks ≡ 64
  pub done : List Bool
  pub split : marks ≡ rest ++ done
  pub sum : number ≡ bits done

pub down_start : (marks rest : List Bool) → length marks ≡ 64 → rest ≡ marks → Down marks rest 0
unfolding bits
down_start marks rest h e = record { size = h; done = []; split = sym (append-nil rest ∙ e); sum = refl }

-- with a mark to come, twice the number and one more fit
pub record Room (number : ℕ) : Type 0 where
  pub twice : number * 2 + 1 < 2 ^ 64

pub down_room : {marks rest : List Bool} {number : ℕ} (left : List Bool) (b : Bool) → Down marks rest number
    → rest ≡ left ++ (b ∷ []) → Room number
down_room {marks} {rest} {number} left b d e =
    let z = d.size in
    let l = ap length d.split ∙ length-append rest d.done in
    let k = ap length e ∙ length-append left (b ∷ []) in
    let s = bits_small 63 d.done (omega arith) in
    let i = d.sum in
    record { twice = omega arith }

-- a mark as a number
pub record Byte (n : ℕ) : Type 0 where
  pub low : n ≤ 1

pub byte_fits : (n : ℕ) (b : Bool) → n ≡ bool_byte b → Byte n
byte_fits n true e = record { low = omega arith }
byte_fits n false e = record { low = omega arith }

byte_is : (b : Bool) → bool_byte b ≡ choose b 1 0
byte_is true = refl
byte_is false = refl

pub down_turn : (marks rest left : List Bool) (number : ℕ) (b : Bool) (n : ℕ) → Down marks rest number
    → rest ≡ left ++ (b ∷ []) → n ≡ bool_byte b → Down marks left (number * 2 + n)
unfolding bits
down_turn marks rest left number b n d e i =
    let s = d.sum in
    let j = byte_is b in
    record {
      size = d.size;
      done = b ∷ d.done;
      split = d.split ∙ ap (λ (l : List Bool). l ++ d.done) e ∙ append_assoc left (b ∷ []) d.done;
      sum = omega arith;
    }

pub down_done : (marks rest : List Bool) (number : ℕ) → Down marks rest number → length rest ≡ 0 → number ≡ bits marks
down_done marks [] number d h = d.sum ∙ sym (ap bits d.split)
down_done marks (b ∷ rest) number d h = absurd (omega arith)
