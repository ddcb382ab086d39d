-- Where a loop over the items of a map stands, what is left of them: the laws that these loops share.
use Prim.Native.Nat.{ℕ, suc, ◌+◌, ◌≤◌, ◌<◌}
use mathlib.Core.List.{List, [], ◌∷◌}
use mathlib.Core.Path.{◌≡◌, sym}
use native.Mathlib.Omega.{arith}
use lib.ListN.{length, get_or}
use Rattle.calculus.specs.Maps.{Map}
use Rattle.calculus.specs.Images.{entries, Listed}
use Rattle.image.specs.Standing.{Stands}
use Rattle.image.specs.Cuts.{Past}
use Rattle.image.proofs.Standing.{headed, stands_left, stands_right, stands_at}

-- items that are each written by w
module _ {A : Type 0} (w : A → List ℕ) (ok : A → Type 0) (top : ℕ) where
  -- after i of n items, those that are left stand at p, and P holds of them
  pub record Left (s : List ℕ) (n p i : ℕ) (P : Map A → Type 0) : Type 0 where
    pub map : Map A
    pub low : ℕ
    pub listed : Listed ok top low map
    pub stand : Stands s p (entries w map)
    pub count : i + length map ≡ n
    pub holds : P map

  -- the next item y stands at p
  pub record Next (s : List ℕ) (p : ℕ) (y : ℕ × A) : Type 0 where
    pub inside : p < length s
    pub key : get_or s p 0 ≡ y.0
    pub valid : ok y.1
    pub item : Stands s (p + 1) (w y.1)

  module _ {s : List ℕ} {n p i : ℕ} {P : Map A → Type 0} (f : Left s n p i P) where
    pub left_none : n ≤ i → P []
    left_none l = go f.map f.count f.holds
      where
        go : (x : Map A) → i + length x ≡ n → P x → P []
        go [] c h = h
        go (y ∷ x) c h = absurd (omega arith)

    pub left_some : i < n → {B : Type 0} → ((y : ℕ × A) (x : Map A) → Next s p y → P (y ∷ x) → B) → B
    unfolding Listed
    left_some l {B} give = go f.map f.listed f.count f.stand f.holds
      where
        go : (x : Map A) → Listed ok top f.low x → i + length x ≡ n → Stands s p (entries w x) → P x → B
        go [] u c d h = absurd (omega arith)
        go (y ∷ x) u c d h =
            let hd = headed d in
            give y x
            (record {
              inside = hd.inside;
              key = hd.is;
              valid = u.2;
              item = stands_left (w y.1) (entries w x) hd.more;
            })
            h

    pub left_next : i < n → (q : ℕ) → Past w ok s (p + 1) q → {Q : Map A → Type 0}
        → ((y : ℕ × A) (x : Map A) → Next s p y → q ≡ p + 1 + length (w y.1) → P (y ∷ x) → Q x)
        → Left s n q (i + 1) Q
    unfolding Listed
    left_next l q past {Q} turn = go f.map f.listed f.count f.stand f.holds
      where
        go : (x : Map A) → Listed ok top f.low x → i + length x ≡ n → Stands s p (entries w x) → P x
            → Left s n q (i + 1) Q
        go [] u c d h = absurd (omega arith)
        go (y ∷ x) u c d h =
            let hd = headed d in
            let st = stands_left (w y.1) (entries w x) hd.more in
            let e = past.ends y.1 u.2 st in
            record {
              map = x;
              low = suc y.0;
              listed = u.3;
              stand = stands_at q (sym e) (stands_right (w y.1) (entries w x) hd.more);
              count = omega arith;
              holds = turn y x (record { inside = hd.inside; key = hd.is; valid = u.2; item = st }) e h;
            }
