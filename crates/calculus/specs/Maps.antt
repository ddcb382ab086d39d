-- Finite maps (01, "State": a state maps revision numbers, a store maps locations), as entries by rising key.
use Rattle.std.specs.Prelude.{ℕ, ◌<◌, List, [], ◌∷◌, cond, ltb, eqb}
use Rattle.std.proofs.Math.Option.{Option, none, some}

abbrev pub Map : Type 0 → Type 0
Map A = List (ℕ × A)

module _ {A : Type 0} where
  unfoldable pub get : ℕ → Map A → Option A
  get k [] = none
  get k (e ∷ m) = cond (eqb k e.0) (some e.1) (get k m)

  -- a at k, in its place by rising key, and instead of what k held
  unfoldable pub put : ℕ → A → Map A → Map A
  put k a [] = (k, a) ∷ []
  put k a (e ∷ m) = cond (ltb k e.0) ((k, a) ∷ e ∷ m) (cond (eqb k e.0) ((k, a) ∷ m) (e ∷ put k a m))

  unfoldable pub remove : ℕ → Map A → Map A
  remove k [] = []
  remove k (e ∷ m) = cond (eqb k e.0) m (e ∷ remove k m)

  -- m overlaid by n: n's entries stand before those of m
  unfoldable pub overlaid : Map A → Map A → Map A
  overlaid m [] = m
  overlaid m (e ∷ n) = put e.0 e.1 (overlaid m n)

  -- strictly rising, from above k; strictly rising
  abbrev pub Above : ℕ → Map A → Type 0
  Above k [] = Unit {0}
  Above k (e ∷ m) = (k < e.0) × Above e.0 m

  abbrev pub Rising : Map A → Type 0
  Rising [] = Unit {0}
  Rising (e ∷ m) = Above e.0 m

unfoldable pub keys : {A : Type 0} → Map A → List ℕ
keys [] = []
keys (e ∷ m) = e.0 ∷ keys m
