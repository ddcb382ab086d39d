-- Finite maps as association lists of rising keys.
use Prim.Native.Nat.{ℕ, ◌<◌, ◌≤◌}
use mathlib.Core.Bool.{false, Bool, true, cond}
use mathlib.Core.List.{[], ◌∷◌}
use mathlib.Core.Logic.{◌≢◌, ◌⊎◌, inl, inr}
use mathlib.Core.Option.{Option, none, some}
use mathlib.Core.Path.{subst as along, ap, ◌≡◌, refl, ◌∙◌, sym, ap₂}
use native.Mathlib.Decide.{dec_lt, ℕ_discrete}
use native.Mathlib.Omega.{arith}
use lib.Dec.{T, eqb, ltb, ltb→lt, lt→ltb}
use Rattle.calculus.specs.Maps.{get, Map, Above, Rising, put, overlaid, remove}
use Rattle.calculus.proofs.Options.{eqb_other, eqb_same, true→eq, false→ne, none≢some, some_inj}

-- where a stands to b
pub data Tri (a b : ℕ) : Type 0 where
  below : a < b → Tri a b
  same : a ≡ b → Tri a b
  above : b < a → Tri a b

pub tri : (a b : ℕ) → Tri a b
tri a b = go (dec_lt a b) (dec_lt b a)
  where
    go : Dec (a < b) → Dec (b < a) → Tri a b
    go (yes p) d = below p
    go (no h) (yes q) = above q
    go (no h) (no k) = same (omega arith)

abbrev pub or_else : {A : Type 0} → Option A → Option A → Option A
or_else none b = b
or_else (some a) b = some a

false≢T : {b : Bool} {C : Type 0} → b ≡ false → T b → C
false≢T {b} p t = absurd (rw p at t)

module _ {A : Type 0} where
  pub get_none : (k : ℕ) → get {A = A} k [] ≡ none
  unfolding get
  get_none k = refl

  above_weaken : (j k : ℕ) (m : Map A) → j ≤ k → Above k m → Above j m
  above_weaken j k [] h a = tt
  above_weaken j k (e ∷ m) h a = (omega arith, a.1)

  pub above_rising : (k : ℕ) (m : Map A) → Above k m → Rising m
  above_rising k [] a = tt
  above_rising k (e ∷ m) a = a.1

  pub get_above : (k j : ℕ) (m : Map A) → Above k m → j ≤ k → get j m ≡ none
  unfolding get
  get_above k j [] a h = refl
  get_above k j (e ∷ m) a h = rw (eqb_other j e.0 (omega arith)) (get_above e.0 j m a.1 (omega arith))

  pub get_put_same : (k : ℕ) (a : A) (m : Map A) → get k (put k a m) ≡ some a
  unfolding get put
  get_put_same k a [] = rw (eqb_same k) refl
  get_put_same k a (e ∷ m) = go (ltb k e.0) (eqb k e.0) refl refl (get_put_same k a m)
    where
      go : (b c : Bool) → ltb k e.0 ≡ b → eqb k e.0 ≡ c → get k (put k a m) ≡ some a
          → get k (put k a (e ∷ m)) ≡ some a
      go true c p q h = rw (p, eqb_same k) refl
      go false true p q h = rw (p, q, eqb_same k) refl
      go false false p q h = rw (p, q) (rw q h)

  pub get_put_other : (k j : ℕ) (a : A) (m : Map A) → j ≢ k → get j (put k a m) ≡ get j m
  unfolding get put
  get_put_other k j a [] d = rw (eqb_other j k d) refl
  get_put_other k j a (e ∷ m) d = go (ltb k e.0) (eqb k e.0) refl refl (get_put_other k j a m d)
    where
      go : (b c : Bool) → ltb k e.0 ≡ b → eqb k e.0 ≡ c → get j (put k a m) ≡ get j m
          → get j (put k a (e ∷ m)) ≡ get j (e ∷ m)
      go true c p q h = rw (p, eqb_other j k d) refl
      go false true p q h =
          rw (p, q, eqb_other j k d, eqb_other j e.0 (along (λ x. j ≢ x) (true→eq k e.0 q) d)) refl
      go false false p q h = rw (p, q) (ap (cond (eqb j e.0) (some e.1)) h)

  pub get_overlaid : (k : ℕ) (m n : Map A) → get k (overlaid m n) ≡ or_else (get k n) (get k m)
  unfolding get overlaid
  get_overlaid k m [] = refl
  get_overlaid k m (e ∷ n) = go (eqb k e.0) refl (get_overlaid k m n)
    where
      go : (b : Bool) → eqb k e.0 ≡ b → get k (overlaid m n) ≡ or_else (get k n) (get k m)
          → get k (overlaid m (e ∷ n)) ≡ or_else (get k (e ∷ n)) (get k m)
      go true q h = rw q (rw (true→eq k e.0 q) (get_put_same e.0 e.1 (overlaid m n)))
      go false q h = rw q (get_put_other e.0 k e.1 (overlaid m n) (false→ne k e.0 q) ∙ h)

  pub get_remove_other : (k j : ℕ) (m : Map A) → j ≢ k → get j (remove k m) ≡ get j m
  unfolding get remove
  get_remove_other k j [] d = refl
  get_remove_other k j (e ∷ m) d = go (eqb k e.0) refl (get_remove_other k j m d)
    where
      go : (b : Bool) → eqb k e.0 ≡ b → get j (remove k m) ≡ get j m → get j (remove k (e ∷ m)) ≡ get j (e ∷ m)
      go true q h = rw (q, eqb_other j e.0 (along (λ x. j ≢ x) (true→eq k e.0 q) d)) refl
      go false q h = rw q (ap (cond (eqb j e.0) (some e.1)) h)

  pub get_remove_same : (k : ℕ) (m : Map A) → Rising m → get k (remove k m) ≡ none
  unfolding get remove
  get_remove_same k [] r = refl
  get_remove_same k (e ∷ m) r = go (eqb k e.0) refl (get_remove_same k m (above_rising e.0 m r))
    where
      go : (b : Bool) → eqb k e.0 ≡ b → get k (remove k m) ≡ none → get k (remove k (e ∷ m)) ≡ none
      go true q h = let p = true→eq k e.0 q in rw q (get_above e.0 k m r (omega arith))
      go false q h = rw q (rw q h)

  above_put : (j k : ℕ) (a : A) (m : Map A) → j < k → Above j m → Above j (put k a m)
  unfolding put
  above_put j k a [] h r = (h, tt)
  above_put j k a (e ∷ m) h r = go (ltb k e.0) (eqb k e.0) refl refl (λ h'. above_put e.0 k a m h' r.1)
    where
      go : (b c : Bool) → ltb k e.0 ≡ b → eqb k e.0 ≡ c → (e.0 < k → Above e.0 (put k a m))
          → Above j (put k a (e ∷ m))
      go true c p q f = rw p (h, (ltb→lt k e.0 (rw p tt), r.1))
      go false true p q f = rw (p, q) (h, rw (true→eq k e.0 q) r.1)
      go false false p q f =
          let u = false→ne k e.0 q in
          let v : ¬ (k < e.0) = λ l. false≢T p (lt→ltb k e.0 l) in
          rw (p, q) (r.0, f (omega arith))

  pub rising_put : (k : ℕ) (a : A) (m : Map A) → Rising m → Rising (put k a m)
  unfolding put
  rising_put k a [] r = tt
  rising_put k a (e ∷ m) r = go (ltb k e.0) (eqb k e.0) refl refl
    where
      go : (b c : Bool) → ltb k e.0 ≡ b → eqb k e.0 ≡ c → Rising (put k a (e ∷ m))
      go true c p q = rw p (ltb→lt k e.0 (rw p tt), r)
      go false true p q = rw (p, q) (rw (true→eq k e.0 q) r)
      go false false p q =
          let u = false→ne k e.0 q in
          let v : ¬ (k < e.0) = λ l. false≢T p (lt→ltb k e.0 l) in
          rw (p, q) (above_put e.0 k a m (omega arith) r)

  pub rising_overlaid : (m n : Map A) → Rising m → Rising (overlaid m n)
  unfolding overlaid
  rising_overlaid m [] r = r
  rising_overlaid m (e ∷ n) r = rising_put e.0 e.1 (overlaid m n) (rising_overlaid m n r)

  above_remove : (j k : ℕ) (m : Map A) → Above j m → Above j (remove k m)
  unfolding remove
  above_remove j k [] r = tt
  above_remove j k (e ∷ m) r = go (eqb k e.0) refl (above_remove e.0 k m r.1)
    where
      go : (b : Bool) → eqb k e.0 ≡ b → Above e.0 (remove k m) → Above j (remove k (e ∷ m))
      go true q h = let l = r.0 in rw q (above_weaken j e.0 m (omega arith) r.1)
      go false q h = rw q (r.0, h)

  pub rising_remove : (k : ℕ) (m : Map A) → Rising m → Rising (remove k m)
  unfolding remove
  rising_remove k [] r = tt
  rising_remove k (e ∷ m) r = go (eqb k e.0) refl
    where
      go : (b : Bool) → eqb k e.0 ≡ b → Rising (remove k (e ∷ m))
      go true q = rw q (above_rising e.0 m r)
      go false q = rw q (above_remove e.0 k m r)

  -- two rising maps that answer alike are equal
  pub get_head : (e : ℕ × A) (m : Map A) → get e.0 (e ∷ m) ≡ some e.1
  unfolding get
  get_head e m = rw (eqb_same e.0) refl

  pub get_tail : (k : ℕ) (e : ℕ × A) (m : Map A) → k ≢ e.0 → get k (e ∷ m) ≡ get k m
  unfolding get
  get_tail k e m d = rw (eqb_other k e.0 d) refl

  pub map_ext : (m n : Map A) → Rising m → Rising n → ((k : ℕ) → get k m ≡ get k n) → m ≡ n
  map_ext [] [] r s h = refl
  map_ext [] (e ∷ n) r s h = none≢some (sym (get_none e.0) ∙ h e.0 ∙ get_head e n)
  map_ext (d ∷ m) [] r s h = none≢some (sym (get_none d.0) ∙ sym (h d.0) ∙ get_head d m)
  map_ext (d ∷ m) (e ∷ n) r s h =
      go (tri d.0 e.0) (λ f. map_ext m n (above_rising d.0 m r) (above_rising e.0 n s) f)
    where
      go : Tri d.0 e.0 → (((k : ℕ) → get k m ≡ get k n) → m ≡ n) → d ∷ m ≡ e ∷ n
      go (below l) f =
          none≢some (sym (get_above d.0 d.0 (e ∷ n) (l, s) (omega arith)) ∙ sym (h d.0) ∙ get_head d m)
      go (above l) f = none≢some (sym (get_above e.0 e.0 (d ∷ m) (l, r) (omega arith)) ∙ h e.0 ∙ get_head e n)
      go (same p) f =
          let v : d.1 ≡ e.1 = some_inj (sym (get_head d m) ∙ h d.0 ∙ ap (λ k. get k (e ∷ n)) p ∙ get_head e n) in
          let t : (k : ℕ) → get k m ≡ get k n = λ k. tail k (ℕ_discrete k d.0) in
          ap₂ (λ (x : ℕ × A) (y : Map A). x ∷ y) (λ i. (p i, v i)) (f t)
        where
          tail : (k : ℕ) → Dec (k ≡ d.0) → get k m ≡ get k n
          tail k (yes q) = get_above d.0 k m r (omega arith) ∙ sym (get_above e.0 k n s (omega arith))
          tail k (no q) = sym (get_tail k d m q) ∙ h k ∙ get_tail k e n (λ x. q (x ∙ sym p))

-- what a map holds after a put: what was put, or what it held
pub put_cases : {A : Type 0} (q r : ℕ) (K M : A) (s : Map A) → get q (put r K s) ≡ some M
    → ((q ≡ r) × (K ≡ M)) ⊎ ((q ≢ r) × (get q s ≡ some M))
put_cases q r K M s h = go (ℕ_discrete q r)
  where
    go : Dec (q ≡ r) → ((q ≡ r) × (K ≡ M)) ⊎ ((q ≢ r) × (get q s ≡ some M))
    go (yes p) = inl (p, some_inj (sym (get_put_same r K s) ∙ ap (λ x. get x (put r K s)) (sym p) ∙ h))
    go (no d) = inr (d, sym (get_put_other r q K s d) ∙ h)
