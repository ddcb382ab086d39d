-- The items of a map and their count, against their readers: the loop that reads them.
use Prim.Native.Nat.{ℕ, zero, suc, ◌+◌, ◌-◌, ◌≤◌, ◌<◌}
use mathlib.Core.List.{List, ◌∷◌}
use mathlib.Core.Option.{Option as Maybe, some}
use mathlib.Core.Path.{◌≡◌, refl, sym, ap, ◌∙◌, subst}
use native.Mathlib.Numerals.{add-one}
use native.Mathlib.Omega.{arith}
use lib.ListN.{length, get_or, drop, drop_of_length-le}
use borrow.Author.Tests.{le-leb, lt-leb}
use Rattle.calculus.specs.Options.{◌▸◌}
use Rattle.calculus.specs.Maps.{Map}
use Rattle.calculus.specs.Reading.{Reader}
use Rattle.calculus.specs.Images.{read_entries, read_map}
use Rattle.std.specs.Prelude.{Option, Some, None}
use Rattle.image.specs.Matches.{Matches, Matched, list_of, map_of}
use Rattle.image.proofs.Readers.{cons_at, broken, goes_on, made, ends_in}

-- a loop over entries
module _ {A : Type 0} (R : ℕ → Reader A) (b : ℕ) where
  abbrev Entries : List ℕ → ℕ → ℕ → List ℕ → Option ℕ → Type 0
  Entries s n low ws w = Matches s (read_entries (R (length s)) b n low ws) w

  pub record Walking (s : List ℕ) (at n p i low : ℕ) : Type 0 where
    pub left : ℕ
    pub count : i + left ≡ n
    pub high : p ≤ length s
    pub back : (w : Option ℕ) → Entries s left low (drop p s) w → Entries s n 0 (drop at s) w

  pub walk_start : (s : List ℕ) (at n : ℕ) → at ≤ length s → Walking s at n at 0 0
  walk_start s at n h = record { left = n; count = omega arith; high = h; back = λ w h. h }

  module _ (s : List ℕ) (at n p i low : ℕ) (g : Walking s at n p i low) where
    answer : (w : Option ℕ) → Entries s n 0 (drop at s) w → Matched (list_of R b n) s at w
    unfolding list_of
    answer w m = record { matches = m }

    more_left : (l : ℕ) → g.left ≡ l → i < n → (w : Option ℕ)
        → ((k : ℕ) → l ≡ suc k → Entries s (suc k) low (drop p s) w) → Entries s n 0 (drop at s) w
    more_left zero e h w f = let c = g.count in absurd (omega arith)
    more_left (suc k) e h w f = g.back w (subst (λ l. Entries s l low (drop p s) w) (sym e) (f k refl))

    pub walk_end : n ≤ i → Matched (list_of R b n) s at (Some p)
    unfolding read_entries
    walk_end h = answer (Some p) (g.back (Some p) (go g.left refl))
      where
        go : (l : ℕ) → g.left ≡ l → Entries s l low (drop p s) (Some p)
        go zero e = (refl, g.high)
        go (suc l) e = let c = g.count in absurd (omega arith)

    pub walk_out : i < n → length s ≤ p → Matched (list_of R b n) s at None
    unfolding read_entries
    walk_out h k = answer None (more_left g.left refl h None (λ l e. rw (drop_of_length-le s k) tt))

    module _ (h : i < n) (inside : p < length s) (x : ℕ) (xi : x ≡ get_or s p 0) where
      here : (l : ℕ) (w : Option ℕ) → Entries s (suc l) low (x ∷ drop (p + 1) s) w → Entries s (suc l) low (drop p s) w
      here l w m =
          subst (λ ws. Entries s (suc l) low ws w)
          (sym (cons_at s p inside ∙ ap (λ y. y ∷ drop (p + 1) s) (sym xi))) m

      pub walk_low : x < low → Matched (list_of R b n) s at None
      unfolding read_entries
      walk_low k =
          answer None (more_left g.left refl h None (λ l e. here l None (rw (lt-leb low x k) tt)))

      pub walk_high : (t : ℕ) → t ≡ b → low ≤ x → t < x → Matched (list_of R b n) s at None
      unfolding read_entries
      walk_high t d j k =
          answer None
          (more_left g.left refl h None (λ l e. here l None (rw (le-leb low x j, lt-leb x b (omega arith)) tt)))

      module _ (t : ℕ) (d : t ≡ b) (j : low ≤ x) (k₀ : x ≤ t) where
        k : x ≤ b
        k = omega arith

        entry : Maybe (A × List ℕ)
        entry = R (length s) (drop (p + 1) s)

        tail : ℕ → A × List ℕ → Maybe (Map A × List ℕ)
        tail l q = read_entries (R (length s)) b l (suc x) q.1 ▸ λ z. some ((x, q.0) ∷ z.0, z.1)

        pub walk_broken : Matched R s (p + 1) None → Matched (list_of R b n) s at None
        unfolding read_entries entry tail
        walk_broken m =
            answer None
            (more_left g.left refl h None
            (λ l _.
            here l None (rw (le-leb low x j, le-leb x b k) (broken s entry (tail l) m.matches))))

        pub walk_turn : (q : ℕ) → Matched R s (p + 1) (Some q) → Walking s at n q (i + 1) (x + 1)
        unfolding read_entries entry tail
        walk_turn q m =
            let c = g.count in
            record {
              left = g.left - 1;
              count = omega arith;
              high = ends_in s entry q m.matches;
              back = λ v z.
                  more_left g.left refl h v
                  (λ l f.
                  here l v
                  (rw (le-leb low x j, le-leb x b k)
                  (goes_on s entry (tail l) q v m.matches
                  (λ a.
                  made s (read_entries (R (length s)) b l (suc x) (drop q s)) (λ z. (x, a) ∷ z) v (again l f v z)))));
            }
          where
            again : (l : ℕ) → g.left ≡ suc l → (v : Option ℕ) → Entries s (g.left - 1) (x + 1) (drop q s) v
                → Entries s l (suc x) (drop q s) v
            again l f v z =
                let d : g.left - 1 ≡ l = omega arith in
                subst (λ y. Entries s l y (drop q s) v) (add-one x)
                (subst (λ l. Entries s l (x + 1) (drop q s) v) d z)

-- a counted map
module _ {A : Type 0} (R : ℕ → Reader A) (most b : ℕ) (s : List ℕ) (at : ℕ) where
  pub map_out : length s ≤ at → Matched (map_of R most b) s at None
  unfolding map_of
  map_out h = record { matches = rw (drop_of_length-le s h) tt }

  module _ (inside : at < length s) (n : ℕ) (ni : n ≡ get_or s at 0) where
    counted_at : (w : Option ℕ) → Matches s (read_map (R (length s)) most b (n ∷ drop (at + 1) s)) w
        → Matched (map_of R most b) s at w
    unfolding map_of
    counted_at w z =
        record {
          matches
              = subst (λ l. Matches s (read_map (R (length s)) most b l) w)
              (sym (cons_at s at inside ∙ ap (λ y. y ∷ drop (at + 1) s) (sym ni))) z;
        }

    pub map_many : (t : ℕ) → t ≡ b → most ≡ b + 1 → t + 1 < n → Matched (map_of R most b) s at None
    map_many t d m h = counted_at None (rw (lt-leb n most (omega arith)) tt)

    pub map_in : (t : ℕ) → t ≡ b → most ≡ b + 1 → n ≤ t + 1 → (w : Option ℕ) → Matched (list_of R b n) s (at + 1) w
        → Matched (map_of R most b) s at w
    unfolding list_of
    map_in t d m h w z = counted_at w (rw (le-leb n most (omega arith)) z.matches)
