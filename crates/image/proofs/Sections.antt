-- The parts of a section, and the value of a location in a store and in a view.
use Prim.Native.Nat.{ℕ, ◌+◌, ◌≤◌, ◌<◌}
use mathlib.Core.List.{List, ◌++◌}
use mathlib.Core.Option.{Option as Maybe, none, some}
use mathlib.Core.Path.{◌≡◌, refl, sym, ap, ◌∙◌, subst}
use native.Mathlib.Omega.{arith}
use lib.ListN.{length, get_or, length-append}
use Rattle.std.specs.Prelude.{MatchOption, Option, Some, None, Result, Ok, Err, min}
use Rattle.std.specs.Result.{result_ok}
use Rattle.calculus.specs.Maps.{get}
use Rattle.calculus.specs.Words.{words}
use Rattle.calculus.specs.Stores.{Cell, Store}
use Rattle.calculus.specs.Images.{entries, counted, cell_words, task_words, Listed, ValidCell, ValidStore, ValidTask}
use Rattle.calculus.proofs.Maps.{or_else, get_overlaid}
use Rattle.calculus.proofs.Validity.{listed_rising}
use Rattle.image.specs.declared.parts.Parts.{Parts}
use Rattle.image.specs.Standing.{Stands, EndsAt}
use Rattle.image.specs.Cuts.{before, onward, beyond, hits, Skips, Past, Seeks, PartsAt, CellAt, ValueIn, Found}
use Rattle.image.proofs.Standing.{headed, stands_left, stands_right, stands_at, stands_as, stands_fits}
use Rattle.image.proofs.Left.{Left, left_none, left_some, left_next}
use Rattle.image.proofs.Seeking.{before_onward, hit, miss_get, entries_append, placed_hit, placed_miss, entry_past}

-- entries of a store that are left to a loop over them and end at e: the next one starts within the words, and those after
-- it end at e too
module _ {s : List ℕ} {n p i e : ℕ}
    (f : Left cell_words ValidCell 255 s n p i (λ y. p + length (entries cell_words y) ≡ e)) (l : i < n) where
  left_inside : p < length s
  left_inside = left_some cell_words ValidCell 255 f l (λ y z t h. t.inside)

  left_passed : (q : ℕ) → EndsAt s (p + 1) q
      → Left cell_words ValidCell 255 s n q (i + 1) (λ y. q + length (entries cell_words y) ≡ e)
  left_passed q ends =
      left_next cell_words ValidCell 255 f l q (entry_past s (p + 1) q ends)
      (λ y z t h g. let la = length-append (cell_words y.1) (entries cell_words z) in omega arith)

-- the loop that passes over entries of a store: those that are left end where all of them do
pub record Skipping (s : List ℕ) (at n p i : ℕ) : Type 0 where
  pub high : at ≤ length s → p ≤ length s
  pub sees : (m : Store) (low : ℕ) → Listed ValidCell 255 low m → Stands s at (entries cell_words m) → length m ≡ n
      → Left cell_words ValidCell 255 s n p i
      (λ y. p + length (entries cell_words y) ≡ at + length (entries cell_words m))

pub skip_start : (s : List ℕ) (at n : ℕ) → Skipping s at n at 0
skip_start s at n =
    record {
      high = λ h. h;
      sees = λ m low u h c.
          record { map = m; low = low; listed = u; stand = h; count = omega arith; holds = refl };
    }

module _ (s : List ℕ) (at n p i : ℕ) (g : Skipping s at n p i) where
  pub skip_done : n ≤ i → (r : ℕ) → r ≡ min p (length s) → Skips s at n r
  skip_done l r is =
      record {
        high = omega arith;
        ends = λ m low u h c b.
            let e = left_none cell_words ValidCell 255 (g.sees m low u h c) l in
            let k = g.high b in
            omega arith;
      }

  pub skip_out : i < n → length s ≤ p → (r : ℕ) → r ≡ min p (length s) → Skips s at n r
  skip_out l o r is =
      record {
        high = omega arith;
        ends = λ m low u h c b.
            let q = left_inside (g.sees m low u h c) l in
            absurd (omega arith);
      }

  pub skip_next : i < n → (q : ℕ) → EndsAt s (p + 1) q → Skipping s at n q (i + 1)
  skip_next l q ends =
      record {
        high = λ h. ends.high;
        sees = λ m low u h c. left_passed (g.sees m low u h c) l q ends;
      }

-- the same loop, begun behind the count of a store: the entries that are left end where the store does
pub record Passing (s : List ℕ) (at n p i : ℕ) : Type 0 where
  pub sees : (x : Store) → ValidStore x → Stands s at (counted cell_words x)
      → Left cell_words ValidCell 255 s n p i
      (λ y. p + length (entries cell_words y) ≡ at + length (counted cell_words x))

-- the loop of `skip` keeps it, as `past_store` begins that loop
pub passing : (s : List ℕ) (at n p i : ℕ) → n ≡ get_or s at 0 → Skipping s (at + 1) n p i → Passing s at n p i
passing s at n p i is g =
    record {
      sees = λ x u h.
          let d = headed h in
          let k = g.sees x 0 u d.more (sym (is ∙ d.is)) in
          let e = k.holds in
          record { map = k.map; low = k.low; listed = k.listed; stand = k.stand; count = k.count; holds = omega arith };
    }

pub passing_start : (s : List ℕ) (at n : ℕ) → n ≡ get_or s at 0 → Passing s at n (at + 1) 0
passing_start s at n is = passing s at n (at + 1) 0 is (skip_start s (at + 1) n)

module _ (s : List ℕ) (at n p i : ℕ) (g : Passing s at n p i) where
  pub passing_done : n ≤ i → at ≤ length s → (r : ℕ) → r ≡ min p (length s)
      → Past (counted cell_words) ValidStore s at r
  passing_done l b r is =
      record {
        high = omega arith;
        ends = λ x u h.
            let e = left_none cell_words ValidCell 255 (g.sees x u h) l in
            let k = stands_fits h b in
            omega arith;
      }

  pub passing_out : i < n → length s ≤ p → (r : ℕ) → r ≡ min p (length s)
      → Past (counted cell_words) ValidStore s at r
  passing_out l o r is =
      record {
        high = omega arith;
        ends = λ x u h.
            let q = left_inside (g.sees x u h) l in
            absurd (omega arith);
      }

  pub passing_next : i < n → (q : ℕ) → EndsAt s (p + 1) q → Passing s at n q (i + 1)
  passing_next l q ends = record { sees = λ x u h. left_passed (g.sees x u h) l q ends }

-- a store ends where as many entries do as its count says
pub store_past : (s : List ℕ) (at n r : ℕ) → n ≡ get_or s at 0 → Skips s (at + 1) n r
    → Past (counted cell_words) ValidStore s at r
store_past s at n r is k =
    record {
      high = k.high;
      ends = λ x u h.
          let d = headed h in
          let i = d.inside in
          let e = k.ends x 0 u d.more (sym (is ∙ d.is)) (omega arith) in
          omega arith;
    }

-- the parts of a section
pub cut : (s : List ℕ) (at local expression end : ℕ) → Past (counted cell_words) ValidStore s at local
    → Past (counted cell_words) ValidStore s local expression → EndsAt s expression end
    → PartsAt s at (record { local = local; expression = expression; end = end })
unfolding task_words
cut s at local expression end a c e =
    record {
      local = a.high;
      expression = c.high;
      order = e.from c.high;
      end = e.high;
      cut = λ me v h.
          let f = counted cell_words me.snapshot in
          let o = counted cell_words me.local in
          let x = words me.expression in
          let i1 : local ≡ at + length f = a.ends me.snapshot v.snapshot (stands_left f (o ++ x) h) in
          let st : Stands s local (o ++ x) = stands_at local (sym i1) (stands_right f (o ++ x) h) in
          let i2 : expression ≡ local + length o = c.ends me.local v.local (stands_left o x st) in
          let i3 : end ≡ expression + length x
          = e.ends me.expression v.expression.0 (stands_at expression (sym i2) (stands_right o x st)) in
          let la = length-append f (o ++ x) in
          let lb = length-append o x in
          record { local = i1; expression = i2; end = omega arith };
    }

pub section_past : (s : List ℕ) (at : ℕ) (c : Parts) → PartsAt s at c → Past task_words ValidTask s at c.end
section_past s at c h = record { high = h.end; ends = λ a u st. (h.cut a u st).end }

-- a cell that is hit stands after its location
pub hit_cell : (s : List ℕ) (at n l : ℕ) (q : Result ℕ ℕ) (p : ℕ) (m : Store) (low : ℕ)
    → Seeks cell_words ValidCell 255 s at n l q → Listed ValidCell 255 low m → Stands s at (entries cell_words m)
    → length m ≡ n → q ≡ Ok p → (c : Cell) × (get l m ≡ some c) × Stands s (p + 1) (cell_words c)
hit_cell s at n l q p m low k u h c t =
    let first = entries cell_words (before l m) in
    let more = entries cell_words (onward l m) in
    let e = placed_hit (hits l m) (at + length first) p (sym t ∙ k.answer m low u h c) in
    let H = hit l m e.0 in
    let split : entries cell_words m ≡ first ++ more
    = ap (entries cell_words) (before_onward l m) ∙ entries_append cell_words (before l m) (onward l m) in
    let st : Stands s p more = stands_at p (sym e.1) (stands_right first more (stands_as split h)) in
    let after = (headed (stands_as (ap (entries cell_words) H.onward) st)).more in
    (H.here, H.get, stands_left (cell_words H.here) (entries cell_words (beyond l m)) after)

pub miss_cell : (s : List ℕ) (at n l : ℕ) (q : Result ℕ ℕ) (p : ℕ) (m : Store) (low : ℕ)
    → Seeks cell_words ValidCell 255 s at n l q → Listed ValidCell 255 low m → Stands s at (entries cell_words m)
    → length m ≡ n → q ≡ Err p → get l m ≡ none
miss_cell s at n l q p m low k u h c t =
    let e = placed_miss (hits l m) (at + length (entries cell_words (before l m))) p
    (sym t ∙ k.answer m low u h c) in
    miss_get l m (listed_rising ValidCell 255 m low u) e.0

-- what a result holds, by its `ok`
answered : (q : Result ℕ ℕ) (p : ℕ) → Some p ≡ result_ok q → q ≡ Ok p
answered (Ok a) p e = cc
answered (Err a) p e = absurd cc

refused : (q : Result ℕ ℕ) → None ≡ result_ok q → (p : ℕ) × (q ≡ Err p)
refused (Ok a) e = absurd cc
refused (Err a) e = (a, refl)

-- the value in a store, and in a view
module _ (s : List ℕ) (store l n : ℕ) (ni : n ≡ get_or s store 0) (q : Result ℕ ℕ)
    (k : Seeks cell_words ValidCell 255 s (store + 1) n l q) where
  pub value_here : (p : ℕ) → Some p ≡ result_ok q → ValueIn s store l (Some (p + 1))
  value_here p is =
      let t = answered q p is in
      record {
        answer = λ m v st.
            let h = headed st in
            let (c, g, at) = hit_cell s (store + 1) n l q p m 0 k v h.more (sym (ni ∙ h.is)) t in
            subst (λ (o : Maybe Cell). CellAt s o (Some (p + 1))) (sym g) at;
      }

  pub value_missing : None ≡ result_ok q → ValueIn s store l None
  value_missing is =
      let (p, t) = refused q is in
      record {
        answer = λ m v st.
            let h = headed st in
            subst (λ (o : Maybe Cell). CellAt s o None)
            (sym (miss_cell s (store + 1) n l q p m 0 k v h.more (sym (ni ∙ h.is)) t)) tt;
      }

-- the local store's value, or else the snapshot's
pub in_view : {P : Type 0} (s : List ℕ) (snapshot local l : ℕ) (a r : Option ℕ) → ValueIn s local l a
    → (P → ValueIn s snapshot l r) → MatchOption a P (λ x. r ≡ Some x) → Found s snapshot local l r
in_view {P} s snapshot local l a r ka to h =
    record {
      answer = λ me v hs ho.
          rw get_overlaid
          (go a h (get l me.local) (ka.answer me.local v.local ho) (get l me.snapshot)
          (λ k. (to k).answer me.snapshot v.snapshot hs));
    }
  where
    go : (a : Option ℕ) → MatchOption a P (λ x. r ≡ Some x) → (x : Maybe Cell) → CellAt s x a
        → (y : Maybe Cell) → (P → CellAt s y r) → CellAt s (or_else x y) r
    go None h none k y f = f h
    go None h (some c) k y f = absurd k
    go (Some p) h none k y f = absurd k
    go (Some p) h (some c) k y f = rw h k
