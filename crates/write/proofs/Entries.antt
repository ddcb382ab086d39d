-- An entry of a store that stands in words: its key, its cell, and what follows it.
use Prim.Native.Nat.{ℕ, ◌+◌}
use mathlib.Core.Path.{◌≡◌, sym}
use mathlib.Core.List.{List, ◌∷◌}
use native.Mathlib.Omega.{arith}
use lib.ListN.{get_or}
use Rattle.calculus.specs.Stores.{Cell, Store}
use Rattle.calculus.specs.Images.{entries, cell_words, ValidCell}
use Rattle.image.specs.Standing.{Stands, EndsAt}
use Rattle.image.proofs.Standing.{headed, stands_left, stands_right, stands_at}
use Rattle.image.proofs.Seeking.{cell_ends}
use Rattle.write.specs.Cursor.{part}
use Rattle.write.proofs.Cursors.{part_stands}

pub record Entered (s : List ℕ) (p e : ℕ) (x : ℕ × Cell) (m : Store) : Type 0 where
  pub is : get_or s p 0 ≡ x.0
  pub whole : part s p e ≡ x.0 ∷ cell_words x.1
  pub more : Stands s e (entries cell_words m)

pub entered : (s : List ℕ) (p e : ℕ) (x : ℕ × Cell) (m : Store) → ValidCell x.1 → EndsAt s (p + 1) e
    → Stands s p (entries cell_words (x ∷ m)) → Entered s p e x m
entered s p e x m ok ends h =
    let hd = headed h in
    let w = cell_words x.1 in
    let i = cell_ends s (p + 1) e ends x.1 ok (stands_left w (entries cell_words m) hd.more) in
    record {
      is = hd.is;
      whole = part_stands e (stands_left (x.0 ∷ w) (entries cell_words m) h) (omega arith);
      more = stands_at e (sym i) (stands_right w (entries cell_words m) hd.more);
    }
