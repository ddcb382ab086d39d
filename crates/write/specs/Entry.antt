-- What putting one entry into a store on words promises, for every valid store that stands there.
use Rattle.std.specs.Prelude.{ℕ, suc, ◌+◌, ◌≤◌, ◌≡◌, List, length}
use Rattle.calculus.specs.Maps.{put}
use Rattle.calculus.specs.Stores.{Cell, Store}
use Rattle.calculus.specs.Images.{entries, counted, cell_words, ValidStore}
use Rattle.image.specs.Standing.{Stands}
use Rattle.image.specs.Cuts.{before, beyond}
use Rattle.write.specs.declared.entry.Hole.{Hole}
use Rattle.write.specs.Cursor.{part, Wrote}

pub record HoleAt (s : List ℕ) (store l : ℕ) (m : Store) (r : Hole) : Type 0 where
  pub at : r.entry.start ≡ store + 1 + length (entries cell_words (before l m))
  pub after : Stands s r.entry.end (entries cell_words (beyond l m))
  pub end : r.entry.end + length (entries cell_words (beyond l m)) ≡ store + length (counted cell_words m)
  pub count : r.count ≡ suc (length (before l m) + length (beyond l m))

pub record Holes (s : List ℕ) (store l : ℕ) (r : Hole) : Type 0 where
  pub high₁ : r.entry.start ≤ length s
  pub high₂ : r.entry.end ≤ length s
  pub cut : (m : Store) → ValidStore m → Stands s store (counted cell_words m) → HoleAt s store l m r

pub record WrotePut (s : List ℕ) (store end l a b : ℕ) (o : List ℕ) (to r : ℕ) (o' : List ℕ) : Type 0 where
  pub high : r ≤ length o + 1
  pub size : length o' ≡ length o
  pub wrote : (m : Store) (c : Cell) → ValidStore m → Stands s store (counted cell_words m)
      → end ≡ store + length (counted cell_words m) → part s a b ≡ cell_words c
      → Wrote (counted cell_words (put l c m)) o to r o'
