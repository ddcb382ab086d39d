-- What the overlay of two stores on words promises, for all valid stores that stand there.
use Rattle.std.specs.Prelude.{ℕ, suc, ◌+◌, ◌≤◌, ◌<◌, ◌≡◌, ◌⊎◌, List, ◌∷◌, length, get_or}
use Rattle.std.specs.declared.ops.Range.{Range}
use Rattle.std.specs.declared.cmp.Ordering.{Ordering}
use Rattle.std.specs.declared.cmp.Ordering.TheVariants.{Less, Equal, Greater}
use Rattle.calculus.specs.Maps.{overlaid}
use Rattle.calculus.specs.Stores.{Cell, Store}
use Rattle.calculus.specs.Images.{entries, counted, cell_words, Listed, ValidCell}
use Rattle.image.specs.Standing.{Stands, EndsAt}
use Rattle.write.specs.declared.overlay.Rest.{Rest}
use Rattle.write.specs.declared.overlay.Turn.{Turn}
use Rattle.write.specs.Cursor.{part, Wrote}

-- whose entry is next, by what is left of the two stores and the keys of their next entries
abbrev pub IsNext : List ℕ → Rest → Rest → Ordering → Type 0
IsNext s a b Less = (b.count ≡ 0) ⊎ ((0 < a.count) × (get_or s a.at 0 < get_or s b.at 0))
IsNext s a b Equal = (0 < a.count) × (0 < b.count) × (get_or s a.at 0 ≡ get_or s b.at 0)
IsNext s a b Greater = (0 < b.count) × ((a.count ≡ 0) ⊎ (get_or s b.at 0 < get_or s a.at 0))

-- an entry is its key, one word, and its cell, which ends where the next entry starts
pub record SplitFirst (s : List ℕ) (a : Rest) (entry : Range ℕ) (r : Rest) : Type 0 where
  pub words : entry ≡ record { start = a.at; end = r.at }
  pub ends : EndsAt s (a.at + 1) r.at
  pub fewer : suc r.count ≡ a.count

-- two valid stores, or what is left of them, that stand in s
pub record TwoStores (s : List ℕ) (a b : Rest) (m n : Store) : Type 0 where
  pub low₁ : ℕ
  pub low₂ : ℕ
  pub valid₁ : Listed ValidCell 255 low₁ m
  pub valid₂ : Listed ValidCell 255 low₂ n
  pub at₁ : Stands s a.at (entries cell_words m)
  pub at₂ : Stands s b.at (entries cell_words n)
  pub count₁ : length m ≡ a.count
  pub count₂ : length n ≡ b.count

-- the overlay's first entry stands there, and the rest is the overlay of what is left
pub record Turned (s : List ℕ) (r : Turn) (all : Store) : Type 0 where
  pub key : ℕ
  pub cell : Cell
  pub m : Store
  pub n : Store
  pub left : TwoStores s r.first r.second m n
  pub entry : part s r.entry.start r.entry.end ≡ key ∷ cell_words cell
  pub rest : all ≡ (key, cell) ∷ overlaid m n

pub record Turns (s : List ℕ) (a b : Rest) (r : Turn) : Type 0 where
  pub end : r.entry.end ≤ length s
  pub high₁ : r.first.at ≤ length s
  pub high₂ : r.second.at ≤ length s
  pub fewer : r.first.count + r.second.count < a.count + b.count
  pub sees : (m n : Store) → TwoStores s a b m n → Turned s r (overlaid m n)

pub record WroteOverlay (s : List ℕ) (a b : Rest) (o : List ℕ) (to r : ℕ) (o' : List ℕ) : Type 0 where
  pub high : r ≤ length o + 1
  pub size : length o' ≡ length o
  pub wrote : (m n : Store) → TwoStores s a b m n → Wrote (counted cell_words (overlaid m n)) o to r o'
