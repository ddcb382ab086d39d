-- What join writes: two stores overlaid, and the sections without the joined one.
use Rattle.std.specs.Prelude.{ℕ, ◌+◌, ◌-◌, ◌≤◌, ◌<◌, ◌≡◌, List, [], ◌∷◌, ◌++◌, length, get_or, Result}
use Rattle.calculus.specs.Maps.{overlaid}
use Rattle.calculus.specs.Stores.{Store}
use Rattle.calculus.specs.States.{State}
use Rattle.calculus.specs.Images.{counted, cell_words, task_words, image, ValidStore, Valid}
use Rattle.image.specs.Standing.{Stands}
use Rattle.image.specs.Cuts.{place_in, seek_of}
use Rattle.write.specs.Cursor.{part, Wrote}
use Rattle.rules.specs.declared.site.Site.{Site}
use Rattle.rules.specs.Splicing.{spliced}
use Rattle.rules.specs.Work.{Working}

-- r is the place of q among the sections of the valid state whose image s is
pub record Finds (s : List ℕ) (q : ℕ) (r : Result ℕ ℕ) : Type 0 where
  pub high : place_in r ≤ length s
  pub answer : (st : State) → Valid st → s ≡ image st → r ≡ seek_of task_words 1 q st

-- the store at a overlaid by that at b was written
pub record WroteOverlaid (s : List ℕ) (a b : ℕ) (o : List ℕ) (to r : ℕ) (o' : List ℕ) : Type 0 where
  pub high : r ≤ length o + 1
  pub size : length o' ≡ length o
  pub wrote : (x y : Store) → ValidStore x → ValidStore y → Stands s a (counted cell_words x)
      → Stands s b (counted cell_words y)
      → Wrote (counted cell_words (overlaid x y)) o to r o'

-- a join of the revision whose local store stands at `local`
pub record Joinable (s : List ℕ) (site : Site) (local : ℕ) : Type 0 where
  pub working : Working 14 s site
  pub inside : local < length s
  pub few : get_or s local 0 ≤ 256

-- one section less, that from `from` to `end`; the local store of the site overlaid by that at `local`; unit at the
-- place
pub record WroteJoined (s : List ℕ) (site : Site) (from end local : ℕ) (o : List ℕ) (r : ℕ) (o' : List ℕ) : Type 0 where
  pub wrote : (x y : Store) → ValidStore x → ValidStore y → Stands s site.local (counted cell_words x)
      → Stands s local (counted cell_words y)
      → Wrote
      ((get_or s 0 0 - 1) ∷ (spliced s 1 site.local from end [] ++ (counted cell_words (overlaid x y)
      ++ (part s site.expression site.place ++ (0 ∷ spliced s (site.place + 3) (length s) from end [])))))
      o 0 r o'
