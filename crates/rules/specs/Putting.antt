-- What putting one entry into the local store of a revision at work promises.
use Rattle.std.specs.Prelude.{ℕ, ◌+◌, ◌<◌, ◌≤◌, ◌≡◌, List, ◌++◌, length, get_or}
use Rattle.calculus.specs.Maps.{put}
use Rattle.calculus.specs.Stores.{Cell, Store}
use Rattle.calculus.specs.Images.{counted, cell_words, ValidStore}
use Rattle.image.specs.Standing.{Stands}
use Rattle.write.specs.Cursor.{part, Wrote}
use Rattle.rules.specs.declared.site.Site.{Site}

-- the site and the end of the cell's words lie in s
pub record PutPlace (s : List ℕ) (site : Site) (b : ℕ) : Type 0 where
  pub local : site.local < length s
  pub expression : site.expression ≤ length s
  pub place : site.place ≤ length s
  pub count : get_or s site.local 0 ≤ 256
  pub end : b ≤ length s

-- the words of s with the cell c, which stands from a to b, at l in the local store m that stands there, and with new
-- for those from the redex up to b; of any words, the buffer keeps its length and the cursor its bound
pub record WroteStored (s : List ℕ) (site : Site) (l a b : ℕ) (new o : List ℕ) (r : ℕ) (o' : List ℕ) : Type 0 where
  pub high : r ≤ length o + 1
  pub size : length o' ≡ length o
  pub wrote : (m : Store) (c : Cell) → ValidStore m → Stands s site.local (counted cell_words m)
      → site.expression ≡ site.local + length (counted cell_words m) → part s a b ≡ cell_words c
      → Wrote
      ((part s 0 site.local ++ (counted cell_words (put l c m) ++ part s site.expression site.place))
      ++ (new ++ part s b (length s))) o 0 r o'
