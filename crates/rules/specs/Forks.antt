-- What fork writes: one section more, put in where its number goes.
use Rattle.std.specs.Prelude.{ℕ, ◌+◌, ◌≤◌, ◌≡◌, List, ◌∷◌, ◌++◌, length, get_or}
use Rattle.calculus.specs.States.{Task, view}
use Rattle.calculus.specs.Images.{counted, cell_words, ValidTask}
use Rattle.image.specs.Standing.{Stands}
use Rattle.write.specs.Cursor.{part, Wrote}
use Rattle.rules.specs.declared.site.Site.{Site}
use Rattle.rules.specs.declared.fork.Child.{Child}
use Rattle.rules.specs.Splicing.{spliced}
use Rattle.rules.specs.Work.{Working}

-- a fork at the site, and the child's places in the words
pub record Forkable (s : List ℕ) (site : Site) (child : Child) : Type 0 where
  pub working : Working 13 s site
  pub at : child.at ≤ length s
  pub end : child.end ≤ length s

-- the stores of the valid task `me` stand at the site
pub record StoresAt (s : List ℕ) (site : Site) (me : Task) : Type 0 where
  pub valid : ValidTask me
  pub snapshot : Stands s site.snapshot (counted cell_words me.snapshot)
  pub local : Stands s site.local (counted cell_words me.local)

-- the child's section
unfoldable pub child_words : List ℕ → Child → Task → List ℕ
child_words s child me =
    child.revision ∷ (counted cell_words (view me) ++ (0 ∷ part s child.from child.end))

-- the child's section was written; of any words, the buffer keeps its length and the cursor its bound
pub record WroteChild (s : List ℕ) (site : Site) (child : Child) (o : List ℕ) (to r : ℕ) (o' : List ℕ) : Type 0 where
  pub high : r ≤ length o + 1
  pub size : length o' ≡ length o
  pub wrote : (me : Task) → StoresAt s site me → Wrote (child_words s child me) o to r o'

-- the words from a to b, with the child's section if it goes among them
abbrev pub with : List ℕ → ℕ → ℕ → Child → Task → List ℕ
with s a b child me = spliced s a b child.at child.at (child_words s child me)

-- one section more, and the child's name at the place
pub record WroteForked (s : List ℕ) (site : Site) (child : Child) (o : List ℕ) (r : ℕ) (o' : List ℕ) : Type 0 where
  pub wrote : (me : Task) → StoresAt s site me
      → Wrote
      ((get_or s 0 0 + 1) ∷ (with s 1 site.place child me
      ++ (6 ∷ child.revision ∷ with s child.end (length s) child me)))
      o 0 r o'
