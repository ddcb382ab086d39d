-- A revision at work in a valid image, and what a rule on words promises of it.
use Rattle.std.specs.Prelude.{ℕ, ◌+◌, ◌≡◌, List, ◌∷◌, ◌++◌, length, get_or, Result, Ok, Err}
use Rattle.calculus.specs.States.{Task, State}
use Rattle.calculus.specs.Images.{entries, counted, cell_words, task_words, image, Valid}
use Rattle.calculus.specs.Redexes.{Redex}
use Rattle.calculus.specs.Places.{Context, Decomposed}
use Rattle.calculus.specs.Steps.{by_shape, by_location, Outcome, next, emptied, finished, waits, stuck}
use Rattle.calculus.specs.Steps.{not_live, no_number, act}
use Rattle.place.specs.Search.{prefix}
use Rattle.write.specs.Cursor.{Wrote}
use Rattle.rules.specs.declared.site.Site.{Site}
use Rattle.rules.specs.declared.site.Moved.{Moved}
use Rattle.rules.specs.declared.site.Moved.TheVariants.{To, Emptied}
use Rattle.rules.specs.declared.site.Reason.TheVariants.{Shape, Location}
use Rattle.rules.specs.declared.site.Refusal.{Refusal}
use Rattle.rules.specs.declared.site.Refusal.TheVariants.{Finished, Waits, Stuck, NotLive, NoNumber}

-- `me` is the revision of the site in the valid state st, whose image is s, and R is its redex in the context E
pub record Work (s : List ℕ) (site : Site) (st : State) (me : Task) (E : Context) (R : Redex) : Type 0 where
  pub is : s ≡ image st
  pub valid : Valid st
  pub lower : State
  pub upper : State
  pub split : st ≡ lower ++ ((site.revision, me) ∷ upper)
  pub snapshot : site.snapshot ≡ 1 + length (entries task_words lower) + 1
  pub local : site.local ≡ site.snapshot + length (counted cell_words me.snapshot)
  pub expression : site.expression ≡ site.local + length (counted cell_words me.local)
  pub decomposed : Decomposed me.expression E R
  pub place : site.place ≡ site.expression + length (prefix E)

-- there is such a state, and the redex has that tag
pub record Working (tag : ℕ) (s : List ℕ) (site : Site) : Type 0 where
  pub state : State
  pub me : Task
  pub context : Context
  pub redex : Redex
  pub work : Work s site state me context redex
  pub tagged : get_or s site.place 0 ≡ tag

-- the answer and the buffer after it, by what the rule comes to
abbrev pub Acted : Outcome → List ℕ → Result Moved Refusal → List ℕ → Type 0
Acted (next t) o a o' = (to : ℕ) × (a ≡ Ok (To to)) × Wrote (image t) o 0 to o'
Acted emptied o a o' = (a ≡ Ok Emptied) × (o' ≡ o)
Acted finished o a o' = (a ≡ Err Finished) × (o' ≡ o)
Acted waits o a o' = (a ≡ Err Waits) × (o' ≡ o)
Acted (stuck by_shape) o a o' = (a ≡ Err (Stuck Shape)) × (o' ≡ o)
Acted (stuck by_location) o a o' = (a ≡ Err (Stuck Location)) × (o' ≡ o)
Acted not_live o a o' = (a ≡ Err NotLive) × (o' ≡ o)
Acted no_number o a o' = (a ≡ Err NoNumber) × (o' ≡ o)

-- whatever state the image is of, the rule does to it what the calculus does
pub record Acts (tag : ℕ) (s : List ℕ) (site : Site) (o : List ℕ) (a : Result Moved Refusal) (o' : List ℕ) : Type 0 where
  pub acts : (st : State) (me : Task) (E : Context) (R : Redex) → Work s site st me E R → get_or s site.place 0 ≡ tag
      → Acted (act site.revision st me E R) o a o'
