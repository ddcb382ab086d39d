-- A new number is new: a new location is in no view, a new revision number is neither live nor named in any task.
use Prim.Native.Nat.{ℕ}
use mathlib.Core.Bool.{false, Bool, ◌||◌, true}
use mathlib.Core.List.{List, ◌++◌, ◌∷◌, []}
use mathlib.Core.Logic.{◌≢◌}
use mathlib.Core.Option.{none, some}
use mathlib.Core.Path.{subst as along, ap, ◌≡◌, sym, ◌∙◌, refl}
use native.Mathlib.Decide.{ℕ_discrete}
use lib.Dec.{eqb}
use Rattle.calculus.specs.Maps.{keys, Map, get}
use Rattle.calculus.specs.Expressions.{revision}
use Rattle.calculus.specs.Formed.{member}
use Rattle.calculus.specs.Stores.{Cell, content, Store}
use Rattle.calculus.specs.States.{view, Task, State}
use Rattle.calculus.specs.NewNumbers.{named, taken_locations, new_location, named_in_store, named_in_task}
use Rattle.calculus.specs.NewNumbers.{taken_revisions, new_revision}
use Rattle.calculus.proofs.Options.{false→ne, some_inj, none≢some}
use Rattle.calculus.proofs.Maps.{get_none, get_tail, get_head, get_overlaid}
use Rattle.calculus.proofs.Places.{true≢false}
use Rattle.calculus.proofs.Members.{member_append}
use Rattle.calculus.proofs.Stores.{Every}
use Rattle.calculus.proofs.NewNumbers.{smallest_is}

-- what is not in a list is in none of its parts
pub absent_append : (k : ℕ) (a b : List ℕ) → member k (a ++ b) ≡ false → (member k a ≡ false) × (member k b ≡ false)
absent_append k a b h = go (member k a) (member k b) (sym (member_append k a b) ∙ h)
  where
    go : (x y : Bool) → (x || y) ≡ false → (x ≡ false) × (y ≡ false)
    go true y p = true≢false p
    go false y p = (refl, p)

pub absent_cons : (k j : ℕ) (a : List ℕ) → member k (j ∷ a) ≡ false → (k ≢ j) × (member k a ≡ false)
unfolding member
absent_cons k j a h = go (eqb k j) refl h
  where
    go : (b : Bool) → eqb k j ≡ b → (b || member k a) ≡ false → (k ≢ j) × (member k a ≡ false)
    go true p q = true≢false q
    go false p q = (false→ne k j p, q)

pub keys_none : {A : Type 0} (k : ℕ) (m : Map A) → member k (keys m) ≡ false → get k m ≡ none
unfolding keys
keys_none k [] h = get_none k
keys_none k (e ∷ m) h = let (n, p) = absent_cons k e.0 (keys m) h in get_tail k e m n ∙ keys_none k m p

-- a fact of each entry of a map that comes to light along the list is one of what the map holds
pub each_get : {A : Type 0} (F : ℕ → A → Type 0) (e : ℕ × A) (m : Map A) → F e.0 e.1
    → ((k : ℕ) (a : A) → get k m ≡ some a → F k a) → (k : ℕ) (a : A) → get k (e ∷ m) ≡ some a → F k a
each_get F e m front back k a h = go (ℕ_discrete k e.0)
  where
    go : Dec (k ≡ e.0) → F k a
    go (yes p) =
        along (F k) (some_inj (sym (get_head e m) ∙ ap (λ k. get k (e ∷ m)) (sym p) ∙ h))
        (along (λ k. F k e.1) (sym p) front)
    go (no n) = back k a (sym (get_tail k e m n) ∙ h)

-- a location that is not taken
abbrev Unkept : ℕ → Task → Type 0
Unkept l me = (member l (keys me.snapshot) ≡ false) × (member l (keys me.local) ≡ false)

untaken_location : (l : ℕ) (s : State) → member l (taken_locations s) ≡ false
    → (r : ℕ) (me : Task) → get r s ≡ some me → Unkept l me
unfolding taken_locations
untaken_location l [] h = λ r me k. none≢some (sym (get_none r) ∙ k)
untaken_location l (e ∷ s) h =
    let (a, bc) = absent_append l (keys e.1.snapshot) (keys e.1.local ++ taken_locations s) h in
    let (b, c) = absent_append l (keys e.1.local) (taken_locations s) bc in
    each_get (λ r. Unkept l) e s (a, b) (untaken_location l s c)

pub new_location_unseen : (s : State) (l : ℕ) → new_location s ≡ some l
    → (r : ℕ) (me : Task) → get r s ≡ some me → get l (view me) ≡ none
new_location_unseen s l h r me k =
    let (a, b) = untaken_location l s (smallest_is 256 0 (taken_locations s) h).free r me k in
    rw (get_overlaid l me.snapshot me.local, keys_none l me.local b) (keys_none l me.snapshot a)

-- a revision number that no cell of the stores and not the expression names
abbrev pub NotIn : ℕ → ℕ → Cell → Type 0
NotIn r l c = member r (named revision (content c)) ≡ false

pub record Unnamed (r : ℕ) (me : Task) : Type 0 where
  pub snapshot : Every (NotIn r) me.snapshot
  pub local : Every (NotIn r) me.local
  pub expression : member r (named revision me.expression) ≡ false

store_unnamed : (r : ℕ) (m : Store) → member r (named_in_store revision m) ≡ false
    → Every (NotIn r) m
unfolding named_in_store
store_unnamed r [] h = λ l c k. none≢some (sym (get_none l) ∙ k)
store_unnamed r (e ∷ m) h =
    let (a, b) = absent_append r (named revision (content e.1)) (named_in_store revision m) h in
    each_get (NotIn r) e m a (store_unnamed r m b)

task_unnamed : (r : ℕ) (me : Task) → member r (named_in_task revision me) ≡ false → Unnamed r me
unfolding named_in_task
task_unnamed r me h =
    let in_local = named_in_store revision me.local in
    let in_expression = named revision me.expression in
    let (a, bc) = absent_append r (named_in_store revision me.snapshot) (in_local ++ in_expression) h in
    let (b, c) = absent_append r in_local in_expression bc in
    record { snapshot = store_unnamed r me.snapshot a; local = store_unnamed r me.local b; expression = c }

untaken_revision : (r : ℕ) (s : State) → member r (taken_revisions s) ≡ false
    → (q : ℕ) (me : Task) → get q s ≡ some me → (r ≢ q) × Unnamed r me
unfolding taken_revisions
untaken_revision r [] h = λ q me k. none≢some (sym (get_none q) ∙ k)
untaken_revision r (e ∷ s) h =
    let (n, ab) = absent_cons r e.0 (named_in_task revision e.1 ++ taken_revisions s) h in
    let (a, b) = absent_append r (named_in_task revision e.1) (taken_revisions s) ab in
    each_get (λ q me. (r ≢ q) × Unnamed r me) e s (n, task_unnamed r e.1 a) (untaken_revision r s b)

pub new_revision_unnamed : (s : State) (r : ℕ) → new_revision s ≡ some r
    → (q : ℕ) (me : Task) → get q s ≡ some me → (r ≢ q) × Unnamed r me
new_revision_unnamed s r h = untaken_revision r s (smallest_is 64 0 (taken_revisions s) h).free
