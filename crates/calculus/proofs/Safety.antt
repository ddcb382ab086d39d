-- What every state that a passed script reaches keeps (`Good`), and that a change of one task alone keeps it.
use Prim.Native.Nat.{ℕ, ◌<◌}
use mathlib.Core.Bool.{Bool}
use mathlib.Core.List.{[]}
use mathlib.Core.Logic.{◌⊎◌, inl, ◌≢◌, inr}
use mathlib.Core.Option.{some}
use mathlib.Core.Path.{◌≡◌, ap, sym, ◌∙◌, refl}
use native.Mathlib.Decide.{ℕ_discrete}
use lib.Dec.{T}
use Rattle.calculus.specs.Options.{◌▸◌}
use Rattle.calculus.specs.Maps.{get, Rising, put}
use Rattle.calculus.specs.Types.{ScriptType}
use Rattle.calculus.specs.Stores.{Cell, content, Store}
use Rattle.calculus.specs.States.{view, Task, State}
use Rattle.calculus.specs.Typing.{Assignment, World, HasType, nothing}
use Rattle.calculus.proofs.Options.{▸-some, none≢some}
use Rattle.calculus.proofs.Maps.{get_none, get_put_same, get_put_other, rising_put, put_cases}
use Rattle.calculus.proofs.Stores.{Every, every_overlaid}
use Rattle.calculus.proofs.TypingLaws.{SubT, SubW}
use Rattle.calculus.proofs.Views.{Within, under_within, over_seen, within_same}
use Rattle.calculus.proofs.Retyping.{weaken}

-- what a task may name: the locations of its view, typed by C, and the revision numbers of P
abbrev pub world : Assignment → (ℕ → Bool) → Task → World
world C P me = record { cells = λ l. get l (view me) ▸ λ c. C l; tasks = P }

-- a cell has the type of its location
abbrev pub Fits : Assignment → World → ℕ → Cell → Type 0
Fits C W l c = (A : ScriptType) × (C l ≡ some A) × HasType W nothing (content c) A

-- the task's expression has type A, and its cells fit
pub record Fine (C : Assignment) (P : ℕ → Bool) (A : ScriptType) (me : Task) : Type 0 where
  pub expression : HasType (world C P me) nothing me.expression A
  pub snapshot : Every (Fits C (world C P me)) me.snapshot
  pub local : Every (Fits C (world C P me)) me.local

pub record Good (A : ScriptType) (s : State) : Type 0 where
  pub rising : Rising s
  -- the type of each location, and of each task's expression; main's is A
  pub cells : Assignment
  pub types : ℕ → ScriptType
  pub main_type : types 0 ≡ A
  -- `may r q`: r may name q; nobody may name main, and it lives while any task does
  pub may : ℕ → ℕ → Bool
  pub main_unnamed : (r : ℕ) → T (may r 0) → ⊥
  pub main_lives : (s ≡ []) ⊎ ((M : Task) × (get 0 s ≡ some M))
  pub fine : (r : ℕ) (me : Task) → get r s ≡ some me → Fine cells (may r) (types r) me
  -- who may be named ranks lower, and its namer sees the locations of its snapshot
  pub rank : ℕ → ℕ
  pub below : (r : ℕ) (me : Task) → get r s ≡ some me → (q : ℕ) (other : Task) → get q s ≡ some other
      → T (may r q) → (rank q < rank r) × Within other.snapshot (view me)

pub fits_view : {C : Assignment} {P : ℕ → Bool} {A : ScriptType} {me : Task} → Fine C P A me
    → Every (Fits C (world C P me)) (view me)
fits_view {C} {P} {A} {me} f =
    every_overlaid (Fits C (world C P me)) me.snapshot me.local f.snapshot f.local

-- D types the locations that the task sees as C does
abbrev pub Agree : Assignment → Assignment → Task → Type 0
Agree C D me = (l : ℕ) (c : Cell) (A : ScriptType) → get l (view me) ≡ some c → C l ≡ some A → D l ≡ some A

pub world_grows : (C D : Assignment) (P Q : ℕ → Bool) (me now : Task) → Within (view me) (view now) → Agree C D me
    → SubT P Q → SubW (world C P me) (world D Q now)
world_grows C D P Q me now w k p =
    record {
      cells =
          λ l A h.
          let (c, x, y) = ▸-some (get l (view me)) (λ c. C l) h in
          let (d, z) = w l c x in rw z (k l c A x y);
      tasks = p;
    }

pub fits_grows : (C D : Assignment) {U W : World} (me : Task) (m : Store) → Within m (view me) → Agree C D me
    → SubW U W → Every (Fits C U) m → Every (Fits D W) m
fits_grows C D me m w k sub f l c h =
    let (A, p, d) = f l c h in
    let (b, q) = w l c h in (A, k l b A q p, weaken sub d)

pub snapshot_seen : (me : Task) → Within me.snapshot (view me)
snapshot_seen me = under_within me.snapshot me.local

pub local_seen : (me : Task) → Within me.local (view me)
local_seen me l c h = (c, over_seen me.snapshot me.local l c h)

-- a task stays fine where what it sees keeps its types
pub fine_agrees : {C D : Assignment} {P : ℕ → Bool} {A : ScriptType} {me : Task} → Agree C D me → Fine C P A me
    → Fine D P A me
fine_agrees {C} {D} {P} {A} {me} k f =
    let sub = world_grows C D P P me me (within_same (view me)) k (λ n t. t) in
    record {
      expression = weaken sub f.expression;
      snapshot = fits_grows C D me me.snapshot (snapshot_seen me) k sub f.snapshot;
      local = fits_grows C D me me.local (local_seen me) k sub f.local;
    }

-- main stays
pub main_here : {s : State} (r : ℕ) {me : Task} → get r s ≡ some me → (s ≡ []) ⊎ ((M : Task) × (get 0 s ≡ some M))
    → (M : Task) × (get 0 s ≡ some M)
main_here r h (inl e) = none≢some (sym (get_none r) ∙ ap (get r) (sym e) ∙ h)
main_here r h (inr x) = x

pub put_keeps_main : (s : State) (r : ℕ) (now : Task) → (M : Task) × (get 0 s ≡ some M)
    → (M : Task) × (get 0 (put r now s) ≡ some M)
put_keeps_main s r now (M, h) = go (ℕ_discrete 0 r)
  where
    go : Dec (0 ≡ r) → (M : Task) × (get 0 (put r now s) ≡ some M)
    go (yes p) = (now, rw p (get_put_same r now s))
    go (no d) = (M, get_put_other r 0 now s d ∙ h)

-- where a task was before a step: with the same snapshot, and seeing no more than now
abbrev pub Was : State → ℕ → Task → Type 0
Was s q M = (old : Task) × (get q s ≡ some old) × (old.snapshot ≡ M.snapshot) × Within (view old) (view M)

-- the change of one task
module _ {A : ScriptType} {s : State} (g : Good A s) (r : ℕ) {me : Task} (live : get r s ≡ some me) (now : Task) where
  -- the tasks after it
  abbrev pub Now : ℕ → Task → Type 0
  Now q M = ((q ≡ r) × (now ≡ M)) ⊎ ((q ≢ r) × (get q s ≡ some M))

  pub was : me.snapshot ≡ now.snapshot → Within (view me) (view now) → (q : ℕ) (M : Task) → Now q M → Was s q M
  was e w q M (inl (p, i)) = (me, rw p live, rw (← i) e, rw (← i) w)
  was e w q M (inr (d, h)) = (M, h, refl, within_same (view M))

  pub changed_good : (D : Assignment) → me.snapshot ≡ now.snapshot → Within (view me) (view now)
      → Fine D (g.may r) (g.types r) now
      → ((q : ℕ) (M : Task) → get q s ≡ some M → Fine D (g.may q) (g.types q) M) → Good A (put r now s)
  changed_good D e w f others =
      record {
        rising = rising_put r now s g.rising;
        cells = D;
        types = g.types;
        main_type = g.main_type;
        may = g.may;
        main_unnamed = g.main_unnamed;
        main_lives = inr (put_keeps_main s r now (main_here r live g.main_lives));
        fine = λ q M h. fine q M (put_cases q r now M s h);
        rank = g.rank;
        below =
            λ q M h x N k t.
            below q M (was e w q M (put_cases q r now M s h)) x N (was e w x N (put_cases x r now N s k)) t;
      }
    where
      fine : (q : ℕ) (M : Task) → Now q M → Fine D (g.may q) (g.types q) M
      fine q M (inl (p, i)) = rw (p, ← i) f
      fine q M (inr (d, h)) = others q M h

      below : (q : ℕ) (M : Task) → Was s q M → (x : ℕ) (N : Task) → Was s x N → T (g.may q x)
          → (g.rank x < g.rank q) × Within N.snapshot (view M)
      below q M (M₀, a, e, v) x N (N₀, b, f, w) t =
          let (lower, seen) = g.below q M₀ a x N₀ b t in
          (lower, λ l c h. let (d, i) = seen l c (rw f h) in v l d i)
