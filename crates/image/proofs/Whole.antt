-- A section and a whole image end where their readers stop.
use Prim.Native.Nat.{ℕ, ◌≤◌, ◌<◌}
use mathlib.Core.Bool.{Bool}
use mathlib.Core.List.{List, [], ◌∷◌}
use mathlib.Core.Option.{Option as Maybe, none, some}
use mathlib.Core.Path.{◌≡◌, refl, sym, ap, ◌∙◌}
use native.Mathlib.Omega.{arith}
use lib.Dec.{leb, eqb}
use lib.ListN.{length, drop, length-drop}
use borrow.Author.Tests.{le-leb, lt-leb, eq-eqb, ne_eqb}
use Rattle.calculus.specs.Options.{◌▸◌}
use Rattle.calculus.specs.Expressions.{Expression}
use Rattle.calculus.specs.Reading.{wholly}
use Rattle.calculus.specs.Stores.{Store}
use Rattle.calculus.specs.States.{Task, State}
use Rattle.calculus.specs.Images.{read_map, read_closed, read_cell, read_task, state_of}
use Rattle.words.specs.Walks.{walk_of, is_there, closed_end_of}
use Rattle.std.specs.Prelude.{Option, Some, None, nat_eq}
use Rattle.std.specs.Option.{option_eq}
use Rattle.image.specs.Matches.{Matches, Matched, map_of}
use Rattle.image.proofs.Readers.{broken, goes_on, made}
use Rattle.image.proofs.Values.{closed_matched}

-- a section
task_of : Store → Store → Expression → Task
task_of a b e = record { snapshot = a; local = b; expression = e }

module _ (s : List ℕ) (at : ℕ) where
  abbrev store : ℕ → Maybe (Store × List ℕ)
  store p = read_map (read_cell (length s)) 256 255 (drop p s)

  abbrev last : Store → Store × List ℕ → Maybe (Task × List ℕ)
  last x b = read_closed (length s) b.1 ▸ λ e. some (task_of x b.0 e.0, e.1)

  abbrev second : Store × List ℕ → Maybe (Task × List ℕ)
  second a = read_map (read_cell (length s)) 256 255 a.1 ▸ last a.0

  section : (v : Option ℕ) → Matches s (store at ▸ second) v → Matched read_task s at v
  unfolding task_of
  section v h = record { matches = h }

  pub section_snapshot : Matched (map_of read_cell 256 255) s at None → Matched read_task s at None
  unfolding map_of
  section_snapshot m = section None (broken s (store at) second m.matches)

  module _ (a : ℕ) (m : Matched (map_of read_cell 256 255) s at (Some a)) where
    after : (u : Option ℕ) → ((x : Store) → Matches s (store a ▸ last x) u) → Matched read_task s at u
    unfolding map_of
    after u f = section u (goes_on s (store at) second a u m.matches f)

    pub section_local : Matched (map_of read_cell 256 255) s a None → Matched read_task s at None
    unfolding map_of
    section_local k = after None (λ x. broken s (store a) (last x) k.matches)

    pub section_whole : (b : ℕ) → Matched (map_of read_cell 256 255) s a (Some b) → (u : Option ℕ)
        → u ≡ walk_of (closed_end_of s b) → Matched read_task s at u
    unfolding map_of
    section_whole b k u q =
        after u
        (λ x.
        goes_on s (store a) (last x) b u k.matches
        (λ y. made s (read_closed (length s) (drop b s)) (task_of x y) u (closed_matched s b u q).matches))

-- the whole
pub valid_long : (s : List ℕ) → 8192 < length s → leb (length s) 8192 ≡ is_there (state_of s)
unfolding state_of
valid_long s h = rw (lt-leb (length s) 8192 h) refl

module _ (s : List ℕ) (h : length s ≤ 8192) where
  state : Maybe (State × List ℕ)
  state = read_map (read_task (length s)) 64 63 s

  whole_is : state_of s ≡ wholly state
  unfolding state_of state
  whole_is = rw (le-leb (length s) 8192 h)

  pub valid_end : (w : Option ℕ) (b : Bool) → Matched (map_of read_task 64 63) s 0 w
      → b ≡ option_eq nat_eq w (Some (length s)) → b ≡ is_there (state_of s)
  unfolding map_of state
  valid_end w b m q = q ∙ sym (ap is_there whole_is ∙ go state w m.matches)
    where
      go : (o : Maybe (State × List ℕ)) (w : Option ℕ) → Matches s o w
          → is_there (wholly o) ≡ option_eq nat_eq w (Some (length s))
      go none None z = refl
      go none (Some e) z = absurd z
      go (some p) None z = absurd z
      go (some (x, [])) (Some e) z =
          let l = ap length z.0 ∙ length-drop e s in
          let k = z.1 in
          sym (eq-eqb e (length s) (omega arith))
      go (some (x, y ∷ r)) (Some e) z =
          let l = ap length z.0 ∙ length-drop e s in
          sym (ne_eqb e (length s) (λ i. omega arith))
