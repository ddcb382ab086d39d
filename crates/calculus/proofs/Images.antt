-- The image determines the state and the state the image: reading an image gives back its state, and what is read is
-- an image.
-- a reader that reads back what w writes of what is ok, where that is not longer than the fuel
use Prim.Native.Nat.{ℕ, ◌≤◌, ◌+◌, suc, zero}
use mathlib.Core.Bool.{◌&&◌}
use mathlib.Core.List.{List, ◌++◌, [], ◌∷◌, append_assoc, append-nil}
use mathlib.Core.Option.{some, Option, none}
use mathlib.Core.Path.{subst as along, ◌≡◌, ap, refl, sym, ◌∙◌}
use native.Mathlib.Omega.{arith}
use lib.Dec.{leb, le→leb, leb→le}
use lib.ListN.{length, length-append}
use Rattle.calculus.specs.Options.{◌▸◌, test}
use Rattle.calculus.specs.Maps.{Map}
use Rattle.calculus.specs.Expressions.{Expression}
use Rattle.calculus.specs.Words.{words}
use Rattle.calculus.specs.Formed.{closed_in, value}
use Rattle.calculus.specs.Reading.{Reader, read_word, read_expression, wholly}
use Rattle.calculus.specs.Stores.{plain, Store}
use Rattle.calculus.specs.States.{Task, State}
use Rattle.calculus.specs.Images.{image, Listed, entries, read_entries, counted, read_map, Valid, ValidExpression}
use Rattle.calculus.specs.Images.{read_closed, cell_words, ValidCell, read_cell, task_words, ValidTask, read_task}
use Rattle.calculus.specs.Images.{state_of, ValidImage}
use Rattle.calculus.proofs.Options.{test_true, T-both, some_inj, none≢some, ▸-some, test_some, T-fst, T-snd}
use Rattle.calculus.proofs.Reading.{Sound, read_words, words_read, Got}

abbrev Reads : {A : Type 0} → (A → List ℕ) → (A → Type 0) → ℕ → Reader A → Type 0
Reads {A} w ok n r =
    (a : A) (rest : List ℕ) → ok a → length (w a) ≤ n → r (w a ++ rest) ≡ some (a, rest)

▸-is : {A B : Type 0} {m : Option A} (f : A → Option B) {a : A} → m ≡ some a → (m ▸ f) ≡ f a
▸-is f e = ap (λ m. m ▸ f) e

-- so many keys at most fit between the two ends
pub listed_length : {A : Type 0} (ok : A → Type 0) (b : ℕ) (m : Map A) (k : ℕ) → Listed ok b k m → k ≤ suc b
    → length m + k ≤ suc b
unfolding Listed
listed_length ok b [] k r h = omega arith
listed_length ok b (e ∷ m) k (x, y, o, r) h =
    let z = listed_length ok b m (suc e.0) r (omega arith) in omega arith

both_tests : (k x b : ℕ) → k ≤ x → x ≤ b → test (leb k x && leb x b) ≡ some tt
both_tests k x b p q = test_true (leb k x && leb x b) (T-both (leb k x) (leb x b) (le→leb k x p) (le→leb x b q))

module _ {A : Type 0} (w : A → List ℕ) (ok : A → Type 0) (r : Reader A) (b : ℕ) where
  read_entries_lem : (n : ℕ) → Reads w ok n r → (m : Map A) (k : ℕ) (rest : List ℕ) → Listed ok b k m
      → length (entries w m) ≤ n → read_entries r b (length m) k (entries w m ++ rest) ≡ some (m, rest)
  unfolding read_entries Listed
  read_entries_lem n hr [] k rest h l = refl
  read_entries_lem n hr (e ∷ m) k rest (x, y, o, h) l =
      let z = length-append (w e.1) (entries w m) in
      rw (
        both_tests k e.0 b x y,
        append_assoc (w e.1) (entries w m) rest,
        hr e.1 (entries w m ++ rest) o (omega arith),
        read_entries_lem n hr m (suc e.0) rest h (omega arith),
      )
      refl

  abbrev Entered : ℕ → ℕ → List ℕ → Map A × List ℕ → Type 0
  Entered n k ws p = (ws ≡ entries w p.0 ++ p.1) × Listed ok b k p.0 × (length p.0 ≡ n)

  entries_sound : Sound w ok r → (n k : ℕ) (ws : List ℕ) (p : Map A × List ℕ) → read_entries r b n k ws ≡ some p
      → Entered n k ws p
  unfolding read_entries Listed
  entries_sound hr zero k ws p h = along (Entered zero k ws) (some_inj h) (refl, tt, refl)
  entries_sound hr (suc n) k [] p h = none≢some h
  entries_sound hr (suc n) k (x ∷ ws) p h =
      let (u, t, i) = ▸-some (test (leb k x && leb x b)) _ h in
      let (a, ra, j) = ▸-some (r ws) (λ p. read_entries r b n (suc x) p.1 ▸ λ q. some ((x, p.0) ∷ q.0, q.1)) i in
      let (q, rq, l) = ▸-some (read_entries r b n (suc x) a.1) (λ q. some ((x, a.0) ∷ q.0, q.1)) j in
      let ga = hr ws a ra in
      let gq = entries_sound hr n (suc x) a.1 q rq in
      let both = test_some (leb k x && leb x b) t in
      let low = leb→le k x (T-fst (leb k x) (leb x b) both) in
      let high = leb→le x b (T-snd (leb k x) (leb x b) both) in
      along (Entered (suc n) k (x ∷ ws)) (some_inj l)
      (rw append_assoc (cc (ga.0, gq.0)), (low, high, ga.1, gq.1), ap suc gq.2)

  read_map_lem : (n c : ℕ) → Reads w ok n r → (m : Map A) (rest : List ℕ) → Listed ok b 0 m → suc b ≤ c
      → length (counted w m) ≤ n → read_map r c b (counted w m ++ rest) ≡ some (m, rest)
  read_map_lem n c hr m rest h l f =
      let z = listed_length ok b m 0 h (omega arith) in
      rw (test_true (leb (length m) c) (le→leb (length m) c (omega arith)))
      (read_entries_lem n hr m 0 rest h (omega arith))

  map_sound : Sound w ok r → (c : ℕ) → Sound (counted w) (Listed ok b 0) (read_map r c b)
  map_sound hr c [] p h = none≢some h
  map_sound hr c (x ∷ ws) p h =
      let (y, ry, i) = ▸-some (read_word c (x ∷ ws)) (λ n. read_entries r b n.0 0 n.1) h in
      let (u, t, j) = ▸-some (test (leb x c)) (λ u. some (x, ws)) ry in
      let q : read_entries r b x 0 ws ≡ some p
      = along (λ (y : ℕ × List ℕ). read_entries r b y.0 0 y.1 ≡ some p) (sym (some_inj j)) i in
      let g = entries_sound hr x 0 ws p q in
      (cc (g.0, g.2), g.1)

-- expressions and cells
closed_reads : (n : ℕ) → Reads words ValidExpression n (read_closed n)
closed_reads n e rest (f, c) l = rw (read_words e rest n f l, test_true (closed_in [] e) c) refl

closed_sound : (n : ℕ) → Sound words ValidExpression (read_closed n)
closed_sound n ws p h =
    let (a, ra, i) = ▸-some (read_expression n ws) (λ p. test (closed_in [] p.0) ▸ λ u. some p) h in
    let (u, t, j) = ▸-some (test (closed_in [] a.0)) (λ u. some a) i in
    let g = words_read n ws a ra in
    along (Got words ValidExpression ws) (some_inj j) (g.0, (g.1, test_some (closed_in [] a.0) t))

cell_reads : (n : ℕ) → Reads cell_words ValidCell n (read_cell n)
cell_reads n (plain v) rest ((f, c), t) l =
    rw (read_words v rest n f l, test_true (closed_in [] v) c, test_true (value v) t) refl

cell_sound : (n : ℕ) → Sound cell_words ValidCell (read_cell n)
cell_sound n ws p h =
    let (a, ra, i) = ▸-some (read_closed n ws) (λ p. test (value p.0) ▸ λ u. some (plain p.0, p.1)) h in
    let (u, t, j) = ▸-some (test (value a.0)) (λ u. some (plain a.0, a.1)) i in
    let g = closed_sound n ws a ra in
    along (Got cell_words ValidCell ws) (some_inj j) (g.0, (g.1, test_some (value a.0) t))

-- tasks
task_reads : (n : ℕ) → Reads task_words ValidTask n (read_task n)
unfolding task_words
task_reads n me rest o l =
    let s = counted cell_words me.snapshot in
    let t = counted cell_words me.local in
    let e = words me.expression in
    let x = length-append s (t ++ e) in
    let y = length-append t e in
    let last : Store → Store → Expression × List ℕ → Option (Task × List ℕ)
    = λ a b e. some (record { snapshot = a; local = b; expression = e.0 }, e.1) in
    ap (read_task n) (append_assoc s (t ++ e) rest ∙ ap (λ z. s ++ z) (append_assoc t e rest))
    ∙ ▸-is (λ a. read_map (read_cell n) 256 255 a.1 ▸ λ b. read_closed n b.1 ▸ last a.0 b.0)
    (read_map_lem cell_words ValidCell (read_cell n) 255 n 256 (cell_reads n) me.snapshot (t ++ (e ++ rest))
    o.snapshot (omega arith) (omega arith))
    ∙ ▸-is (λ b. read_closed n b.1 ▸ last me.snapshot b.0)
    (read_map_lem cell_words ValidCell (read_cell n) 255 n 256 (cell_reads n) me.local (e ++ rest)
    o.local (omega arith) (omega arith))
    ∙ ▸-is (last me.snapshot me.local) (closed_reads n me.expression rest o.expression (omega arith))

task_sound : (n : ℕ) → Sound task_words ValidTask (read_task n)
unfolding task_words
task_sound n ws p h =
    let last : Store → Store → Expression × List ℕ → Option (Task × List ℕ)
    = λ a b e. some (record { snapshot = a; local = b; expression = e.0 }, e.1) in
    let (a, ra, i)
    = ▸-some (read_map (read_cell n) 256 255 ws)
    (λ a. read_map (read_cell n) 256 255 a.1 ▸ λ b. read_closed n b.1 ▸ last a.0 b.0) h in
    let (b, rb, j) = ▸-some (read_map (read_cell n) 256 255 a.1) (λ b. read_closed n b.1 ▸ last a.0 b.0) i in
    let (e, re, k) = ▸-some (read_closed n b.1) (last a.0 b.0) j in
    let ga = map_sound cell_words ValidCell (read_cell n) 255 (cell_sound n) 256 ws a ra in
    let gb = map_sound cell_words ValidCell (read_cell n) 255 (cell_sound n) 256 a.1 b rb in
    let ge = closed_sound n b.1 e re in
    along (Got task_words ValidTask ws) (some_inj k) (
      rw (
        append_assoc (counted cell_words a.0) (counted cell_words b.0 ++ words e.0) e.1,
        append_assoc (counted cell_words b.0) (words e.0) e.1,
      )
          (cc (ga.0, gb.0, ge.0)),
      record { snapshot = ga.1; local = gb.1; expression = ge.1 },
    )

-- states: the image of a valid state is read as that state, and what is read is the image of a valid state
pub image_read_back : (s : State) → Valid s → state_of (image s) ≡ some s
unfolding state_of image
image_read_back s v =
    let n = length (image s) in
    let p : read_map (read_task n) 64 63 (image s) ≡ some (s, [])
    = ap (read_map (read_task n) 64 63) (sym (append-nil (image s)))
    ∙ read_map_lem task_words ValidTask (read_task n) 63 n 64 (task_reads n) s [] v.tasks (omega arith) (omega arith) in
    rw (test_true (leb (length (image s)) 8192) (le→leb (length (image s)) 8192 v.short), p) refl

wholly_some : {A : Type 0} (o : Option (A × List ℕ)) {a : A} → wholly o ≡ some a → o ≡ some (a, [])
wholly_some none h = none≢some h
wholly_some (some (a, [])) h = ap (λ a. some (a, [])) (some_inj h)
wholly_some (some (a, w ∷ ws)) h = none≢some h

pub read_is_image : (ws : List ℕ) (s : State) → state_of ws ≡ some s → (image s ≡ ws) × Valid s
unfolding state_of image
read_is_image ws s h =
    let (u, t, i) = ▸-some (test (leb (length ws) 8192)) _ h in
    let g = map_sound task_words ValidTask (read_task (length ws)) 63 (task_sound (length ws)) 64 ws (s, [])
    (wholly_some (read_map (read_task (length ws)) 64 63 ws) i) in
    let q : image s ≡ ws = sym (g.0 ∙ append-nil (image s)) in
    let l = leb→le (length ws) 8192 (test_some (leb (length ws) 8192) t) in
    (q, record { tasks = g.1; short = along (λ z. length z ≤ 8192) (sym q) l })

-- so the words that are read are the valid images, as the paper defines them
pub valid_image_read : (ws : List ℕ) (v : ValidImage ws) → state_of ws ≡ some v.state
valid_image_read ws v = ap state_of v.exactly ∙ image_read_back v.state v.valid

pub read_valid_image : (ws : List ℕ) (s : State) → state_of ws ≡ some s → ValidImage ws
read_valid_image ws s h =
    let (p, v) = read_is_image ws s h in record { state = s; valid = v; exactly = sym p }

-- one image, one state
pub image_injective : (s t : State) → Valid s → Valid t → image s ≡ image t → s ≡ t
image_injective s t v u e = some_inj (sym (image_read_back s v) ∙ ap state_of e ∙ image_read_back t u)
