-- The loop of an overlay: what is written, what is left to write, and at last the count.
use Prim.Native.Nat.{ℕ, suc, ◌+◌, ◌≤◌}
use mathlib.Core.Path.{◌≡◌, sym, ap, ◌∙◌}
use mathlib.Core.List.{List, [], ◌∷◌, ◌++◌, append_assoc, append-nil}
use native.Mathlib.Omega.{arith}
use lib.ListN.{length}
use Rattle.calculus.specs.Maps.{overlaid}
use Rattle.calculus.specs.Stores.{Store}
use Rattle.calculus.specs.Images.{entries, counted, cell_words}
use Rattle.write.specs.declared.overlay.Rest.{Rest}
use Rattle.write.specs.declared.overlay.Turn.{Turn}
use Rattle.write.specs.Cursor.{part, Wrote}
use Rattle.write.specs.Overlay.{TwoStores, Turns, WroteOverlay}
use Rattle.write.proofs.Cursors.{wrote_size, wrote_as, then, recount}

-- `done` is written, and with the overlay of what is left it is all; so with the count
pub record Remains (s o₀ : List ℕ) (to : ℕ) (o : List ℕ) (a b : Rest) (cursor count : ℕ) (all : Store) : Type 0 where
  pub m : Store
  pub n : Store
  pub left : TwoStores s a b m n
  pub done : List ℕ
  pub whole : done ++ entries cell_words (overlaid m n) ≡ entries cell_words all
  pub size : count + length (overlaid m n) ≡ length all
  pub wrote : Wrote done o₀ to cursor o

pub record Laid (s : List ℕ) (a₀ b₀ : Rest) (o₀ : List ℕ) (to : ℕ) (o : List ℕ) (a b : Rest) (cursor count : ℕ)
    : Type 0 where
  pub high₁ : a.at ≤ length s
  pub high₂ : b.at ≤ length s
  pub few : count + (a.count + b.count) ≤ 512
  pub room : cursor ≤ length o + 1
  pub same : length o ≡ length o₀
  pub sees : (m n : Store) → TwoStores s a₀ b₀ m n → Remains s o₀ to o a b cursor count (overlaid m n)

-- one entry more
pub lay_turn : (s : List ℕ) (a₀ b₀ : Rest) (o₀ : List ℕ) (to : ℕ) (o : List ℕ) (a b : Rest) (k count : ℕ)
    → Laid s a₀ b₀ o₀ to o a b k count → (t : Turn) → Turns s a b t → (e : ℕ) (o₁ : List ℕ)
    → Wrote (part s t.entry.start t.entry.end) o k e o₁ → Laid s a₀ b₀ o₀ to o₁ t.first t.second e (count + 1)
lay_turn s a₀ b₀ o₀ to o a b k count g t ts e o₁ w =
    let z = wrote_size w in
    record {
      high₁ = ts.high₁;
      high₂ = ts.high₂;
      few = omega (arith, ts.fewer, g.few);
      room = omega (arith, z.0, z.1);
      same = z.0 ∙ g.same;
      sees = λ m n st. go (g.sees m n st);
    }
  where
    go : {all : Store} → Remains s o₀ to o a b k count all → Remains s o₀ to o₁ t.first t.second e (count + 1) all
    go {all} v =
        let u = ts.sees v.m v.n v.left in
        let entry = u.key ∷ cell_words u.cell in
        let after = entries cell_words (overlaid u.m u.n) in
        let is : entries cell_words (overlaid v.m v.n) ≡ entry ++ after = ap (entries cell_words) u.rest in
        let l : length (overlaid v.m v.n) ≡ suc (length (overlaid u.m u.n)) = ap length u.rest in
        record {
          m = u.m;
          n = u.n;
          left = u.left;
          done = v.done ++ entry;
          whole = append_assoc v.done entry after ∙ ap (λ l. v.done ++ l) (sym is) ∙ v.whole;
          size = omega (arith, v.size);
          wrote = then v.wrote (wrote_as u.entry w);
        }

-- nothing is left, and the count goes in
pub lay_done : (s : List ℕ) (a₀ b₀ : Rest) (o : List ℕ) (to k z : ℕ) (o₁ o₂ o₃ : List ℕ) (a b : Rest) (e count r : ℕ)
    → Wrote (z ∷ []) o to k o₁ → Laid s a₀ b₀ o₁ k o₂ a b e count → a.count + b.count ≤ 0
    → Wrote (count ∷ []) o₂ to r o₃ → WroteOverlay s a₀ b₀ o to e o₃
unfolding overlaid
lay_done s a₀ b₀ o to k z o₁ o₂ o₃ a b e count r w g end f =
    let (l₁, h₁) = wrote_size w in
    let (l₂, h₂) = wrote_size f in
    record {
      high = omega (arith, g.room, g.same);
      size = l₂ ∙ g.same ∙ l₁;
      wrote = λ m n st. go (g.sees m n st);
    }
  where
    go : {all : Store} → Remains s o₁ k o₂ a b e count all → Wrote (counted cell_words all) o to e o₃
    go {all} v = none v.m v.n v.left.count₁ v.left.count₂ v.whole v.size
      where
        none : (m n : Store) → length m ≡ a.count → length n ≡ b.count
            → v.done ++ entries cell_words (overlaid m n) ≡ entries cell_words all
            → count + length (overlaid m n) ≡ length all → Wrote (counted cell_words all) o to e o₃
        none (x ∷ m) n d₁ d₂ whole size = absurd (omega arith)
        none [] (y ∷ n) d₁ d₂ whole size = absurd (omega arith)
        none [] [] d₁ d₂ whole size =
            let d : v.done ≡ entries cell_words all = sym (append-nil v.done) ∙ whole in
            let c : count ≡ length all = omega arith in
            wrote_as (ap (λ l. count ∷ l) d ∙ ap (λ x. x ∷ entries cell_words all) c)
            (recount o to k z count e r o₁ o₂ o₃ v.done w v.wrote f)
