-- A store with one entry put in: where the entry goes, and what is written around it.
use Prim.Native.Nat.{ℕ, suc, ◌+◌, ◌<◌}
use mathlib.Core.Path.{◌≡◌, sym, ap, ◌∙◌}
use mathlib.Core.List.{List, [], ◌∷◌, ◌++◌}
use native.Mathlib.Omega.{arith}
use Rattle.std.specs.Prelude.{Ok, Err}
use lib.ListN.{length, get_or, length-append}
use Rattle.calculus.specs.Maps.{put}
use Rattle.calculus.specs.Stores.{Store}
use Rattle.calculus.specs.Images.{entries, counted, cell_words, ValidCell}
use Rattle.calculus.proofs.Validity.{listed_get}
use Rattle.image.specs.Standing.{Stands, EndsAt}
use Rattle.image.specs.Cuts.{before, onward, beyond, hits, Seeks}
use Rattle.image.proofs.Standing.{headed, stands_left, stands_right, stands_at, stands_as}
use Rattle.image.proofs.Seeking.{before_onward, put_cut, hit, miss_onward, entries_append, placed_hit, placed_miss, cell_ends}
use Rattle.write.specs.declared.entry.Hole.{Hole}
use Rattle.write.specs.Cursor.{part, Wrote}
use Rattle.write.specs.Entry.{Holes, WrotePut}
use Rattle.write.proofs.Cursors.{then, wrote_as, wrote_size, part_stands}

-- the words of a store, cut at l
entries_cut : (l : ℕ) (m : Store)
    → entries cell_words m ≡ entries cell_words (before l m) ++ entries cell_words (onward l m)
entries_cut l m = ap (entries cell_words) (before_onward l m) ∙ entries_append cell_words (before l m) (onward l m)

module _
    (s : List ℕ) (store n l : ℕ) (low : store < length s) (is : n ≡ get_or s store 0) (at : ℕ)
  where
    -- what the place says of a store that stands there
    record CutAt (m : Store) : Type 0 where
      after : Stands s at (entries cell_words (onward l m))
      count : n ≡ length (before l m) + length (onward l m)
      words : length (entries cell_words m)
          ≡ length (entries cell_words (before l m)) + length (entries cell_words (onward l m))

    cut_at : (m : Store) → Stands s store (counted cell_words m)
        → at ≡ store + 1 + length (entries cell_words (before l m)) → CutAt m
    cut_at m h e =
        let hd = headed h in
        let b = entries cell_words (before l m) in
        let o = entries cell_words (onward l m) in
        record {
          after = stands_at at (sym e) (stands_right b o (stands_as (entries_cut l m) hd.more));
          count = is ∙ hd.is ∙ ap length (before_onward l m) ∙ length-append (before l m) (onward l m);
          words = ap length (entries_cut l m) ∙ length-append b o;
        }

    pub hole_hit : Seeks cell_words ValidCell 255 s (store + 1) n l (Ok at) → (e : ℕ) → EndsAt s (at + 1) e
        → Holes s store l (record { entry = record { start = at; end = e }; count = n })
    hole_hit ks e ends =
        record {
          high₁ = ks.high (omega arith);
          high₂ = ends.high;
          cut = λ m v h.
              let hd = headed h in
              let (t, p₁) = placed_hit (hits l m) _ at (ks.answer m 0 v hd.more (sym (is ∙ hd.is))) in
              let c = cut_at m h p₁ in
              let H = hit l m t in
              let (x, y, ok) = listed_get ValidCell 255 m 0 l H.here v H.get in
              let w = cell_words H.here in
              let b = entries cell_words (beyond l m) in
              let hd = headed (stands_as (ap (entries cell_words) H.onward) c.after) in
              let i = cell_ends s (at + 1) e ends H.here ok (stands_left w b hd.more) in
              let z₁ : length (entries cell_words (onward l m)) ≡ suc (length (w ++ b))
              = ap (λ z. length (entries cell_words z)) H.onward in
              let z₂ : length (onward l m) ≡ suc (length (beyond l m)) = ap length H.onward in
              let z₃ = length-append w b in
              let p₂ = c.count in
              let p₃ = c.words in
              record {
                at = p₁;
                after = stands_at e (sym i) (stands_right w b hd.more);
                end = omega arith;
                count = omega arith;
              };
        }

    pub hole_miss : Seeks cell_words ValidCell 255 s (store + 1) n l (Err at)
        → Holes s store l (record { entry = record { start = at; end = at }; count = n + 1 })
    hole_miss ks =
        record {
          high₁ = ks.high (omega arith);
          high₂ = ks.high (omega arith);
          cut = λ m v h.
              let hd = headed h in
              let (t, p₁) = placed_miss (hits l m) _ at (ks.answer m 0 v hd.more (sym (is ∙ hd.is))) in
              let c = cut_at m h p₁ in
              let q = miss_onward l m t in
              let z₁ : length (entries cell_words (onward l m)) ≡ length (entries cell_words (beyond l m))
              = ap (λ z. length (entries cell_words z)) q in
              let z₂ : length (onward l m) ≡ length (beyond l m) = ap length q in
              let p₂ = c.count in
              let p₃ = c.words in
              record {
                at = p₁;
                after = stands_as (ap (entries cell_words) q) c.after;
                end = omega arith;
                count = omega arith;
              };
        }

-- count, entries before, key, cell, entries beyond
pub put_done : (s : List ℕ) (store end l a b : ℕ) (h : Hole) (o₀ o₁ o₂ o₃ o₄ o₅ : List ℕ) (to c d e f r : ℕ)
    → Holes s store l h → Wrote (h.count ∷ []) o₀ to c o₁ → Wrote (part s (store + 1) h.entry.start) o₁ c d o₂
    → Wrote (l ∷ []) o₂ d e o₃ → Wrote (part s a b) o₃ e f o₄ → Wrote (part s h.entry.end end) o₄ f r o₅
    → WrotePut s store end l a b o₀ to r o₅
put_done s store end l a b h o₀ o₁ o₂ o₃ o₄ o₅ to c d e f r hs w₁ w₂ w₃ w₄ w₅ =
    let all = then w₁ (then w₂ (then w₃ (then w₄ w₅))) in
    record {
      high = (wrote_size all).1;
      size = (wrote_size all).0;
      wrote = λ m cell v st to_end is.
          let q = hs.cut m v st in
          let first = entries cell_words (before l m) in
          let last = entries cell_words (beyond l m) in
          let p₁ : part s (store + 1) h.entry.start ≡ first
          = part_stands h.entry.start
          (stands_left first (entries cell_words (onward l m)) (stands_as (entries_cut l m) (headed st).more))
          q.at in
          let p₂ : part s h.entry.end end ≡ last = part_stands end q.after (to_end ∙ sym q.end) in
          let e₁ : length (put l cell m) ≡ suc (length (before l m) + length (beyond l m))
          = ap length (put_cut l cell m) ∙ length-append (before l m) ((l, cell) ∷ beyond l m) ∙ omega arith in
          let e₂ : entries cell_words (put l cell m) ≡ first ++ (l ∷ (cell_words cell ++ last))
          = ap (entries cell_words) (put_cut l cell m)
          ∙ entries_append cell_words (before l m) ((l, cell) ∷ beyond l m) in
          wrote_as (cc (p₁, p₂, is, e₁, e₂, q.count)) all;
    }
