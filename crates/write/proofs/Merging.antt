-- One turn of an overlay: which entry is next, and what is left of the two stores.
use Prim.Native.Nat.{ℕ, suc, ◌<◌, ◌≤◌}
use mathlib.Core.Path.{◌≡◌, sym, ◌∙◌, subst as along}
use mathlib.Core.Logic.{◌⊎◌, inl, inr}
use mathlib.Core.List.{List, [], ◌∷◌}
use native.Mathlib.Omega.{arith}
use lib.ListN.{length, get_or}
use Rattle.calculus.specs.Maps.{overlaid}
use Rattle.calculus.specs.Stores.{Store}
use Rattle.calculus.specs.Images.{entries, cell_words, Listed, ValidCell}
use Rattle.image.specs.Standing.{Stands}
use Rattle.image.proofs.Standing.{headed}
use Rattle.std.specs.declared.ops.Range.{Range}
use Rattle.std.specs.declared.cmp.Ordering.TheVariants.{Less, Equal, Greater}
use Rattle.write.specs.declared.overlay.Rest.{Rest}
use Rattle.write.specs.declared.overlay.Turn.{Turn}
use Rattle.write.specs.Overlay.{IsNext, SplitFirst, TwoStores, Turned, Turns}
use Rattle.write.proofs.Entries.{entered}
use Rattle.write.proofs.OverlaidMaps.{overlaid_first, overlaid_second, overlaid_both}

abbrev turn : Range ℕ → Rest → Rest → Turn
turn e a b = record { entry = e; first = a; second = b }

-- what is left of a store that has nothing left, or whose first key is over k, has only keys over k
over_all : (s : List ℕ) (b : Rest) (k low : ℕ) (m : Store) → Listed ValidCell 255 low m
    → Stands s b.at (entries cell_words m) → length m ≡ b.count → (b.count ≡ 0) ⊎ (k < get_or s b.at 0)
    → Listed ValidCell 255 (suc k) m
unfolding Listed
over_all s b k low [] v h c o = tt
over_all s b k low (x ∷ m) v h c (inl z) = absurd (omega arith)
over_all s b k low (x ∷ m) (i, j, f, r) h c (inr l) = let e = (headed h).is in (omega arith, j, f, r)

module _ (s : List ℕ) (a b : Rest) where
  keys : IsNext s a b Less → (b.count ≡ 0) ⊎ (get_or s a.at 0 < get_or s b.at 0)
  keys (inl z) = inl z
  keys (inr (i, l)) = inr l

  -- the first store's entry is next
  module _ (e : Range ℕ) (r : Rest) (p : SplitFirst s a e r) (o : IsNext s a b Less) where
    first_sees : (m n : Store) → TwoStores s a b m n → Turned s (turn e r b) (overlaid m n)
    unfolding Listed
    first_sees [] n st = absurd (omega (arith, p.fewer, st.count₁))
    first_sees (x ∷ m) n st =
        let (i, j, ok, v) = st.valid₁ in
        let g = entered s a.at r.at x m ok p.ends st.at₁ in
        record {
          key = x.0;
          cell = x.1;
          m = m;
          n = n;
          left = record {
            low₁ = suc x.0;
            low₂ = st.low₂;
            valid₁ = v;
            valid₂ = st.valid₂;
            at₁ = g.more;
            at₂ = st.at₂;
            count₁ = omega (arith, p.fewer, st.count₁);
            count₂ = st.count₂;
          };
          entry = rw p.words g.whole;
          rest = overlaid_first ValidCell 255 x m n (over_all s b x.0 st.low₂ n st.valid₂ st.at₂ st.count₂ (rw g.is at (keys o)));
        }

    pub turn_first : b.at ≤ length s → Turns s a b (turn e r b)
    turn_first l =
        let h = p.ends.high in
        record { end = rw p.words h; high₁ = h; high₂ = l; fewer = omega (arith, p.fewer); sees = first_sees }

  module _ (e : Range ℕ) (r : Rest) (p : SplitFirst s b e r) where
    -- the second store's
    module _ (o : IsNext s a b Greater) where
      second_sees : (m n : Store) → TwoStores s a b m n → Turned s (turn e a r) (overlaid m n)
      unfolding Listed
      second_sees m [] st = absurd (omega (arith, p.fewer, st.count₂))
      second_sees m (y ∷ n) st =
          let (i, j, ok, v) = st.valid₂ in
          let g = entered s b.at r.at y n ok p.ends st.at₂ in
          record {
            key = y.0;
            cell = y.1;
            m = m;
            n = n;
            left = record {
              low₁ = st.low₁;
              low₂ = suc y.0;
              valid₁ = st.valid₁;
              valid₂ = v;
              at₁ = st.at₁;
              at₂ = g.more;
              count₁ = st.count₁;
              count₂ = omega (arith, p.fewer, st.count₂);
            };
            entry = rw p.words g.whole;
            rest = overlaid_second ValidCell 255 y m n
                (over_all s a y.0 st.low₁ m st.valid₁ st.at₁ st.count₁ (rw g.is at o.1)) v;
          }

      pub turn_second : a.at ≤ length s → Turns s a b (turn e a r)
      turn_second l =
          let h = p.ends.high in
          record { end = rw p.words h; high₁ = l; high₂ = h; fewer = omega (arith, p.fewer); sees = second_sees }

    -- the second store's in place of the first's
    module _ (d : Range ℕ) (q : Rest) (f : SplitFirst s a d q) (o : IsNext s a b Equal) where
      both_sees : (m n : Store) → TwoStores s a b m n → Turned s (turn e q r) (overlaid m n)
      unfolding Listed
      both_sees m [] st = absurd (omega (arith, p.fewer, st.count₂))
      both_sees [] (y ∷ n) st = absurd (omega (arith, f.fewer, st.count₁))
      both_sees (x ∷ m) (y ∷ n) st =
          let (i, j, ok, v) = st.valid₁ in
          let (i', j', ok', v') = st.valid₂ in
          let g = entered s b.at r.at y n ok' p.ends st.at₂ in
          let k = entered s a.at q.at x m ok f.ends st.at₁ in
          record {
            key = y.0;
            cell = y.1;
            m = m;
            n = n;
            left = record {
              low₁ = suc x.0;
              low₂ = suc y.0;
              valid₁ = v;
              valid₂ = v';
              at₁ = k.more;
              at₂ = g.more;
              count₁ = omega (arith, f.fewer, st.count₁);
              count₂ = omega (arith, p.fewer, st.count₂);
            };
            entry = rw p.words g.whole;
            rest = overlaid_both ValidCell 255 x y m n (sym k.is ∙ o.2 ∙ g.is) v';
          }

      pub turn_both : Turns s a b (turn e q r)
      turn_both =
          record {
            end = rw p.words p.ends.high;
            high₁ = f.ends.high;
            high₂ = p.ends.high;
            fewer = omega (arith, p.fewer, f.fewer);
            sees = both_sees;
          }

-- the parts of a turn as one value, which a `match` made
pub turn_of : {s : List ℕ} {a b c d : Rest} {e : Range ℕ} {t : Range ℕ × Rest × Rest} → t ≡ (e, c, d)
    → Turns s a b (turn e c d) → Turns s a b (turn t.0 t.1 t.2)
turn_of {s = s} {a = a} {b = b} q k = along (λ (t : Range ℕ × Rest × Rest). Turns s a b (turn t.0 t.1 t.2)) (sym q) k
