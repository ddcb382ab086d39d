-- The laws of standing: one word and what follows, parts of what stands, and where an expression that stands ends.
use Prim.Native.Nat.{ℕ, ◌+◌, ◌<◌, ◌≤◌}
use mathlib.Core.List.{List, ◌∷◌, ◌++◌, append_assoc}
use mathlib.Core.Path.{◌≡◌, refl, sym, ap, ◌∙◌, subst}
use native.Mathlib.Nat.{add-zero}
use native.Mathlib.Omega.{arith}
use lib.ListN.{length, get_or, take, drop, length-append, length-drop}
use lib.Seq.{drop-drop, drop_at, take_at, get_or-drop}
use Rattle.calculus.specs.Reading.{end_of}
use Rattle.calculus.proofs.Options.{none≢some, some_inj}
use Rattle.words.specs.Walks.{walk_of}
use Rattle.std.specs.Prelude.{Option}
use Rattle.std.specs.Option.{unwrap_or}
use mathlib.Core.Option.{Option as Maybe, none, some}
use Rattle.words.proofs.Ends.{end_words, expression_stands, words_long}
use Rattle.image.specs.Standing.{Stands, EndsAt}

-- of one word and what follows it
pub record Headed (s : List ℕ) (at w : ℕ) (ws : List ℕ) : Type 0 where
  pub inside : at < length s
  pub is : get_or s at 0 ≡ w
  pub more : Stands s (at + 1) ws

pub headed : {s : List ℕ} {at w : ℕ} {ws : List ℕ} → Stands s at (w ∷ ws) → Headed s at w ws
headed {s} {at} {w} {ws} h =
    let e = h.eq in
    record {
      inside = omega (arith, simp length-drop at (ap length e));
      is
          = sym (ap (λ (i : ℕ). get_or s i 0) (add-zero at))
          ∙ sym (get_or-drop at s 0 0)
          ∙ ap (λ (l : List ℕ). get_or l 0 0) e;
      more = record { rest = h.rest; eq = sym (drop-drop 1 at s) ∙ ap (drop 1) e };
    }

pub stands_left : {s : List ℕ} {at : ℕ} (a b : List ℕ) → Stands s at (a ++ b) → Stands s at a
stands_left a b h = record { rest = b ++ h.rest; eq = h.eq ∙ append_assoc a b h.rest }

pub stands_right : {s : List ℕ} {at : ℕ} (a b : List ℕ) → Stands s at (a ++ b) → Stands s (at + length a) b
stands_right {s} {at} a b h =
    record {
      rest = h.rest;
      eq
          = sym (drop-drop (length a) at s)
          ∙ ap (drop (length a)) (h.eq ∙ append_assoc a b h.rest)
          ∙ drop_at a (b ++ h.rest) (length a) refl;
    }

pub stands_at : {s : List ℕ} {at : ℕ} (to : ℕ) {ws : List ℕ} → at ≡ to → Stands s at ws → Stands s to ws
stands_at {s} to {ws} e h = subst (λ (i : ℕ). Stands s i ws) e h

pub stands_as : {s : List ℕ} {at : ℕ} {ws vs : List ℕ} → ws ≡ vs → Stands s at ws → Stands s at vs
stands_as {s} {at} e h = subst (λ (v : List ℕ). Stands s at v) e h

-- what stands is that part
pub stands_take : {s : List ℕ} {at : ℕ} {ws : List ℕ} → Stands s at ws → take (length ws) (drop at s) ≡ ws
stands_take {s} {at} {ws} h = ap (take (length ws)) h.eq ∙ take_at ws h.rest (length ws) refl

pub stands_fits : {s : List ℕ} {at : ℕ} {ws : List ℕ} → Stands s at ws → at ≤ length s → at + length ws ≤ length s
stands_fits {s} {at} {ws} h l = omega (arith, simp (length-drop, length-append) at (ap length h.eq))

-- an expression ends where its walk does; where no walk ends, none stands
pub past_is : (s : List ℕ) (at : ℕ) (w : Option ℕ) (r : ℕ) → w ≡ walk_of (end_of s at) → r ≡ unwrap_or w (length s)
    → EndsAt s at r
past_is s at w r q d = go (end_of s at) refl
  where
    go : (o : Maybe ℕ) → end_of s at ≡ o → EndsAt s at r
    go (some end) e =
        let g = expression_stands s at end e in
        let to = g.to in
        let is : r ≡ end = d ∙ ap (λ w. unwrap_or w (length s)) (q ∙ ap walk_of e) in
        let high = g.high in
        record {
          high = omega arith;
          low = λ l. omega (arith, words_long g.tree);
          from = λ l. omega (arith, words_long g.tree);
          ends = λ t f h. is ∙ some_inj (sym e ∙ end_words t s h.rest at f h.eq);
        }
    go none e =
        let is : r ≡ length s = d ∙ ap (λ w. unwrap_or w (length s)) (q ∙ ap walk_of e) in
        record {
          high = omega arith;
          low = λ l. omega arith;
          from = λ l. omega arith;
          ends = λ t f h. none≢some (sym e ∙ end_words t s h.rest at f h.eq);
        }
