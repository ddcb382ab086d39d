-- Writes through a cursor: one after the other, a word, and a part of other words.
use Prim.Native.Nat.{ℕ, suc, ◌+◌, ◌-◌, ◌<◌, ◌≤◌}
use mathlib.Core.Path.{subst as along, ◌≡◌, refl, sym, ap, ◌∙◌}
use mathlib.Core.Logic.{◌⊎◌, inl, inr}
use mathlib.Core.List.{List, [], ◌∷◌, ◌++◌, append_assoc}
use native.Mathlib.Nat.{add-zero, add-suc, suc-add}
use native.Mathlib.Decide.{dec_lt}
use native.Mathlib.Omega.{arith}
use lib.ListN.{length, set, take, drop, length-take, length-append, take-append-drop}
use lib.Seq.{sets, length-sets, set_out, set_comm, set-set, drop-drop}
use borrow.Rule.Slice.PartMut.{put_mid}
use Rattle.std.proofs.lemmas.List.Edits.{sets-eq}
use Rattle.std.proofs.Common.{Bor, Option, Some, None}
use Rattle.std.specs.Option.{unwrap_or}
use Rattle.std.specs.Slice.{IsGetRangeResult}
use Rattle.image.specs.Standing.{Stands}
use Rattle.image.proofs.Standing.{stands_take}
use Rattle.write.specs.Cursor.{part, Wrote}

-- stores one after the other; past the end they do nothing; an earlier word may be stored again
pub sets_append : (l : List ℕ) (i : ℕ) (a b : List ℕ) → sets l i (a ++ b) ≡ sets (sets l i a) (i + length a) b
sets_append l i [] b = rw add-zero
sets_append l i (x ∷ a) b =
    sets_append (set l i x) (suc i) a b
    ∙ ap (λ (k : ℕ). sets (sets (set l i x) (suc i) a) k b) (suc-add i (length a) ∙ sym (add-suc i (length a)))

pub sets_out : (l : List ℕ) (i : ℕ) (a : List ℕ) → length l ≤ i → sets l i a ≡ l
sets_out l i [] h = refl
sets_out l i (x ∷ a) h = rw (set_out l i x h) (sets_out l (suc i) a (omega arith))

pub set_sets : (l : List ℕ) (i j x : ℕ) (vs : List ℕ) → i < j → set (sets l j vs) i x ≡ sets (set l i x) j vs
set_sets l i j x [] h = refl
set_sets l i j x (v ∷ vs) h =
    set_sets (set l j v) i (suc j) x vs (omega arith)
    ∙ ap (λ (l : List ℕ). sets l (suc j) vs) (set_comm l j i v x (λ e. omega arith))

-- what every write keeps
pub wrote_size : {ws o : List ℕ} {to r : ℕ} {o' : List ℕ} → Wrote ws o to r o'
    → (length o' ≡ length o) × (r ≤ length o + 1)
wrote_size {ws} {o} {to} w = let a = w.at in (ap length w.out ∙ length-sets o to ws, omega arith)

pub wrote_nil : (o : List ℕ) (to : ℕ) → to ≤ length o + 1 → Wrote [] o to to o
wrote_nil o to h = record { at = omega arith; out = refl }

pub wrote_as : {a b o : List ℕ} {to r : ℕ} {o' : List ℕ} → a ≡ b → Wrote a o to r o' → Wrote b o to r o'
wrote_as {o = o} {to} {r} {o'} e w = along (λ (l : List ℕ). Wrote l o to r o') e w

-- one after the other
pub then : {a b o : List ℕ} {to j r : ℕ} {o₁ o₂ : List ℕ} → Wrote a o to j o₁ → Wrote b o₁ j r o₂
    → Wrote (a ++ b) o to r o₂
then {a} {b} {o} {to} {j} {r} {o₁} {o₂} w v =
    let s = (wrote_size w).0 in
    let l = length-append a b in
    let e = w.at in
    let f = v.at in
    record {
      at = omega arith;
      out = v.out
          ∙ ap (λ (l : List ℕ). sets l j b) w.out
          ∙ go (dec_lt (length o) (to + length a))
          ∙ sym (sets_append o to a b);
    }
  where
    go : Dec (length o < to + length a) → sets (sets o to a) j b ≡ sets (sets o to a) (to + length a) b
    go (yes p) =
        let e = w.at in
        let n = length-sets o to a in
        sets_out (sets o to a) j b (omega arith) ∙ sym (sets_out (sets o to a) (to + length a) b (omega arith))
    go (no p) = let e = w.at in ap (λ (i : ℕ). sets (sets o to a) i b) (omega arith)

-- what a part holds that was written whole
put_mid_sets : (o : List ℕ) (to n : ℕ) (ys : List ℕ) → n ≡ length ys → to + n ≤ length o
    → put_mid to n o ys ≡ sets o to ys
put_mid_sets o to n ys e h =
    ap (λ l. take to o ++ (ys ++ l)) (drop-drop n to o ∙ ap (λ k. drop (to + k) o) e)
    ∙ sym (append_assoc (take to o) ys (drop (to + length ys) o))
    ∙ sym (sets-eq ys o to (omega arith))

-- words written at the cursor: where it is past the end, where there is room for n of them, and where for all
module _ (o : List ℕ) (to : ℕ) (ws : List ℕ) where
  pub words_out : length o < to → Wrote ws o to (length o + 1) o
  words_out h = record { at = omega arith; out = sym (sets_out o to ws (omega arith)) }

  module _ (ys : List ℕ) where
    pub words_cut : (n : ℕ) → n ≡ length o - to → ys ≡ take n ws → to ≤ length o → n < length ws
        → Wrote ws o to (length (put_mid to n o ys) + 1) (put_mid to n o ys)
    words_cut n d e h k =
        let l : length ys ≡ n = ap length e ∙ simp length-take (omega arith) in
        let s = length-sets o to ys in
        let is : put_mid to n o ys ≡ sets o to ws
        = put_mid_sets o to n ys (sym l) (omega arith)
        ∙ sym (sets_out (sets o to ys) (to + length ys) (drop n ws) (omega arith))
        ∙ sym (sets_append o to ys (drop n ws))
        ∙ ap (λ l. sets o to (l ++ drop n ws)) e
        ∙ ap (sets o to) (take-append-drop n ws) in
        record { at = omega (arith, ap length is, length-sets o to ws); out = is }

    pub words_in : ys ≡ ws → to ≤ length o → length ws ≤ length o - to
        → Wrote ws o to (to + length ws) (put_mid to (to + length ws - to) o ys)
    words_in e h k =
        record {
          at = omega arith;
          out = put_mid_sets o to _ ys (omega (arith, ap length e)) (omega arith) ∙ ap (sets o to) e;
        }

-- a word z before the words ws that is stored again as c, when they are written: a count that is known at the end
pub recount : (o : List ℕ) (to k z c r t : ℕ) (o₁ o₂ o₃ ws : List ℕ) → Wrote (z ∷ []) o to k o₁
    → Wrote ws o₁ k r o₂ → Wrote (c ∷ []) o₂ to t o₃ → Wrote (c ∷ ws) o to r o₃
recount o to k z c r t o₁ o₂ o₃ ws w v f =
    let (l, b) = wrote_size w in
    let a = w.at in
    let d = v.at in
    record {
      at = omega arith;
      out = f.out ∙ ap (λ l. set l to c) v.out ∙ go (dec_lt to (length o));
    }
  where
    go : Dec (to < length o) → set (sets o₁ k ws) to c ≡ sets o to (c ∷ ws)
    go (yes p) =
        let a = w.at in
        let e : k ≡ suc to = omega arith in
        ap (λ i. set (sets o₁ i ws) to c) e
        ∙ set_sets o₁ to (suc to) c ws (omega arith)
        ∙ ap (λ l. sets (set l to c) (suc to) ws) w.out
        ∙ ap (λ l. sets l (suc to) ws) (set-set o to z c)
    go (no p) =
        let a = w.at in
        let (l, b) = wrote_size w in
        let m = length-sets o₁ k ws in
        let same : o₁ ≡ o = w.out ∙ sets_out o to (z ∷ []) (omega arith) in
        sets_out (sets o₁ k ws) to (c ∷ []) (omega arith)
        ∙ sets_out o₁ k ws (omega arith)
        ∙ same
        ∙ sym (sets_out o to (c ∷ ws) (omega arith))

-- what stands is that part
pub part_stands : {s : List ℕ} {at : ℕ} {ws : List ℕ} (b : ℕ) → Stands s at ws → b ≡ at + length ws → part s at b ≡ ws
unfolding part
part_stands {s} {at} {ws} b h e =
    let n : b - at ≡ length ws = omega arith in ap (λ (k : ℕ). take k (drop at s)) n ∙ stands_take h

-- what `get` lends of a range, and else no words, is that part
pub got_part : (s : List ℕ) (a b : ℕ) (r : Option (Bor (List ℕ))) (d x : Bor (List ℕ)) → IsGetRangeResult s a b r
    → x ≡ unwrap_or r d → d.now ≡ [] → b ≤ length s → x.now ≡ part s a b
unfolding part
got_part s a b None d x (h, k) e n l = ap (λ (x : Bor (List ℕ)). x.now) e ∙ n ∙ ap (λ n. take n (drop a s)) (sym (none h))
  where
    none : (b < a) ⊎ (length s < b) → b - a ≡ 0
    none (inl h) = omega arith
    none (inr h) = absurd (omega arith)
got_part s a b (Some y) d x ((i, j, is, m), k) e n l = ap (λ (x : Bor (List ℕ)). x.now) e ∙ is
