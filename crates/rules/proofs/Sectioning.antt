-- The place of a section, two stores overlaid, and the image with a section left out.
use Prim.Native.Nat.{ℕ, ◌+◌, ◌-◌, ◌<◌}
use mathlib.Core.Path.{◌≡◌, refl, sym, ap, ◌∙◌}
use mathlib.Core.List.{List, [], ◌∷◌}
use native.Mathlib.Omega.{arith}
use lib.ListN.{length, get_or}
use Rattle.calculus.specs.Images.{entries, task_words, image, ValidTask}
use Rattle.std.specs.Prelude.{Result}
use Rattle.image.specs.Cuts.{Seeks}
use Rattle.image.proofs.Standing.{headed, stands_at}
use Rattle.write.specs.Cursor.{part, Wrote}
use Rattle.write.specs.declared.overlay.Rest.{Rest}
use Rattle.write.specs.Overlay.{WroteOverlay}
use Rattle.write.proofs.Cursors.{then, wrote_as}
use Rattle.rules.specs.declared.site.Site.{Site}
use Rattle.rules.specs.Splicing.{spliced}
use Rattle.rules.specs.Sections.{Finds, WroteOverlaid, WroteJoined}
use Rattle.rules.proofs.Chunks.{stands_all}

pub found_section : (s : List ℕ) (q n : ℕ) (k : Result ℕ ℕ) → 0 < length s → n ≡ get_or s 0 0
    → Seeks task_words ValidTask 63 s 1 n q k
    → Finds s q k
unfolding image
found_section s q n k l ni h =
    record {
      high = h.high (omega arith);
      answer = λ st v e.
          let a = headed (stands_all s (length st ∷ entries task_words st) e) in
          h.answer st 0 v.tasks (stands_at 1 refl a.more) (sym (ni ∙ a.is));
    }

pub overlaid_done : (s : List ℕ) (a b : ℕ) (m n : Rest) (o : List ℕ) (to r : ℕ) (o' : List ℕ)
    → m ≡ record { at = a + 1; count = get_or s a 0 } → n ≡ record { at = b + 1; count = get_or s b 0 }
    → WroteOverlay s m n o to r o' → WroteOverlaid s a b o to r o'
overlaid_done s a b m n o to r o' mi ni w =
    record {
      high = w.high;
      size = w.size;
      wrote = λ x y v₁ v₂ h₁ h₂.
          let a₁ = headed h₁ in
          let a₂ = headed h₂ in
          w.wrote x y
          (record {
            low₁ = 0;
            low₂ = 0;
            valid₁ = v₁;
            valid₂ = v₂;
            at₁ = rw mi a₁.more;
            at₂ = rw ni a₂.more;
            count₁ = rw mi (sym a₁.is);
            count₂ = rw ni (sym a₂.is);
          });
    }

pub joined_done : (s : List ℕ) (site : Site) (from end local n : ℕ) (o₀ o₁ o₂ o₃ o₄ o₅ o₆ : List ℕ) (u v w x y r : ℕ)
    → n ≡ get_or s 0 0 → Wrote ((n - 1) ∷ []) o₀ 0 u o₁ → Wrote (spliced s 1 site.local from end []) o₁ u v o₂
    → WroteOverlaid s site.local local o₂ v w o₃ → Wrote (part s site.expression site.place) o₃ w x o₄
    → Wrote (0 ∷ []) o₄ x y o₅ → Wrote (spliced s (site.place + 3) (length s) from end []) o₅ y r o₆
    → WroteJoined s site from end local o₀ r o₆
joined_done s site from end local n o₀ o₁ o₂ o₃ o₄ o₅ o₆ u v w x y r i w₁ w₂ w₃ w₄ w₅ w₆ =
    record {
      wrote = λ m₁ m₂ v₁ v₂ h₁ h₂.
          then (wrote_as (ap (λ (n : ℕ). (n - 1) ∷ []) i) w₁)
          (then w₂ (then (w₃.wrote m₁ m₂ v₁ v₂ h₁ h₂) (then w₄ (then w₅ w₆))));
    }
