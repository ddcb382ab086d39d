-- Which redex stands at a place: the tag there tells, by the one table of tags.
use Prim.Native.Nat.{ℕ, ◌≤◌}
use mathlib.Core.Path.{◌≡◌, sym, ap, ◌∙◌, subst}
use mathlib.Core.Bool.{Bool}
use mathlib.Core.List.{List, [], ◌∷◌}
use native.Mathlib.Omega.{arith}
use lib.ListN.{get_or}
use Rattle.calculus.specs.Expressions.{ref, read, fork, join, Arithmetic, add, subtract, less, apply, assign}
use Rattle.calculus.specs.Expressions.{arithmetic}
use Rattle.calculus.specs.Expressions.{Expression}
use Rattle.calculus.specs.Tags.{Tag, one_tag, two_tag, if_tag, tag_word}
use Rattle.calculus.specs.Words.{words}
use Rattle.calculus.specs.Formed.{Formed}
use Rattle.calculus.specs.Reading.{tag_of}
use Rattle.calculus.specs.Stores.{plain}
use Rattle.calculus.specs.Redexes.{Lambda, Redex, applying, choosing, making, reading, assigning}
use Rattle.calculus.specs.Redexes.{forking, joining, calculating, expression_at}
use Rattle.calculus.specs.Places.{only, first_of, second_of, condition, Context, plug}
use Rattle.calculus.proofs.Options.{some_inj}
use Rattle.calculus.proofs.Reading.{tag_of_tag_word}
use Rattle.image.specs.Standing.{Stands}
use Rattle.image.proofs.Standing.{headed}

-- R is a redex with that tag
pub data Is : Tag → Redex → Type 0 where
  is_applying : (f : Lambda) (v : Expression) → Is (two_tag apply) (applying f v)
  is_choosing : (t : Bool) (b c : Expression) → Is if_tag (choosing t b c)
  is_making : (v : Expression) → Is (one_tag ref) (making (plain v))
  is_reading : (l : ℕ) → Is (one_tag read) (reading l)
  is_assigning : (l : ℕ) (v : Expression) → Is (two_tag assign) (assigning l v)
  is_forking : (e : Expression) → Is (one_tag fork) (forking e)
  is_joining : (r : ℕ) → Is (one_tag join) (joining r)
  is_calculating : (o : Arithmetic) (m n : ℕ) → Is (two_tag (arithmetic o)) (calculating o m n)

-- every redex has one, which its words begin with
record Tagged (s : List ℕ) (p : ℕ) (R : Redex) : Type 0 where
  pub tag : Tag
  pub is : Is tag R
  pub there : get_or s p 0 ≡ tag_word tag

tagged : {s : List ℕ} {p : ℕ} (R : Redex) → Stands s p (words (expression_at R)) → Tagged s p R
unfolding words
tagged (applying f v) h = record { tag = two_tag apply; is = is_applying f v; there = (headed h).is }
tagged (choosing t b c) h = record { tag = if_tag; is = is_choosing t b c; there = (headed h).is }
tagged (making (plain v)) h = record { tag = one_tag ref; is = is_making v; there = (headed h).is }
tagged (reading l) h = record { tag = one_tag read; is = is_reading l; there = (headed h).is }
tagged (assigning l v) h = record { tag = two_tag assign; is = is_assigning l v; there = (headed h).is }
tagged (forking e) h = record { tag = one_tag fork; is = is_forking e; there = (headed h).is }
tagged (joining r) h = record { tag = one_tag join; is = is_joining r; there = (headed h).is }
tagged (calculating o m n) h =
    record { tag = two_tag (arithmetic o); is = is_calculating o m n; there = (headed h).is }

pub tag_word_injective : (t u : Tag) → tag_word t ≡ tag_word u → t ≡ u
tag_word_injective t u e = some_inj (sym (tag_of_tag_word t) ∙ ap tag_of e ∙ tag_of_tag_word u)

pub redex_is : {s : List ℕ} {p : ℕ} (R : Redex) (t : Tag) → Stands s p (words (expression_at R)) → get_or s p 0 ≡ tag_word t
    → Is t R
redex_is R t h e =
    let k = tagged R h in
    subst (λ t. Is t R) (tag_word_injective k.tag t (sym k.there ∙ e)) k.is

-- from 15 on there is arithmetic only
pub record Calculating (s : List ℕ) (p : ℕ) (R : Redex) : Type 0 where
  pub operation : Arithmetic
  pub is : Is (two_tag (arithmetic operation)) R
  pub there : get_or s p 0 ≡ tag_word (two_tag (arithmetic operation))

pub calculating_is : {s : List ℕ} {p : ℕ} (R : Redex) → Stands s p (words (expression_at R)) → 15 ≤ get_or s p 0
    → Calculating s p R
calculating_is {s} {p} R h l = go R (tagged R h).is (tagged R h).there
  where
    go : {t : Tag} (R : Redex) → Is t R → get_or s p 0 ≡ tag_word t → Calculating s p R
    go R (is_applying f v) e = absurd (omega arith)
    go R (is_choosing t b c) e = absurd (omega arith)
    go R (is_making v) e = absurd (omega arith)
    go R (is_reading k) e = absurd (omega arith)
    go R (is_assigning k v) e = absurd (omega arith)
    go R (is_forking x) e = absurd (omega arith)
    go R (is_joining r) e = absurd (omega arith)
    go R (is_calculating o m n) e = record { operation = o; is = is_calculating o m n; there = e }

-- what is plugged in a formed expression is formed
pub formed_in : (E : Context) (e : Expression) → Formed (plug E e) → Formed e
unfolding Formed
formed_in [] e h = h
formed_in (only o ∷ E) e h = formed_in E e h
formed_in (first_of o b ∷ E) e h = formed_in E e h.0
formed_in (second_of o a ∷ E) e h = formed_in E e h.1
formed_in (condition b c ∷ E) e h = formed_in E e h.0

-- a redex has a tag from 8 to 17
pub record InTags (tag : ℕ) : Type 0 where
  pub low : 8 ≤ tag
  pub high : tag ≤ 17

pub in_tags : {s : List ℕ} {p : ℕ} (R : Redex) → Stands s p (words (expression_at R)) → InTags (get_or s p 0)
in_tags {s} {p} R h = go (tagged R h).is (tagged R h).there
  where
    go : {t : Tag} {R : Redex} → Is t R → get_or s p 0 ≡ tag_word t → InTags (get_or s p 0)
    go (is_applying f v) e = record { low = omega arith; high = omega arith }
    go (is_choosing t b c) e = record { low = omega arith; high = omega arith }
    go (is_making v) e = record { low = omega arith; high = omega arith }
    go (is_reading k) e = record { low = omega arith; high = omega arith }
    go (is_assigning k v) e = record { low = omega arith; high = omega arith }
    go (is_forking x) e = record { low = omega arith; high = omega arith }
    go (is_joining r) e = record { low = omega arith; high = omega arith }
    go (is_calculating add m n) e = record { low = omega arith; high = omega arith }
    go (is_calculating subtract m n) e = record { low = omega arith; high = omega arith }
    go (is_calculating less m n) e = record { low = omega arith; high = omega arith }
