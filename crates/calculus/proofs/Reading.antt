-- One reader over one table, and that reading and writing undo one another.
use Prim.Native.Nat.{◌-◌, ℕ, suc, ◌+◌, zero, ◌≤◌}
use mathlib.Core.Bool.{false, true}
use mathlib.Core.List.{List, [], ◌∷◌, ◌++◌, append_assoc}
use mathlib.Core.Option.{some, Option}
use mathlib.Core.Path.{subst as along, ◌≡◌, ap, refl, sym, ◌∙◌}
use native.Mathlib.Omega.{arith}
use lib.Dec.{leb, leb→le, le→leb}
use lib.ListN.{get_elem?, length, length-append}
use Rattle.calculus.specs.Options.{test, ◌▸◌}
use Rattle.calculus.specs.Types.{basic, unit_type, bool_type, num_type, rev_type, reference, function, ScriptType}
use Rattle.calculus.specs.Expressions.{read, one, number, constant, unit, ref, bool, leaf, variable, location}
use Rattle.calculus.specs.Expressions.{revision, lambda, fork, join, two, apply, assign, arithmetic, add}
use Rattle.calculus.specs.Expressions.{subtract, less, if, Expression}
use Rattle.calculus.specs.Tags.{tag_word, Tag, tags, constant_tag, leaf_tag, lambda_tag, one_tag, two_tag, if_tag}
use Rattle.calculus.specs.Tags.{type_tag_word, TypeTag, basic_tag, reference_tag, function_tag, type_tags, largest}
use Rattle.calculus.specs.Words.{type_words, words}
use Rattle.calculus.specs.Formed.{Formed}
use Rattle.calculus.specs.Reading.{type_tag_of, read_type, read_expression, Reader, read_type_parts, read_word}
use Rattle.calculus.specs.Reading.{read_parts}
use Rattle.calculus.proofs.Options.{none≢some, some_inj, ▸-some, test_some, test_true}

-- the table's rows are numbered in order: one computed test, and what it gives
module _ {A : Type 0} (code : A → ℕ) where
  abbrev Counts : ℕ → List A → Type 0
  Counts k [] = Unit {0}
  Counts k (a ∷ l) = (code a ≡ k) × Counts (suc k) l

  row_code : (k : ℕ) (l : List A) (n : ℕ) {a : A} → Counts k l → get_elem? l n ≡ some a → code a ≡ k + n
  row_code k [] n t e = none≢some e
  row_code k (b ∷ l) zero {a} t e = let q : code b ≡ code a = ap code (some_inj e) in omega arith
  row_code k (b ∷ l) (suc n) t e = let q = row_code (suc k) l n t.1 e in omega arith

pub tag_of_tag_word : (s : Tag) → get_elem? tags (tag_word s) ≡ some s
tag_of_tag_word (constant_tag unit) = refl
tag_of_tag_word (constant_tag (bool false)) = refl
tag_of_tag_word (constant_tag (bool true)) = refl
tag_of_tag_word (leaf_tag number) = refl
tag_of_tag_word (leaf_tag variable) = refl
tag_of_tag_word (leaf_tag location) = refl
tag_of_tag_word (leaf_tag revision) = refl
tag_of_tag_word lambda_tag = refl
tag_of_tag_word (one_tag ref) = refl
tag_of_tag_word (one_tag read) = refl
tag_of_tag_word (one_tag fork) = refl
tag_of_tag_word (one_tag join) = refl
tag_of_tag_word (two_tag apply) = refl
tag_of_tag_word (two_tag assign) = refl
tag_of_tag_word (two_tag (arithmetic add)) = refl
tag_of_tag_word (two_tag (arithmetic subtract)) = refl
tag_of_tag_word (two_tag (arithmetic less)) = refl
tag_of_tag_word if_tag = refl

pub tag_word_tag_of : (n : ℕ) {s : Tag} → get_elem? tags n ≡ some s → tag_word s ≡ n
tag_word_tag_of n e =
    let q = row_code tag_word 0 tags n (
      refl,
      (
        refl,
        (
          refl,
          (
            refl,
            (
              refl,
              (
                refl,
                (
                  refl,
                  (
                    refl,
                    (refl, (refl, (refl, (refl, (refl, (refl, (refl, (refl, (refl, (refl, tt)))))))))),
                  ),
                ),
              ),
            ),
          ),
        ),
      ),
    ) e in
    omega arith

pub type_tag_of_type_tag_word : (s : TypeTag) → type_tag_of (type_tag_word s) ≡ some s
type_tag_of_type_tag_word (basic_tag unit_type) = refl
type_tag_of_type_tag_word (basic_tag bool_type) = refl
type_tag_of_type_tag_word (basic_tag num_type) = refl
type_tag_of_type_tag_word (basic_tag rev_type) = refl
type_tag_of_type_tag_word reference_tag = refl
type_tag_of_type_tag_word function_tag = refl

pub type_tag_word_type_tag_of : (n : ℕ) {s : TypeTag} → type_tag_of n ≡ some s → type_tag_word s ≡ n
type_tag_word_type_tag_of n e =
    let q = ▸-some (test (leb 32 n)) (λ u. get_elem? type_tags (n - 32)) e in
    let h = leb→le 32 n (test_some (leb 32 n) q.1) in
    let p = row_code type_tag_word 32 type_tags (n - 32) (refl, (refl, (refl, (refl, (refl, (refl, tt)))))) q.2 in
    omega arith

-- what was written is read
pub read_type_words : (A : ScriptType) (r : List ℕ) (n : ℕ) → length (type_words A) ≤ n
    → read_type n (type_words A ++ r) ≡ some (A, r)
unfolding read_type type_words
read_type_words (basic b) r zero h = absurd (omega arith)
read_type_words (basic b) r (suc n) h = rw (type_tag_of_type_tag_word (basic_tag b)) refl
read_type_words (reference A) r zero h = absurd (omega arith)
read_type_words (reference A) r (suc n) h = rw (read_type_words A r n (omega arith)) refl
read_type_words (function A B) r zero h = absurd (omega arith)
read_type_words (function A B) r (suc n) h =
    rw (
      append_assoc (type_words A) (type_words B) r,
      read_type_words A (type_words B ++ r) n
          (omega (arith, length-append (type_words A) (type_words B))),
      read_type_words B r n
          (omega (arith, length-append (type_words A) (type_words B))),
    ) refl

pub read_words : (e : Expression) (r : List ℕ) (n : ℕ) → Formed e → length (words e) ≤ n
    → read_expression n (words e ++ r) ≡ some (e, r)
unfolding read_expression words Formed
read_words (constant c) r zero f h = absurd (omega arith)
read_words (constant c) r (suc n) f h = rw (tag_of_tag_word (constant_tag c)) refl
read_words (leaf k m) r zero f h = absurd (omega arith)
read_words (leaf k m) r (suc n) f h =
    rw (tag_of_tag_word (leaf_tag k), test_true (leb m (largest k)) (le→leb m (largest k) f)) refl
read_words (lambda x A e) r zero f h = absurd (omega arith)
read_words (lambda x A e) r (suc n) f h =
    let l = length-append (type_words A) (words e) in
    rw (
      test_true (leb x 255) (le→leb x 255 f.0),
      append_assoc (type_words A) (words e) r,
      read_type_words A
          (words e ++ r) n (omega arith),
      read_words e r n f.1 (omega arith),
    ) refl
read_words (one o e) r zero f h = absurd (omega arith)
read_words (one o e) r (suc n) f h = rw (tag_of_tag_word (one_tag o), read_words e r n f (omega arith)) refl
read_words (two o a b) r zero f h = absurd (omega arith)
read_words (two o a b) r (suc n) f h =
    let l = length-append (words a) (words b) in
    rw (
      tag_of_tag_word (two_tag o),
      append_assoc (words a) (words b) r,
      read_words a (words b ++ r) n f.0
          (omega arith),
      read_words b r n f.1 (omega arith),
    ) refl
read_words (if a b c) r zero f h = absurd (omega arith)
read_words (if a b c) r (suc n) f h =
    let l = length-append (words a) (words b ++ words c) in
    let m = length-append (words b) (words c) in
    rw (
      append_assoc (words a) (words b ++ words c) r,
      append_assoc (words b) (words c) r,
      read_words a
          (words b ++ (words c ++ r)) n f.0 (omega arith),
      read_words b (words c ++ r) n f.1 (omega arith),
      read_words
          c r n f.2 (omega arith),
    ) refl

-- what was read had been written
abbrev pub Got : {A : Type 0} → (A → List ℕ) → (A → Type 0) → List ℕ → A × List ℕ → Type 0
Got w ok ws p = (ws ≡ w p.0 ++ p.1) × ok p.0

abbrev pub Sound : {A : Type 0} → (A → List ℕ) → (A → Type 0) → Reader A → Type 0
Sound {A} w ok r = (ws : List ℕ) (p : A × List ℕ) → r ws ≡ some p → Got w ok ws p

abbrev Any : ScriptType → Type 0
Any A = Unit {0}

type_parts_sound : (r : Reader ScriptType) → Sound type_words Any r
    → (s : TypeTag) (ws : List ℕ) (p : ScriptType × List ℕ) → read_type_parts r s ws ≡ some p
    → type_tag_word s ∷ ws ≡ type_words p.0 ++ p.1
unfolding type_words
type_parts_sound r ok (basic_tag b) ws p h =
    along (λ p. type_tag_word (basic_tag b) ∷ ws ≡ type_words p.0 ++ p.1) (some_inj h) refl
type_parts_sound r ok reference_tag ws p h =
    let (a, ra, e) = ▸-some (r ws) (λ p. some (reference p.0, p.1)) h in
    let g = ok ws a ra in
    along (λ p. type_tag_word reference_tag ∷ ws ≡ type_words p.0 ++ p.1) (some_inj e) (cc g.0)
type_parts_sound r ok function_tag ws p h =
    let (a, ra, e) = ▸-some (r ws) (λ p. r p.1 ▸ λ q. some (function p.0 q.0, q.1)) h in
    let (b, rb, f) = ▸-some (r a.1) (λ q. some (function a.0 q.0, q.1)) e in
    let ga = ok ws a ra in
    let gb = ok a.1 b rb in
    along (λ p. type_tag_word function_tag ∷ ws ≡ type_words p.0 ++ p.1) (some_inj f)
    (rw append_assoc (cc (ga.0, gb.0)))

pub type_words_read : (n : ℕ) → Sound type_words Any (read_type n)
unfolding read_type
type_words_read zero ws p h = none≢some h
type_words_read (suc n) [] p h = none≢some h
type_words_read (suc n) (t ∷ ws) p h =
    let (s, rs, e) = ▸-some (type_tag_of t) (λ s. read_type_parts (λ v. read_type n v) s ws) h in (
      ap (λ t. t ∷ ws) (sym (type_tag_word_type_tag_of t rs)) ∙ type_parts_sound (λ v. read_type n v) (type_words_read n) s ws p
          e,
      tt,
    )

word_sound : (b : ℕ) (ws : List ℕ) (p : ℕ × List ℕ) → read_word b ws ≡ some p → (ws ≡ p.0 ∷ p.1) × (p.0 ≤ b)
word_sound b [] p h = none≢some h
word_sound b (w ∷ ws) p h =
    let (u, t, e) = ▸-some (test (leb w b)) (λ u. some (w, ws)) h in
    along (λ (p : ℕ × List ℕ). (w ∷ ws ≡ p.0 ∷ p.1) × (p.0 ≤ b)) (some_inj e)
    (refl, leb→le w b (test_some (leb w b) t))

parts_sound : (t : Reader ScriptType) (r : Reader Expression) → Sound type_words Any t → Sound words Formed r
    → (s : Tag) (ws : List ℕ) (p : Expression × List ℕ) → read_parts t r s ws ≡ some p
    → Got words Formed (tag_word s ∷ ws) p
unfolding words Formed
parts_sound t r okt ok (constant_tag c) ws p h =
    along (Got words Formed (tag_word (constant_tag c) ∷ ws)) (some_inj h) (refl, tt)
parts_sound t r okt ok (leaf_tag k) ws p h =
    let (a, ra, e) = ▸-some (read_word (largest k) ws) (λ p. some (leaf k p.0, p.1)) h in
    let g = word_sound (largest k) ws a ra in
    along (Got words Formed (tag_word (leaf_tag k) ∷ ws)) (some_inj e) (cc g.0, g.1)
parts_sound t r okt ok lambda_tag ws p h =
    let (x, rx, e) = ▸-some (read_word 255 ws)
    (λ p. t p.1 ▸ λ A. r A.1 ▸ λ q. some (lambda p.0 A.0 q.0, q.1)) h in
    let (A, r_a, f) = ▸-some (t x.1) (λ A. r A.1 ▸ λ q. some (lambda x.0 A.0 q.0, q.1)) e in
    let (a, ra, k) = ▸-some (r A.1) (λ q. some (lambda x.0 A.0 q.0, q.1)) f in
    let gx = word_sound 255 ws x rx in
    let g_a = okt x.1 A r_a in
    let ga = ok A.1 a ra in
    along (Got words Formed (tag_word lambda_tag ∷ ws)) (some_inj k)
    (rw append_assoc (cc (gx.0, g_a.0, ga.0)), (gx.1, ga.1))
parts_sound t r okt ok (one_tag o) ws p h =
    let (a, ra, e) = ▸-some (r ws) (λ p. some (one o p.0, p.1)) h in
    let g = ok ws a ra in
    along (Got words Formed (tag_word (one_tag o) ∷ ws)) (some_inj e) (cc g.0, g.1)
parts_sound t r okt ok (two_tag o) ws p h =
    let (a, ra, e) = ▸-some (r ws) (λ p. r p.1 ▸ λ q. some (two o p.0 q.0, q.1)) h in
    let (b, rb, f) = ▸-some (r a.1) (λ q. some (two o a.0 q.0, q.1)) e in
    let ga = ok ws a ra in
    let gb = ok a.1 b rb in
    along (Got words Formed (tag_word (two_tag o) ∷ ws)) (some_inj f)
    (rw append_assoc (cc (ga.0, gb.0)), (ga.1, gb.1))
parts_sound t r okt ok if_tag ws p h =
    let (a, ra, e) = ▸-some (r ws) (λ p. r p.1 ▸ λ q. r q.1 ▸ λ s. some (if p.0 q.0 s.0, s.1)) h in
    let (b, rb, f) = ▸-some (r a.1) (λ q. r q.1 ▸ λ s. some (if a.0 q.0 s.0, s.1)) e in
    let (c, rc, k) = ▸-some (r b.1) (λ s. some (if a.0 b.0 s.0, s.1)) f in
    let ga = ok ws a ra in
    let gb = ok a.1 b rb in
    let gc = ok b.1 c rc in
    along (Got words Formed (tag_word if_tag ∷ ws)) (some_inj k)
    (rw (append_assoc, append_assoc) (cc (ga.0, gb.0, gc.0)), (ga.1, gb.1, gc.1))

pub words_read : (n : ℕ) → Sound words Formed (read_expression n)
unfolding read_expression
words_read zero ws p h = none≢some h
words_read (suc n) [] p h = none≢some h
words_read (suc n) (t ∷ ws) p h =
    let (s, rs, e) = ▸-some (get_elem? tags t) (λ s. read_parts (λ v. read_type n v) (λ v. read_expression n v) s ws) h in
    let g = parts_sound (λ v. read_type n v) (λ v. read_expression n v) (type_words_read n) (words_read n) s ws p e in
    (ap (λ t. t ∷ ws) (sym (tag_word_tag_of t rs)) ∙ g.0, g.1)

-- so an expression's words are read in one way only, whatever follows them
pub words_unique : (e f : Expression) (r s : List ℕ) → Formed e → Formed f → words e ++ r ≡ words f ++ s
    → (e ≡ f) × (r ≡ s)
words_unique e f r s he hf q =
    let n = length (words e) + length (words f) in
    let p : ◌≡◌ {A = Option (Expression × List ℕ)} (some (e, r)) (some (f, s))
    = sym (read_words e r n he (omega arith)) ∙ ap (read_expression n) q ∙ read_words f s n hf (omega arith) in
    (ap (λ (p : Expression × List ℕ). p.0) (some_inj p), ap (λ (p : Expression × List ℕ). p.1) (some_inj p))
