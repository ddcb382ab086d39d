-- Where a written type ends, by the reader of calculus, and the part of the script that it is.
use Prim.Native.Nat.{◌-◌, ◌≤◌, ◌<◌, ℕ, ◌+◌}
use mathlib.Core.List.{List, ◌++◌, []}
use mathlib.Core.Option.{some}
use mathlib.Core.Path.{◌≡◌, ap, refl, sym, ◌∙◌}
use native.Mathlib.Omega.{arith}
use lib.ListN.{length, drop, length-drop, length-append, take, length-take}
use lib.Seq.{take_at}
use Rattle.std.specs.Prelude.{Some, None}
use Rattle.calculus.specs.Reading.{type_end, read_type}
use Rattle.calculus.specs.Tags.{type_tag_word, basic_tag}
use Rattle.calculus.specs.Types.{ScriptType, Basic, unit_type, bool_type, num_type, rev_type}
use Rattle.calculus.specs.Words.{type_words}
use Rattle.words.specs.Walks.{walk_of}
use Rattle.typing.specs.Held.{Written, Named}
use Rattle.calculus.proofs.Options.{▸-some, some_inj, none≢some}
use Rattle.words.proofs.Children.{walk_ends, walk_broken}
use Rattle.words.proofs.Ends.{type_words_long}
use Rattle.calculus.proofs.Reading.{read_type_words, type_words_read}

pub basic_36 : (b : Basic) → type_tag_word (basic_tag b) < 36
basic_36 unit_type = omega arith
basic_36 bool_type = omega arith
basic_36 num_type = omega arith
basic_36 rev_type = omega arith

pub basic_32 : (b : Basic) → 32 ≤ type_tag_word (basic_tag b)
basic_32 unit_type = omega arith
basic_32 bool_type = omega arith
basic_32 num_type = omega arith
basic_32 rev_type = omega arith

-- a written type lies in the script
pub written_in : (s : List ℕ) (p : ℕ) (A : ScriptType) → Written s p A → p + length (type_words A) ≤ length s
written_in s p A w =
    let z : length (drop p s) ≡ length (type_words A ++ w.rest) = ap length w.is in
    omega (arith, type_words_long A, length-drop p s, simp length-append at z)

pub type_end_of : (s : List ℕ) (p : ℕ) (A : ScriptType) → Written s p A
    → type_end s p ≡ some (p + length (type_words A))
unfolding type_end
type_end_of s p A w =
    let l = written_in s p A w in
    rw (w.is, read_type_words A w.rest (length s) (omega arith)) refl

type_end_in : (s : List ℕ) (p e : ℕ) → type_end s p ≡ some e → (p < e) × (e ≤ length s)
unfolding type_end
type_end_in s p e h =
    let (q, u, v) = ▸-some (read_type (length s) (drop p s)) (λ q. some (p + length (type_words q.0))) h in
    let w : Written s p q.0 = record { rest = q.1; is = (type_words_read (length s) (drop p s) q u).0 } in
    let l = written_in s p q.0 w in
    let z : p + length (type_words q.0) ≡ e = some_inj v in
    (omega (arith, type_words_long q.0), omega arith)

-- what a walk over the type at p tells
module _ (s : List ℕ) (p e : ℕ) (q : Some e ≡ walk_of (type_end s p)) where
  is : type_end s p ≡ some e
  is = walk_ends (type_end s p) e q

  pub ends_of : (A : ScriptType) → Written s p A → e ≡ p + length (type_words A)
  ends_of A v = some_inj (sym is ∙ type_end_of s p A v)

  pub ends_after : p < e
  ends_after = (type_end_in s p e is).0

  pub ends_in : e ≤ length s
  ends_in = (type_end_in s p e is).1

  pub named_part : Named s p (take (e - p) (drop p s))
  named_part = record {
    short = omega (arith, length-take (e - p) (drop p s), length-drop p s);
    is = λ A v.
        let d : e - p ≡ length (type_words A) = let k = ends_of A v in omega arith in
        rw (d, v.is) (take_at (type_words A) v.rest _ refl);
  }

module _ (s : List ℕ) (p : ℕ) (q : None ≡ walk_of (type_end s p)) where
  pub ends_nowhere : (A : ScriptType) → Written s p A → ⊥
  ends_nowhere A v = none≢some (sym (walk_broken (type_end s p) q) ∙ type_end_of s p A v)

  pub named_none : Named s p []
  named_none = record { short = omega arith; is = λ A v. absurd (ends_nowhere A v) }
