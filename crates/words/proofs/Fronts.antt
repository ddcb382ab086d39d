-- The front of a node: one law for each way through `front_of_kind`, and what a right front says.
use Prim.Native.Nat.{ℕ, ◌+◌, ◌<◌, ◌≤◌}
use mathlib.Core.Bool.{Bool, true, false, not, beq}
use mathlib.Core.List.{List}
use mathlib.Core.Path.{subst as along, ◌≡◌, refl, sym, ap, ◌∙◌}
use native.Mathlib.Omega.{arith}
use native.Mathlib.Decide.{dec_lt}
use denote.Enum.Bare.{sameb}
use lib.Dec.{ltb, leb}
use lib.ListN.{length, get_or}
use borrow.Author.Tests.{lt-ltb, le-ltb, ltb-true, lt-leb, le-leb}
use Rattle.std.specs.Prelude.{Option, Some, None}
use Rattle.calculus.specs.Numbers.{choose}
use Rattle.words.specs.contracts.table.Kind.{the_type}
use Rattle.words.specs.declared.table.Kind.{Kind}
use Rattle.words.specs.declared.table.Kind.TheVariants.{Expression, «Type» as TypeKind}
use Rattle.words.specs.declared.table.Row.{Row}
use Rattle.words.specs.declared.walk.Front.{Front}
use Rattle.words.specs.Rows.{row_of}
use Rattle.words.specs.Walks.{front_of, front, own_front, row_front, is_kind}
use Rattle.words.proofs.Rows.{low_kind, high_kind, Small, small}

-- the answers of a test whether two kinds differ
pub kinds_differ : (a b : Kind) → true ≡ not (sameb the_type a b) → is_kind a b ≡ false
kinds_differ Expression Expression e = cc
kinds_differ Expression TypeKind e = refl
kinds_differ TypeKind Expression e = refl
kinds_differ TypeKind TypeKind e = cc

pub kinds_agree : (a b : Kind) → false ≡ not (sameb the_type a b) → is_kind a b ≡ true
kinds_agree Expression Expression e = refl
kinds_agree Expression TypeKind e = cc
kinds_agree TypeKind Expression e = cc
kinds_agree TypeKind TypeKind e = refl

-- The code's test of a kind against a tag, before it has the row: the tags of types are those from 32 on. It tells
-- whether the row is of the kind.
module _ (k : Kind) (w : ℕ) (b : Bool) (i : b ≡ sameb the_type k TypeKind) where
  pub kind_told : (n : Row) → Some n ≡ row_of w → is_kind n.kind k ≡ beq b (leb 32 w)
  kind_told n e = rw i (go (dec_lt w 32))
    where
      low : (k : Kind) → is_kind Expression k ≡ beq (sameb the_type k TypeKind) false
      low Expression = refl
      low TypeKind = refl

      high : (k : Kind) → is_kind TypeKind k ≡ beq (sameb the_type k TypeKind) true
      high Expression = refl
      high TypeKind = refl

      go : Dec (w < 32) → is_kind n.kind k ≡ beq (sameb the_type k TypeKind) (leb 32 w)
      go (yes h) = rw (low_kind w n h e, lt-leb 32 w h) (low k)
      go (no h) = rw (high_kind w n (omega arith) e, le-leb 32 w (omega arith)) (high k)

pub front_out : (s : List ℕ) (k : Kind) (at : ℕ) → length s ≤ at → None ≡ front_of s k at
unfolding front_of
front_out s k at h = rw (le-ltb at (length s) h) refl

module _ (s : List ℕ) (k : Kind) (at : ℕ) (h : at < length s) (w : ℕ) (v : w ≡ get_or s at 0) where
  pub front_untagged : None ≡ row_of w → None ≡ front_of s k at
  unfolding front_of
  front_untagged e = rw (lt-ltb at (length s) h, ← v, ← e) refl

  module _ (n : Row) (e : Some n ≡ row_of w) where
    pub front_other : is_kind n.kind k ≡ false → None ≡ front_of s k at
    unfolding front_of
    front_other d = rw (lt-ltb at (length s) h, ← v, ← e, d) refl

    module _ (d : is_kind n.kind k ≡ true) where
      pub by_own : front_of s k at ≡ own_front s n n.limit (at + 1)
      unfolding front_of
      by_own = rw (lt-ltb at (length s) h, ← v, ← e, d) refl

      pub front_bare : n.limit ≡ None → Some (front n (at + 1)) ≡ front_of s k at
      front_bare z = sym (by_own ∙ ap (λ (o : Option ℕ). own_front s n o (at + 1)) z)

      module _ (b : ℕ) (z : n.limit ≡ Some b) where
        limited : front_of s k at ≡ own_front s n (Some b) (at + 1)
        limited = by_own ∙ ap (λ (o : Option ℕ). own_front s n o (at + 1)) z

        pub front_short : length s ≤ at + 1 → None ≡ front_of s k at
        front_short l = rw (limited, le-ltb (at + 1) (length s) l) refl

        module _ (l : at + 1 < length s) (x : ℕ) (i : x ≡ get_or s (at + 1) 0) where
          pub front_fine : x < b → Some (front n (at + 1 + 1)) ≡ front_of s k at
          front_fine j = rw (limited, lt-ltb (at + 1) (length s) l, ← i, lt-ltb x b j) refl

          pub front_over : b ≤ x → None ≡ front_of s k at
          front_over j = rw (limited, lt-ltb (at + 1) (length s) l, ← i, le-ltb x b j) refl

  -- no front of the kind, if no row that the word can have is of the kind
  pub front_elsewhere : ((n : Row) → Some n ≡ row_of w → is_kind n.kind k ≡ false) → None ≡ front_of s k at
  front_elsewhere f = go (row_of w) refl
    where
      go : (o : Option Row) → row_of w ≡ o → None ≡ front_of s k at
      go None e = front_untagged (sym e)
      go (Some n) e = front_other n (sym e) (f n (sym e))

-- where a right front stands, and its row
pub record Fronted (s : List ℕ) (k : Kind) (at : ℕ) (n : Row) (next : ℕ) : Type 0 where
  pub within : at < length s
  pub low : at + 1 ≤ next
  pub high : next ≤ length s
  pub row : Some n ≡ row_of (get_or s at 0)
  pub kind : is_kind n.kind k ≡ true
  pub types : n.types ≤ 2
  pub children : n.children ≤ 3

pub front_within : (s : List ℕ) (k : Kind) (at : ℕ) (g : Front) → Some g ≡ front_of s k at
    → Fronted s k at g.row g.next
unfolding front_of
front_within s k at g q = start (ltb at (length s)) (row_of (get_or s at 0)) refl refl (sym q)
  where
    ends : at < length s → (m : Row) → row_of (get_or s at 0) ≡ Some m → is_kind m.kind k ≡ true → (p : ℕ)
        → at + 1 ≤ p → p ≤ length s → Some (front m p) ≡ Some g → Fronted s k at g.row g.next
    ends h m e i p low high t =
        let same : front m p ≡ g = cc in
        let c : Small m = small (get_or s at 0) m e in
        along (λ (g : Front). Fronted s k at g.row g.next) same
        (record { within = h; low = low; high = high; row = sym e; kind = i; types = c.types; children = c.children })

    own : at < length s → (m : Row) → row_of (get_or s at 0) ≡ Some m → is_kind m.kind k ≡ true → (o : Option ℕ)
        → own_front s m o (at + 1) ≡ Some g → Fronted s k at g.row g.next
    own h m e i None t = ends h m e i (at + 1) (omega arith) (omega arith) t
    own h m e i (Some b) t = below (ltb (at + 1) (length s)) (ltb (get_or s (at + 1) 0) b) refl t
      where
        below : (x y : Bool) → ltb (at + 1) (length s) ≡ x
            → choose x (choose y (Some (front m (at + 1 + 1))) None) None ≡ Some g → Fronted s k at g.row g.next
        below false y j t = cc
        below true false j t = cc
        below true true j t =
            ends h m e i (at + 1 + 1) (omega arith) (omega (arith, ltb-true (at + 1) (length s) j)) t

    row : at < length s → (m : Row) → row_of (get_or s at 0) ≡ Some m → (b : Bool) → is_kind m.kind k ≡ b
        → choose b (own_front s m m.limit (at + 1)) None ≡ Some g → Fronted s k at g.row g.next
    row h m e false i t = cc
    row h m e true i t = own h m e i m.limit t

    start : (a : Bool) (o : Option Row) → ltb at (length s) ≡ a → row_of (get_or s at 0) ≡ o
        → choose a (row_front s k o (at + 1)) None ≡ Some g → Fronted s k at g.row g.next
    start false o i e t = cc
    start true None i e t = cc
    start true (Some m) i e t = row (ltb-true at (length s) i) m e (is_kind m.kind k) refl t
