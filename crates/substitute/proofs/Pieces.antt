-- The piece of a node: one law for each way through `piece_at`.
use Prim.Native.Nat.{ℕ, zero, suc, ◌+◌, ◌<◌, ◌≤◌}
use mathlib.Core.Path.{◌≡◌, refl, sym, ap, ◌∙◌, subst as along}
use mathlib.Core.Bool.{true, false}
use mathlib.Core.List.{List, [], append-nil}
use mathlib.Core.Option.{some}
use Rattle.std.specs.Borrow.{Bor}
use Rattle.std.specs.Prelude.{Option, Some, None}
use native.Mathlib.Omega.{arith}
use lib.ListN.{length}
use borrow.Author.Tests.{eq-eqb}
use Rattle.calculus.specs.Types.{ScriptType}
use Rattle.calculus.specs.Expressions.{variable, Expression, leaf, lambda}
use Rattle.calculus.specs.Words.{words}
use Rattle.calculus.specs.Formed.{Formed}
use Rattle.calculus.specs.Reading.{type_end}
use Rattle.calculus.specs.Substitution.{substituted}
use Rattle.calculus.proofs.Options.{none≢some, some_inj, ▸-some}
use Rattle.words.specs.declared.table.Row.{Row}
use Rattle.words.specs.declared.table.Kind.TheVariants.{Expression as ExpressionKind}
use Rattle.words.specs.declared.walk.Front.{Front}
use Rattle.words.specs.Rows.{tag_row}
use Rattle.words.specs.Walks.{walk_of, front_of, front, types_end}
use Rattle.words.specs.Names.{all_words, AllFormed}
use Rattle.words.proofs.Fronts.{front_within}
use Rattle.words.proofs.Ends.{type_stands, words_long}
use Rattle.words.proofs.Children.{walk_ends, walk_broken}
use Rattle.words.proofs.Standing.{head_tag, leaf_tagged}
use Rattle.image.specs.Standing.{Stands, EndsAt}
use Rattle.image.proofs.Standing.{headed, stands_left, stands_as}
use Rattle.write.specs.Cursor.{part}
use Rattle.write.proofs.Cursors.{part_stands}
use Rattle.substitute.specs.declared.Filling.{Filling}
use Rattle.substitute.specs.declared.Piece.{Piece}
use Rattle.substitute.specs.Substitutes.{all_substituted, Cut, Named, PieceOf, PieceAt}
use Rattle.substitute.proofs.Heads.{head, children, head_long, head_words_lem, children_formed, children_count}
use Rattle.substitute.proofs.Heads.{head_substituted, first_word, other, lambda_tagged, met}

abbrev piece : Bor (List ℕ) → ℕ → ℕ → Piece
piece ws next n = record { words = ws; children = record { at = next; count = n } }

-- types that start in the words end in them
types_high : (s : List ℕ) (n at e : ℕ) → at ≤ length s → types_end s n at ≡ some e → e ≤ length s
unfolding types_end
types_high s zero at e h q = let same : at ≡ e = some_inj q in omega arith
types_high s (suc n) at e h q =
    let (m, p, r) = ▸-some (type_end s at) (λ e. types_end s n e) q in
    types_high s n m e (type_stands s at m p).high r

-- a whole expression is passed, and `written` stands for it
whole_cut : (at x : ℕ) (v e : Expression) (ws : List ℕ) (p : ℕ) → words (substituted x v e) ≡ ws
    → p ≡ at + length (words e) → Cut at x v e ws (record { at = p; count = 0 })
unfolding all_words AllFormed all_substituted
whole_cut at x v e ws p r n =
    record {
      passed = words e;
      inner = [];
      whole = sym (append-nil (words e));
      result = r ∙ sym (append-nil ws);
      some = words_long e;
      next = n;
      count = refl;
      formed = tt;
    }

-- no front, no expression
pub piece_wrong : (s : List ℕ) (at : ℕ) (i : Filling) → None ≡ front_of s ExpressionKind at → (r : Option Piece)
    → r ≡ None → PieceAt s at i r
piece_wrong s at i q r z =
    along (PieceAt s at i) (sym z)
    (λ e g h. let m = (met s at e g h).front in cc)

module _ (s : List ℕ) (at : ℕ) (i : Filling) (f : Front) (q : Some f ≡ front_of s ExpressionKind at) where
  -- the front that was read is that of the expression that stands there
  front_of_lem : (e : Expression) (g : Formed e) (h : Stands s at (words e))
      → (f.row ≡ tag_row (head_tag e)) × (f.next ≡ (met s at e g h).next)
  front_of_lem e g h =
      let m = met s at e g h in
      let same : f ≡ front (tag_row (head_tag e)) m.next = cc (q, m.front) in
      (ap (λ (f : Front). f.row) same, ap (λ (f : Front). f.next) same)

  pub front_inside : at < length s
  front_inside = (front_within s ExpressionKind at f q).within

  pub front_few : f.row.types ≤ 2
  front_few = (front_within s ExpressionKind at f q).types

  -- the variable
  pub piece_variable : Named s at 4 i.x true → (r : Piece) → r ≡ piece i.value f.next 0 → PieceOf s at i r
  unfolding words substituted types_end
  piece_variable (l, k) r z =
      along (PieceOf s at i) (sym z)
      record {
        cut = λ e v g h p.
            let (m, y) = leaf_tagged variable e (sym (first_word e h) ∙ l) in
            along (λ (e : Expression). Cut at i.x v e (i.value.now) (record { at = f.next; count = 0 })) (sym y)
            (cut m v (along Formed y g) (stands_as (ap words y) h) p);
      }
    where
      cut : (m : ℕ) (v : Expression) → Formed (leaf variable m) → Stands s at (words (leaf variable m))
          → i.value.now ≡ words v → Cut at i.x v (leaf variable m) (i.value.now) (record { at = f.next; count = 0 })
      cut m v g h p =
          let own : m ≡ i.x = sym (headed (headed h).more).is ∙ k in
          let ends = some_inj (met s at (leaf variable m) g h).types in
          let to : f.next ≡ at + 2 = (front_of_lem (leaf variable m) g h).1 ∙ ends in
          whole_cut at i.x v (leaf variable m) (i.value.now) f.next (rw (eq-eqb m i.x own) (sym p)) (omega arith)

  -- a lambda of it
  pub piece_lambda : Named s at 7 i.x true → (end : ℕ) → EndsAt s at end
      → (ws : Bor (List ℕ)) → ws.now ≡ part s at end → (r : Piece) → r ≡ piece ws end 0 → PieceOf s at i r
  unfolding words substituted
  piece_lambda (l, k) end to ws d r z =
      along (PieceOf s at i) (sym z)
      record {
        cut = λ e v g h p.
            let (y, A, c, z) = lambda_tagged e (sym (first_word e h) ∙ l) in
            let n : end ≡ at + length (words e) = to.ends e g h in
            whole_cut at i.x v e ws.now end
            (kept y A c v (stands_as (ap words z) h) e z ∙ sym (d ∙ part_stands end h n)) n;
      }
    where
      kept : (y : ℕ) (A : ScriptType) (c v : Expression) → Stands s at (words (lambda y A c)) → (e : Expression)
          → e ≡ lambda y A c → words (substituted i.x v e) ≡ words e
      kept y A c v h e z =
          let own : y ≡ i.x = sym (headed (headed h).more).is ∙ k in rw (z, eq-eqb y i.x own) refl

  types_of : (e : Expression) → Formed e → Stands s at (words e)
      → types_end s f.row.types f.next ≡ some (at + length (head e))
  types_of e g h = let known = front_of_lem e g h in rw (known.0, known.1) (met s at e g h).types

  pub piece_broken : None ≡ walk_of (types_end s f.row.types f.next) → (r : Option Piece) → r ≡ None
      → PieceAt s at i r
  piece_broken k r z =
      along (PieceAt s at i) (sym z)
      λ e g h. none≢some (sym (walk_broken (types_end s f.row.types f.next) k) ∙ types_of e g h)

  -- any other node, of another own word or of another tag
  module _ (body : ℕ) (k : Some body ≡ walk_of (types_end s f.row.types f.next)) where
    at_body : types_end s f.row.types f.next ≡ some body
    at_body = walk_ends (types_end s f.row.types f.next) body k

    pub body_high : body ≤ length s
    body_high = types_high s f.row.types f.next body (front_within s ExpressionKind at f q).high at_body

    pub piece_other : Named s at 4 i.x false → Named s at 7 i.x false → (ws : Bor (List ℕ))
        → ws.now ≡ part s at body → PieceOf s at i (piece ws body f.row.children)
    piece_other no-variable no-lambda ws d =
        record {
          cut = λ e v g h p.
              let here : body ≡ at + length (head e) = some_inj (sym at_body ∙ types_of e g h) in
              let first = stands_left (head e) (all_words (children e)) (stands_as (head_words_lem e) h) in
              record {
                passed = head e;
                inner = children e;
                whole = head_words_lem e;
                result =
                    rw (d ∙ part_stands body first here)
                    (head_substituted i.x v e (other s at i.x e h no-variable no-lambda));
                some = head_long e;
                next = here;
                count = children_count e ∙ ap (λ (r : Row). r.children) (sym (front_of_lem e g h).0);
                formed = children_formed e g;
              };
        }
