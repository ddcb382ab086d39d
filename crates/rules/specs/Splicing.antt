-- Words with others in place of some of them, as a closure writes them.
use Rattle.std.specs.Prelude.{ℕ, cond, List, ◌++◌, ltb}
use Rattle.std.specs.Borrow.{MutBor}
use Rattle.std.specs.Fn.{Once}
use Rattle.write.specs.Cursor.{part, Wrote}

-- the words from a to b, with ws for those from `from` to `end`, if these start among them
unfoldable pub spliced : List ℕ → ℕ → ℕ → ℕ → ℕ → List ℕ → List ℕ
spliced s a b from end ws =
    cond (ltb from a) (part s a b) (cond (ltb b from) (part s a b) (part s a from ++ (ws ++ part s end b)))

module _ {F : Type 0} (g : Once F (MutBor (List ℕ) × (ℕ × Unit {0})) (ℕ × (MutBor (List ℕ) × Unit {0}))) (f : F) where
  -- a call of f writes ws, wherever it writes
  pub record Writes (ws : List ℕ) : Type 0 where
    pub at : (o : MutBor (List ℕ)) (to r : ℕ) (o' : MutBor (List ℕ)) → g.post f (o, (to, tt)) (r, (o', tt))
        → Wrote ws o.now to r o'.now

  -- the words from a to b, with what f writes for those from `from` to `end`
  pub record Spliced (s : List ℕ) (a b from end : ℕ) (o : List ℕ) (to r : ℕ) (o' : List ℕ) : Type 0 where
    pub wrote : (ws : List ℕ) → Writes ws → Wrote (spliced s a b from end ws) o to r o'
