-- Substitution (01, "One step", apply): a value for each free occurrence; an inner lambda of the same x shields its
-- body.
use Rattle.std.specs.Prelude.{ℕ, cond, eqb}
use Rattle.calculus.specs.Expressions.{Leaf, number, variable, location, revision}
use Rattle.calculus.specs.Expressions.{Expression, constant, leaf, lambda, one, two, if}

abbrev pub substituted_leaf : ℕ → Expression → Leaf → ℕ → Expression
substituted_leaf x v number n = leaf number n
substituted_leaf x v variable n = cond (eqb n x) v (leaf variable n)
substituted_leaf x v location n = leaf location n
substituted_leaf x v revision n = leaf revision n

-- v for each free x in the expression
unfoldable pub substituted : ℕ → Expression → Expression → Expression
substituted x v (constant c) = constant c
substituted x v (leaf k n) = substituted_leaf x v k n
substituted x v (lambda y A e) = lambda y A (cond (eqb y x) e (substituted x v e))
substituted x v (one o e) = one o (substituted x v e)
substituted x v (two o a b) = two o (substituted x v a) (substituted x v b)
substituted x v (if a b c) = if (substituted x v a) (substituted x v b) (substituted x v c)
