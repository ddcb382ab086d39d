-- Redexes (01, "One step": "A redex is: ..."), and which one an expression is, if any.
use Rattle.std.specs.Prelude.{ℕ, Bool, true, false, cond}
use Rattle.std.proofs.Math.Option.{Option, none, some}
use Rattle.calculus.specs.Options.{◌▸◌}
use Rattle.calculus.specs.Types.{ScriptType}
use Rattle.calculus.specs.Expressions.{Constant, unit, bool, Leaf, number, variable, location, revision}
use Rattle.calculus.specs.Expressions.{One, ref, read, fork, join, Arithmetic, Two, apply, assign, arithmetic}
use Rattle.calculus.specs.Expressions.{Expression, constant, leaf, lambda, one, two, if}
use Rattle.calculus.specs.Formed.{value}
use Rattle.calculus.specs.Stores.{Cell, plain, content, maker}

pub record Lambda : Type 0 where
  pub variable : ℕ
  pub type : ScriptType
  pub body : Expression

pub data Redex : Type 0 where
  applying : Lambda → Expression → Redex
  choosing : Bool → Expression → Expression → Redex
  making : Cell → Redex
  reading : ℕ → Redex
  assigning : ℕ → Expression → Redex
  forking : Expression → Redex
  joining : ℕ → Redex
  calculating : Arithmetic → ℕ → ℕ → Redex

-- the expression that a redex is
abbrev pub expression_at : Redex → Expression
expression_at (applying f v) = two apply (lambda f.variable f.type f.body) v
expression_at (choosing t b c) = if (constant (bool t)) b c
expression_at (making c) = one (maker c) (content c)
expression_at (reading l) = one read (leaf location l)
expression_at (assigning l v) = two assign (leaf location l) v
expression_at (forking e) = one fork e
expression_at (joining r) = one join (leaf revision r)
expression_at (calculating o m n) = two (arithmetic o) (leaf number m) (leaf number n)

-- what a child is, where a rule asks: a value, a leaf of a kind, a lambda, true or false
abbrev pub as_value : Expression → Option Expression
as_value e = cond (value e) (some e) none

abbrev pub same_leaf : Leaf → Leaf → Bool
same_leaf number number = true
same_leaf number variable = false
same_leaf number location = false
same_leaf number revision = false
same_leaf variable number = false
same_leaf variable variable = true
same_leaf variable location = false
same_leaf variable revision = false
same_leaf location number = false
same_leaf location variable = false
same_leaf location location = true
same_leaf location revision = false
same_leaf revision number = false
same_leaf revision variable = false
same_leaf revision location = false
same_leaf revision revision = true

abbrev pub as_leaf : Leaf → Expression → Option ℕ
as_leaf k (constant c) = none
as_leaf k (leaf j n) = cond (same_leaf k j) (some n) none
as_leaf k (lambda x A e) = none
as_leaf k (one o e) = none
as_leaf k (two o a b) = none
as_leaf k (if a b c) = none

abbrev pub as_lambda : Expression → Option Lambda
as_lambda (constant c) = none
as_lambda (leaf k n) = none
as_lambda (lambda x A e) = some (record { variable = x; type = A; body = e })
as_lambda (one o e) = none
as_lambda (two o a b) = none
as_lambda (if a b c) = none

abbrev pub truth : Constant → Option Bool
truth unit = none
truth (bool t) = some t

abbrev pub as_truth : Expression → Option Bool
as_truth (constant c) = truth c
as_truth (leaf k n) = none
as_truth (lambda x A e) = none
as_truth (one o e) = none
as_truth (two o a b) = none
as_truth (if a b c) = none

-- "ref of a value; read of a location; any fork; join of a revision"
abbrev pub redex_one : One → Expression → Option Redex
redex_one ref e = as_value e ▸ λ v. some (making (plain v))
redex_one read e = as_leaf location e ▸ λ l. some (reading l)
redex_one fork e = some (forking e)
redex_one join e = as_leaf revision e ▸ λ r. some (joining r)

-- "apply of a lambda to a value; assign of a location and a value; add, subtract or less of two numbers"
abbrev pub redex_two : Two → Expression → Expression → Option Redex
redex_two apply a b = as_lambda a ▸ λ f. as_value b ▸ λ v. some (applying f v)
redex_two assign a b = as_leaf location a ▸ λ l. as_value b ▸ λ v. some (assigning l v)
redex_two (arithmetic o) a b = as_leaf number a ▸ λ m. as_leaf number b ▸ λ n. some (calculating o m n)

-- "if of true or false"
abbrev pub redex_if : Expression → Expression → Expression → Option Redex
redex_if a b c = as_truth a ▸ λ t. some (choosing t b c)

abbrev pub redex : Expression → Option Redex
redex (constant c) = none
redex (leaf k n) = none
redex (lambda x A e) = none
redex (one o e) = redex_one o e
redex (two o a b) = redex_two o a b
redex (if a b c) = redex_if a b c
