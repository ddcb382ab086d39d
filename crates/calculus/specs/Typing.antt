-- The check (01, "The check"): the typing rules as a relation, one rule a line, and the same as a function; types of
-- states.
use Rattle.std.specs.Prelude.{ℕ, ◌≡◌, Bool, true, false, cond, T, eqb}
use Rattle.std.proofs.Math.Option.{Option, none, some}
use Rattle.calculus.specs.Options.{◌▸◌, test}
use Rattle.calculus.specs.Maps.{get}
use Rattle.calculus.specs.Types.{Basic-discrete, unit_type, bool_type, num_type, rev_type}
use Rattle.calculus.specs.Types.{ScriptType, basic, reference, function, ScriptType-discrete}
use Rattle.calculus.specs.Expressions.{Constant, unit, bool, Leaf, number, variable, location, revision}
use Rattle.calculus.specs.Expressions.{One, ref, read, fork, join, Arithmetic, add, subtract, less}
use Rattle.calculus.specs.Expressions.{Two, apply, assign, arithmetic}
use Rattle.calculus.specs.Expressions.{Expression, constant, leaf, lambda, one, two, if}
use Rattle.calculus.specs.Stores.{Cell, content, Store}
use Rattle.calculus.specs.States.{Task, State}

-- the type of each variable, of each location, that has one
abbrev pub Assignment : Type 0
Assignment = ℕ → Option ScriptType

abbrev pub nothing : Assignment
nothing n = none

abbrev pub bind : ℕ → ScriptType → Assignment → Assignment
bind x A Γ n = cond (eqb n x) (some A) (Γ n)

-- what the handles of a state mean: the types of locations, and which revision numbers have type rev
pub record World : Type 0 where
  pub cells : Assignment
  pub tasks : ℕ → Bool

-- a script names neither
abbrev pub no_world : World
no_world = record { cells = nothing; tasks = λ r. false }

abbrev pub constant_type : Constant → ScriptType
constant_type unit = basic unit_type
constant_type (bool t) = basic bool_type

-- "Add and subtract: num, num, num; less gives bool"
abbrev pub arithmetic_type : Arithmetic → ScriptType
arithmetic_type add = basic num_type
arithmetic_type subtract = basic num_type
arithmetic_type less = basic bool_type

-- `HasType W Γ e A`: by the rules e has type A, where Γ types the variables
pub data HasType (W : World) : Assignment → Expression → ScriptType → Type 0 where
  -- unit, bool, num constants have their types
  constant_rule : {Γ : Assignment} (c : Constant) → HasType W Γ (constant c) (constant_type c)
  number_rule : {Γ : Assignment} (n : ℕ) → HasType W Γ (leaf number n) (basic num_type)
  -- a variable has the type of its innermost lambda
  variable_rule : {Γ : Assignment} {x : ℕ} {A : ScriptType} → Γ x ≡ some A → HasType W Γ (leaf variable x) A
  -- in a state: a location by the one assignment, a revision number has type rev
  location_rule : {Γ : Assignment} {l : ℕ} {A : ScriptType} → W.cells l ≡ some A
      → HasType W Γ (leaf location l) (reference A)
  revision_rule : {Γ : Assignment} {r : ℕ} → T (W.tasks r) → HasType W Γ (leaf revision r) (basic rev_type)
  -- lambda x T e: function T to e's type
  lambda_rule : {Γ : Assignment} {x : ℕ} {A B : ScriptType} {e : Expression} → HasType W (bind x A Γ) e B
      → HasType W Γ (lambda x A e) (function A B)
  -- apply: function A B to A gives B
  apply_rule : {Γ : Assignment} {A B : ScriptType} {f a : Expression} → HasType W Γ f (function A B)
      → HasType W Γ a A → HasType W Γ (two apply f a) B
  -- if: bool, and branches of equal type, which is the result
  if_rule : {Γ : Assignment} {A : ScriptType} {a b c : Expression} → HasType W Γ a (basic bool_type)
      → HasType W Γ b A → HasType W Γ c A → HasType W Γ (if a b c) A
  -- ref T from T; read gives T; assign ref T, T gives unit
  ref_rule : {Γ : Assignment} {A : ScriptType} {e : Expression} → HasType W Γ e A
      → HasType W Γ (one ref e) (reference A)
  read_rule : {Γ : Assignment} {A : ScriptType} {e : Expression} → HasType W Γ e (reference A)
      → HasType W Γ (one read e) A
  assign_rule : {Γ : Assignment} {A : ScriptType} {a b : Expression} → HasType W Γ a (reference A)
      → HasType W Γ b A → HasType W Γ (two assign a b) (basic unit_type)
  -- fork of any typed body gives rev; join of rev gives unit
  fork_rule : {Γ : Assignment} {A : ScriptType} {e : Expression} → HasType W Γ e A
      → HasType W Γ (one fork e) (basic rev_type)
  join_rule : {Γ : Assignment} {e : Expression} → HasType W Γ e (basic rev_type)
      → HasType W Γ (one join e) (basic unit_type)
  -- add, subtract, less
  arithmetic_rule : {Γ : Assignment} (o : Arithmetic) {a b : Expression} → HasType W Γ a (basic num_type)
      → HasType W Γ b (basic num_type) → HasType W Γ (two (arithmetic o) a b) (arithmetic_type o)

-- the same as a function: "Types are equal only as equal words"
abbrev pub whether : {A : Type 0} → Dec A → Option (Unit {0})
whether (yes p) = some tt
whether (no h) = none

unfoldable pub equal : ScriptType → ScriptType → Option (Unit {0})
equal A B = whether (ScriptType-discrete Basic-discrete A B)

abbrev pub as_reference : ScriptType → Option ScriptType
as_reference (basic b) = none
as_reference (reference A) = some A
as_reference (function A B) = none

abbrev pub as_function : ScriptType → Option (ScriptType × ScriptType)
as_function (basic b) = none
as_function (reference A) = none
as_function (function A B) = some (A, B)

abbrev pub leaf_type : World → Assignment → Leaf → ℕ → Option ScriptType
leaf_type W Γ number n = some (basic num_type)
leaf_type W Γ variable n = Γ n
leaf_type W Γ location n = W.cells n ▸ λ A. some (reference A)
leaf_type W Γ revision n = test (W.tasks n) ▸ λ u. some (basic rev_type)

abbrev pub one_type : One → ScriptType → Option ScriptType
one_type ref A = some (reference A)
one_type read A = as_reference A
one_type fork A = some (basic rev_type)
one_type join A = equal A (basic rev_type) ▸ λ u. some (basic unit_type)

abbrev pub two_type : Two → ScriptType → ScriptType → Option ScriptType
two_type apply F A = as_function F ▸ λ p. equal p.0 A ▸ λ u. some p.1
two_type assign R A = as_reference R ▸ λ B. equal B A ▸ λ u. some (basic unit_type)
two_type (arithmetic o) A B =
    equal A (basic num_type) ▸ λ u. equal B (basic num_type) ▸ λ v. some (arithmetic_type o)

abbrev pub if_type : ScriptType → ScriptType → ScriptType → Option ScriptType
if_type A B C = equal A (basic bool_type) ▸ λ u. equal B C ▸ λ v. some B

unfoldable pub type_of : World → Assignment → Expression → Option ScriptType
type_of W Γ (constant c) = some (constant_type c)
type_of W Γ (leaf k n) = leaf_type W Γ k n
type_of W Γ (lambda x A e) = type_of W (bind x A Γ) e ▸ λ B. some (function A B)
type_of W Γ (one o e) = type_of W Γ e ▸ one_type o
type_of W Γ (two o a b) = type_of W Γ a ▸ λ A. type_of W Γ b ▸ λ B. two_type o A B
type_of W Γ (if a b c) = type_of W Γ a ▸ λ A. type_of W Γ b ▸ λ B. type_of W Γ c ▸ λ C. if_type A B C

-- in a state: one assignment of types to locations, a revision number has type rev
abbrev pub typed_by : Assignment → World
typed_by cells = record { cells = cells; tasks = λ r. true }

-- the assignment fits a store: it types every entry's location, and the entry's value has that type
abbrev pub FitsStore : Assignment → Store → Type 0
FitsStore cells m =
    (l : ℕ) (c : Cell) → get l m ≡ some c
    → (A : ScriptType) × (cells l ≡ some A) × HasType (typed_by cells) nothing (content c) A

-- "the same for all revisions and fitting every store"
pub record FitsState (cells : Assignment) (s : State) : Type 0 where
  pub snapshots : (r : ℕ) (me : Task) → get r s ≡ some me → FitsStore cells me.snapshot
  pub locals : (r : ℕ) (me : Task) → get r s ≡ some me → FitsStore cells me.local

-- "That is the meaning of: its value has the type"
pub record TypedIn (s : State) (v : Expression) (A : ScriptType) : Type 0 where
  pub cells : Assignment
  pub fits : FitsState cells s
  pub typed : HasType (typed_by cells) nothing v A
