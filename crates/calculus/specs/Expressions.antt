-- Expressions as trees (01, "Expressions as words"): one constructor for each number of children, the operator inside.
use Rattle.std.specs.Prelude.{ℕ, Bool}
use Rattle.calculus.specs.Types.{ScriptType}

-- unit, false and true
pub data Constant : Type 0 where
  unit : Constant
  bool : Bool → Constant

-- what the one own word of a leaf is
pub data Leaf : Type 0 where
  number variable location revision : Leaf

pub data One : Type 0 where
  ref read fork join : One

pub data Arithmetic : Type 0 where
  add subtract less : Arithmetic

pub data Two : Type 0 where
  apply assign : Two
  arithmetic : Arithmetic → Two

pub data Expression : Type 0 where
  constant : Constant → Expression
  leaf : Leaf → ℕ → Expression
  lambda : ℕ → ScriptType → Expression → Expression
  one : One → Expression → Expression
  two : Two → Expression → Expression → Expression
  if : Expression → Expression → Expression → Expression
