-- Types (01, "Expressions as words"): unit, bool, num, rev, ref T, function A B.

pub data Basic : Type 0 where
  unit_type bool_type num_type rev_type : Basic
  deriving Discrete as Basic-discrete

pub data ScriptType : Type 0 where
  basic : Basic → ScriptType
  reference : ScriptType → ScriptType
  function : ScriptType → ScriptType → ScriptType
  deriving Discrete as ScriptType-discrete
