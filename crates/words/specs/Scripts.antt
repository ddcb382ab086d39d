-- What is told of words that are a script or none.
use Rattle.std.specs.Prelude.{ℕ, List, ◌≡◌, Result, Ok, Err}
use Rattle.calculus.specs.Expressions.{Expression}
use Rattle.calculus.specs.Answers.{script, no_script, script_of}
use Rattle.words.specs.declared.script.ScriptError.{ScriptError}
use Rattle.words.specs.declared.script.ScriptError.TheVariants.{NotFormed, HoldsHandle, NotClosed}

-- the number of the answer
abbrev pub script_number : ScriptError → ℕ
script_number NotFormed = 10
script_number HoldsHandle = 11
script_number NotClosed = 12

-- of the words: they are a script, or this is why they are none
abbrev pub ScriptTold : List ℕ → Result (Unit {0}) ScriptError → Type 0
ScriptTold ws (Ok u) = (e : Expression) × (script_of ws ≡ script e)
ScriptTold ws (Err k) = script_of ws ≡ no_script (script_number k)
