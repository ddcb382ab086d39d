-- Two small tools of the definitions below: an answer that may be missing, handed on, and a test as such an answer.
use Rattle.std.proofs.Math.Option.{Option, none, some}
use Rattle.std.specs.Prelude.{Bool, true, false}

-- `m ▸ f`: f of what m holds, and none where m holds nothing
infixl 20 ◌▸◌
abbrev pub ◌▸◌ : {A B : Type 0} → Option A → (A → Option B) → Option B
none ▸ f = none
some a ▸ f = f a

abbrev pub test : Bool → Option (Unit {0})
test true = some tt
test false = none
