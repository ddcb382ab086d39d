-- Numbers (01, "Expressions as words" and "One step"): the signed meaning of a word, and arithmetic modulo 65536.
use Rattle.std.specs.Prelude.{ℕ, ◌+◌, ◌-◌, ◌%◌, Bool, true, false, ℤ, pos, ◌-ℤ◌, ltb}
use Rattle.std.specs.Int.Signed.{lt_z}
use Rattle.calculus.specs.Expressions.{bool, number, Arithmetic, add, subtract, less, Expression, constant, leaf}

abbrev pub choose : {A : Type 0} → Bool → A → A → A
choose true a b = a
choose false a b = b

-- "Number word n means n below 32768, else n − 65536"
abbrev pub signed : ℕ → ℤ
signed n = choose (ltb n 32768) (pos n) (pos n -ℤ pos 65536)

-- "add and subtract wrap modulo 65536; less compares the signed meanings"
abbrev pub calculated : Arithmetic → ℕ → ℕ → Expression
calculated add m n = leaf number ((m + n) % 65536)
calculated subtract m n = leaf number ((m + (65536 - n)) % 65536)
calculated less m n = constant (bool (lt_z (signed m) (signed n)))
