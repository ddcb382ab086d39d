-- A refused report: no marks, whose bits make 0.
use Prim.Native.Nat.{ℕ, zero, suc}
use mathlib.Core.Path.{◌≡◌, refl, sym}
use mathlib.Core.Bool.{false}
use native.Mathlib.Omega.{arith}
use lib.ListN.{replicate}
use Rattle.std.specs.Prelude.{Result, Err}
use Rattle.words.specs.declared.in_use.InUse.{InUse}
use Rattle.image.specs.declared.report.NotValid.{NotValid}
use Rattle.image.specs.Reports.{report_of}
use Rattle.host.specs.Host.{bits, Reports}

pub bits_clear : (n : ℕ) → bits (replicate n false) ≡ 0
unfolding bits
bits_clear zero = refl
bits_clear (suc n) = let e = bits_clear n in omega arith

pub refused_report : (found : Result InUse NotValid) (e : NotValid) → found ≡ Err e
    → Reports (report_of found) (record { number = 8; count = 0; marks = 0 })
refused_report found e i = rw i (record { answered = refl; counted = refl; marked = sym (bits_clear 64) })
