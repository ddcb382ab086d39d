-- A report as the paper's: its number, the marks and their count.
use Rattle.std.specs.Prelude.{Result, Ok, Err, false, replicate}
use Rattle.calculus.specs.Answers.{Report}
use Rattle.words.specs.declared.in_use.InUse.{InUse}
use Rattle.image.specs.declared.report.NotValid.{NotValid}

-- a refusal is the number 8, with no marks
abbrev pub report_of : Result InUse NotValid → Report
report_of (Ok used) = record { number = 0; marks = used.marks; count = used.count }
report_of (Err refused) = record { number = 8; marks = replicate 64 false; count = 0 }
