-- `report::report` meets its contract: one law for each way through it.
use Rattle.image.proofs.Reporting.{report_valid, report_refused}
use Rattle.image.proofs.report.report.Goals as goal

pub returns : goal.returns
returns c = search report_valid

pub returns-then-not-is_valid : goal.returns-then-not-is_valid
returns-then-not-is_valid c = search report_refused
