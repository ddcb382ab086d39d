-- A report as C's: at most 64 numbers are in use, and of a refused report no mark is set.
use Rattle.std.proofs.Common.{arith, rules}
use Rattle.words.proofs.Marks.{count_few}
use Rattle.host.proofs.Reporting.{refused_report}
use Rattle.host.proofs.PulleyrushReportFromResultInUseNotValid.from.Goals as goal

pub overflow_cast-result : goal.overflow_cast-result
overflow_cast-result c =
    let few = count_few c.in-Ok.used.marks c.in-Ok.used.count 64 (search rules) c.in-Ok.used.counted in omega arith

pub returns-in-Err : goal.returns-in-Err
returns-in-Err c = search refused_report
