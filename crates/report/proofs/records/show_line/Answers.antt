-- The reader's refusal is the one said; an accepted line has none.
use Rattle.report.proofs.BillingLaws.{line_refused, line_taken}
use Rattle.report.proofs.records.show_line.Goals as goal

pub returns-in-Err : goal.returns-in-Err
returns-in-Err g c = line_refused _ c.read_line.ensures c.in-Err.is c.refuse_line.ensures

pub returns-in-Ok : goal.returns-in-Ok
returns-in-Ok g c = line_taken _ c.read_line.ensures c.in-Ok.is
