use Rattle.detect.specs.Report.{report_of}
use Rattle.detect.proofs.report.report_of.Goals as goal

pub returns : goal.returns
unfolding report_of
returns c = rw (c.exact.ensures, c.written.ensures, c.fraction.ensures)
