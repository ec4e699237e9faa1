use Rattle.cells.proofs.Numerals.{reads_back}
use Rattle.report.proofs.Sole.{report_only}
use Rattle.report.proofs.file.report.Goals as goal

pub returns : goal.returns
returns c = record { answer = c.printed_file.ensures; only = report_only; back = reads_back }
