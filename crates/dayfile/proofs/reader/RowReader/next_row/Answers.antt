use Rattle.dayfile.proofs.Unique.{rows_only}
use Rattle.dayfile.proofs.reader.RowReader.next_row.Goals as goal

pub returns-clause-only : goal.returns-clause-only
returns-clause-only c = rows_only
