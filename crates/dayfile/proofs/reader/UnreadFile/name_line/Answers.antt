use Rattle.std.proofs.Common.{sym, ◌∙◌}
use Rattle.cells.proofs.Feeds.{lines_first}
use Rattle.dayfile.proofs.reader.UnreadFile.name_line.Goals as goal

pub returns : goal.returns
returns c = rw (← c.self.view_is) (c.part_at.ensures.bytes ∙ sym (lines_first c.self.inside.bytes.now))
