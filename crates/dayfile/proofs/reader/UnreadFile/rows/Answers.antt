use Rattle.std.proofs.Common.{length, refl, ap, ◌∙◌, arith}
use Rattle.cells.proofs.Feeds.{lines_first}
use Rattle.cells.proofs.Rejoined.{lines_are_so}
use Rattle.dayfile.proofs.Openings.{none_left, opened_none, opened_all}
use Rattle.dayfile.proofs.Unique.{names_only, rows_only}
use Rattle.dayfile.proofs.reader.UnreadFile.rows.Goals as goal

pub returns-in_default : goal.returns-in_default
returns-in_default c =
    let bs = c.self.inside.bytes.now in
    let told = rw (← c.self.view_is) at c.in_default.ensures in
    rw (← c.self.view_is)
    record {
      opened = opened_none bs c.in_default.field-0 _ refl told (none_left bs (length bs) (omega arith));
      so = lines_are_so;
      names_only = names_only;
      rows_only = rows_only;
    }

pub returns : goal.returns
returns c =
    let bs = c.self.inside.bytes.now in
    let told = rw (← c.self.view_is) at c.in-Ok.ensures in
    let line = rw (← c.self.view_is) at c.name_line-end.ensures in
    rw (← c.self.view_is)
    record {
      opened = opened_all bs _ _ refl told (ap length (line ∙ lines_first bs)) c.past.ensures.rest;
      so = lines_are_so;
      names_only = names_only;
      rows_only = rows_only;
    }
