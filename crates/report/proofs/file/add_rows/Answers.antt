use Rattle.report.proofs.Printed.{entries_read}
use Rattle.report.proofs.file.add_rows.Goals as goal

pub returns : goal.returns
returns c =
    let read = entries_read c.loop-entry.yielded _ _ c.loop-entry.yielded_by c.in-None.ensures.steps.0 in
    (c.loop-entry.yielded, rw c.into_iter-entry-iterator.ensures.into_iter_gives at read, c.loop-entry.invariant)
