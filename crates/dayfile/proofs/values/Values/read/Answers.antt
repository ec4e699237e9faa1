use Rattle.std.proofs.lemmas.Result.{err_from_is_err_and}
use Rattle.cells.specs.Cut.{line_in}
use Rattle.dayfile.proofs.Lines.{call_wrong, cell_wrong, has_numbers, all_asked}
use Rattle.dayfile.proofs.values.Values.read.Goals as goal

pub returns-in_err-call : goal.returns-in_err-call
returns-in_err-call c =
    let v = c.in_ok-values.values in
    let told = c.in_ok-values.ensures in
    let p = err_from_is_err_and c.from_residual-in_err-call.result c.from_residual-in_err-call.ensures.1 in
    rw (p.1, p.2, ← told.0, ← told.1, ← told.2) (call_wrong v.order v.number _ v.whole _ c.in_err-call.ensures)

pub returns-in_err-check : goal.returns-in_err-check
returns-in_err-check c =
    let v = c.in_ok-values.values in
    let told = c.in_ok-values.ensures in
    let p = err_from_is_err_and c.from_residual-in_err-check.result c.from_residual-in_err-check.ensures.1 in
    rw (p.1, p.2, ← told.0, ← told.1, ← told.2) (cell_wrong v.order v.number _ v.whole _ c.in_ok-call.ensures _ c.in_err-check.ensures)

pub row-requires : goal.row-requires
row-requires c =
    let v = c.in_ok-values.values in
    has_numbers v.order v.number (line_in v.cut) v.whole c.in_ok-call.call c.in_ok-call.ensures c.in_ok-check.ensures

pub returns : goal.returns
returns c =
    let v = c.in_ok-values.values in
    let told = c.in_ok-values.ensures in
    rw (c.row.ensures, ← told.0, ← told.1) (all_asked v.order v.number _ v.whole _ c.in_ok-call.ensures c.in_ok-check.ensures)
