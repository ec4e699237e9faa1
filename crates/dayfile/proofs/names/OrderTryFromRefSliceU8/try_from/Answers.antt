use Rattle.std.proofs.lemmas.Result.{err_from_is_err_and}
use Rattle.dayfile.proofs.Orders.{names_stop, names_more, names_over, names_all, names_once}
use Rattle.dayfile.proofs.names.OrderTryFromRefSliceU8.try_from.Goals as goal

pub returns-in_err-columns : goal.returns-in_err-columns
returns-in_err-columns c =
    let p = err_from_is_err_and c.from_residual.result c.from_residual.ensures.1 in
    rw (p.1, p.2) (names_stop _ _ _ c.loop-i-test.true c.loop-i.invariant.0 c.loop-i.invariant.1 _ (rw c.cut-cut.ensures.line at c.in_err-columns.ensures))

pub loop-i-preserved : goal.loop-i-preserved
loop-i-preserved c =
    names_more _ _ _ c.loop-i-test.true c.loop-i.invariant.0 c.loop-i.invariant.1 _ (rw c.cut-cut.ensures.line at c.in_ok-columns.ensures)

pub returns-in_err-no_more : goal.returns-in_err-no_more
returns-in_err-no_more c =
    let told = rw c.cut-cut.ensures.line at c.in_err-no_more.ensures in
    let p = err_from_is_err_and c.from_residual-in_err-no_more.result c.from_residual-in_err-no_more.ensures.1 in
    rw (p.1, p.2) (names_over _ _ _ c.loop-i-test.false c.loop-i.invariant.0 c.loop-i.invariant.1 _ told.0 told.1)

pub invariant_of-result : goal.invariant_of-result
invariant_of-result c = record { count = c.loop-i.invariant.0; once = names_once _ _ _ c.loop-i-test.false c.loop-i.invariant.0 c.loop-i.invariant.1 }

pub returns : goal.returns
returns c = names_all _ _ _ c.loop-i-test.false c.loop-i.invariant.0 c.loop-i.invariant.1 (rw c.cut-cut.ensures.line at c.in_ok-no_more.ensures)
