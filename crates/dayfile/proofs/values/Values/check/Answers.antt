use Rattle.std.proofs.Common.{get_or, sym, ap, ◌∙◌, below_more}
use Rattle.dayfile.specs.declared.column.Column.TheVariants.{Call}
use Rattle.dayfile.specs.Steps.{good_cell}
use Rattle.dayfile.proofs.values.Values.check.Goals as goal

pub loop-place-preserved : goal.loop-place-preserved
loop-place-preserved c =
    below_more _ _ c.loop-place.invariant
    (ap (good_cell c.args.call (get_or c.args.self.now.order.columns c.loop-place.place Call)) (sym c.cell.ensures) ∙ sym c.accepts.ensures ∙ c.if-not-accepts.false)
